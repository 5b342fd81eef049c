-- A reader of a whole list of tokens: what it answers, and where it stops.
use Rattle.std.proofs.Common.{◌≡◌, ℕ, suc, ◌+◌, ◌-◌, ◌<◌, ◌≤◌, List, [], ◌∷◌, ◌++◌, length, take, refl, sym, ap, ◌∙◌, subst, arith}
use Rattle.std.proofs.lemmas.List.{length-append, take_at}
use Rattle.vhdl_tokens.specs.declared.token.Token.{Token}
use Rattle.vhdl_reader_expressions.specs.Steps.{Answer, Found, Stopped, Spent, Parser, and_then, finish, whole}
use Rattle.vhdl_reader_expressions.proofs.Local.{Law, Carry, Carries, IsFine, bind_law, law_of, LawAt}
use Rattle.vhdl_reader_expressions.proofs.Sound.{Sound, reads}
use Rattle.vhdl_reader_expressions.proofs.FrontSteps.{Front, Viable, Some_of, Leads, none_before, ◌then◌}
use Rattle.vhdl_reader_expressions.proofs.Complete.{Reaches, bind_up, is_up, stops_not, one_answer, reaches_is}

-- nothing may follow
finish_law : {A : Type 0} {n : ℕ} (a : A) → Law n (finish a)
finish_law {n = n} a = law_of at
  where
    at : (ts : List Token) → LawAt n (finish a) ts
    at [] = record { sim = tt; fine = λ less. omega arith }
    at (t ∷ ts) = record { sim = ([], refl, λ other. refl); fine = λ less. omega arith }

-- two lists that have a front and the token behind it in common
cut : (front : List Token) (t : Token) (rest others : List Token) → take (suc (length front)) others ≡ take (suc (length front)) (front ++ t ∷ rest) → (more : List Token) × (others ≡ front ++ t ∷ more)
cut [] t rest [] e = absurd cc
cut [] t rest (u ∷ others) e = let same : u ≡ t = cc in (others, ap (λ x. x ∷ others) same)
cut (f ∷ front) t rest [] e = absurd cc
cut (f ∷ front) t rest (u ∷ others) e = let same : u ≡ f = cc in let below : take (suc (length front)) others ≡ take (suc (length front)) (front ++ t ∷ rest) = cc in
    let found = cut front t rest others below in (found.0, ap (λ x. x ∷ others) same ∙ ap (λ xs. f ∷ xs) found.1)

length_behind : (front : List Token) (t : Token) (rest : List Token) → length (front ++ t ∷ rest) ≡ length front + suc (length rest)
length_behind [] t rest = omega arith
length_behind (f ∷ front) t rest = let e = length_behind front t rest in omega arith

-- where a reader of whole lists stops: at a token with which none goes on, or behind the last one
pub record StopsAt {A : Type 0} (R : List Token → A → List Token → Type 0) (tokens : List Token) (place : ℕ) : Type 0 where
  pub within : place ≤ length tokens
  pub early : place < length tokens → (others : List Token) (a : A) → take (place + 1) others ≡ take (place + 1) tokens → R others a [] → ⊥
  pub ends : place ≡ length tokens → (a : A) → R tokens a [] → ⊥

-- a list of tokens that is whole by R
module _ {A : Type 0} (n : ℕ) (p : Parser A) (R : List Token → A → List Token → Type 0) (law : Law n p) (sound : Sound p R)
    (up : (ts : List Token) (a : A) → R ts a [] → Reaches p ts (Found a [])) where
  whole_law : Law n (whole p)
  unfolding whole
  whole_law = bind_law law (λ a. finish_law a)

  whole_up : (ts : List Token) (a : A) → R ts a [] → Reaches (whole p) ts (Found a [])
  unfolding whole
  whole_up ts a h = bind_up _ (up ts a h) (is_up refl)

  found_whole : (ts us : List Token) (a : A) (answer : Answer A) → p ts ≡ answer → and_then answer finish ≡ Found a us → R ts a [] × (us ≡ [])
  found_whole ts us a (Found b []) is e = let same : b ≡ a = cc in let none : us ≡ [] = cc in (subst (λ x. R ts x []) same (reads sound ts b [] is), none)
  found_whole ts us a (Found b (t ∷ rest)) is e = absurd cc
  found_whole ts us a (Stopped rest) is e = absurd cc
  found_whole ts us a Spent is e = absurd cc

  pub whole_found : (ts us : List Token) (a : A) → whole p ts ≡ Found a us → R ts a [] × (us ≡ [])
  unfolding whole
  whole_found ts us a e = found_whole ts us a (p ts) refl e

  fine_stopped : (k : ℕ) (us : List Token) (answer : Answer A) → answer ≡ Stopped us → IsFine k answer → length us ≤ k
  fine_stopped k us (Found a vs) e h = absurd cc
  fine_stopped k us (Stopped vs) e h = let same : vs ≡ us = cc in subst (λ x. length x ≤ k) same h
  fine_stopped k us Spent e h = absurd cc

  -- it never uses up its bounds
  pub whole_spends : (ts : List Token) → length ts < n → whole p ts ≡ Spent → ⊥
  whole_spends ts less e = subst (IsFine (length ts)) e (whole_law.fine ts less)

  stopped_at : (ts us : List Token) → whole p ts ≡ Stopped us → length us ≤ length ts → StopsAt R ts (length ts - length us)
  stopped_at ts [] e le = record { within = omega arith; early = λ less. absurd (omega arith); ends = λ is a h. stops_not e (whole_up ts a h) }
  stopped_at ts (t ∷ rest) e le = let carried : Carry (t ∷ rest) Stopped (whole p) ts = subst (λ answer. Carries answer (whole p) ts) e (whole_law.sim ts) in behind t rest carried.0 carried.1 carried.2
    where
      behind : (t : Token) (rest front : List Token) → ts ≡ front ++ t ∷ rest → ((other : List Token) → whole p (front ++ t ∷ other) ≡ Stopped (t ∷ other)) → StopsAt R ts (length ts - length (t ∷ rest))
      behind t rest front is all = let whole_length : length ts ≡ length front + suc (length rest) = ap length is ∙ length_behind front t rest in
          let place : (length ts - length (t ∷ rest)) + 1 ≡ suc (length front) = omega arith in
          record {
            within = omega arith;
            early = λ less others a same h. early t rest front is all others a (subst (λ k. take k others ≡ take k ts) place same) h;
            ends = λ same. absurd (omega arith);
          }
        where
          early : (t : Token) (rest front : List Token) → ts ≡ front ++ t ∷ rest → ((other : List Token) → whole p (front ++ t ∷ other) ≡ Stopped (t ∷ other))
              → (others : List Token) (a : A) → take (suc (length front)) others ≡ take (suc (length front)) ts → R others a [] → ⊥
          early t rest front is all others a same h = let found = cut front t rest others (same ∙ ap (take (suc (length front))) is) in
              stops_not (all found.0) (whole_up (front ++ t ∷ found.0) a (subst (λ xs. R xs a []) found.1 h))

  pub whole_stops : (ts us : List Token) → length ts < n → whole p ts ≡ Stopped us → StopsAt R ts (length ts - length us)
  whole_stops ts us less e = stopped_at ts us e (fine_stopped (length ts) us (whole p ts) e (whole_law.fine ts less))

  -- a list of tokens is at most one
  pub one_whole : (ts : List Token) (a b : A) → length ts < n → R ts a [] → R ts b [] → a ≡ b
  one_whole ts a b less g h = let same : Found a [] ≡ Found b [] = one_answer whole_law less (whole_up ts a g) (whole_up ts b h) in cc

  -- what is whole is found
  pub whole_is : (ts : List Token) (a : A) → length ts < n → R ts a [] → whole p ts ≡ Found a []
  whole_is ts a less h = reaches_is whole_law less (whole_up ts a h)

-- ---- what whole lists begin with

-- some whole list begins with the tokens before a place
pub record BeginsBefore {A : Type 0} (R : List Token → A → List Token → Type 0) (tokens : List Token) (place : ℕ) : Type 0 where
  pub others : List Token
  pub tree : A
  pub same : take place others ≡ take place tokens
  pub stands : R others tree []

-- tokens with the same ones before them have these in common
front_same : (g : Front) (us vs : List Token) → take (length (g.put us) - length us) (g.put vs) ≡ take (length (g.put us) - length us) (g.put us)
front_same g us vs = let many : length (g.put us) ≡ length g.tokens + length us = ap length (g.puts us) ∙ length-append g.tokens us in let place : length g.tokens ≡ length (g.put us) - length us = omega arith in
    ap (take (length (g.put us) - length us)) (g.puts vs) ∙ take_at g.tokens vs _ place ∙ sym (ap (take (length (g.put us) - length us)) (g.puts us) ∙ take_at g.tokens us _ place)

begun_by : {A : Type 0} (R : List Token → A → List Token → Type 0) (ts us : List Token) (g : Front) (vs : List Token) → ts ≡ g.put us → Some_of R (g.put vs) [] → BeginsBefore R ts (length ts - length us)
begun_by R ts us g vs is r = record {
  others = g.put vs;
  tree = r.0;
  same = subst (λ zs. take (length zs - length us) (g.put vs) ≡ take (length zs - length us) zs) (sym is) (front_same g us vs);
  stands = r.1;
}

module _ {A : Type 0} (p : Parser A) (R : List Token → A → List Token → Type 0) (viable : Viable p R) where
  begun_at : (ts us : List Token) (answer : Answer A) → Leads (λ a. Some_of R) none_before ts answer → and_then answer finish ≡ Stopped us → BeginsBefore R ts (length ts - length us)
  begun_at ts us (Found a []) h e = absurd cc
  begun_at ts us (Found a (t ∷ rest)) h e = let same : t ∷ rest ≡ us = cc in begun_by R ts us h.0 [] (subst (λ zs. ts ≡ h.0.put zs) same h.1) (h.2 [])
  begun_at ts us (Stopped vs) h e = let same : vs ≡ us = cc in begun_by R ts us h.0 (h.2.0.put []) (subst (λ zs. ts ≡ h.0.put zs) same h.1) (h.2.2 [])
  begun_at ts us Spent h e = absurd cc

  -- where the reader of whole lists stops, one begins with the tokens before
  pub whole_begins : (ts us : List Token) → whole p ts ≡ Stopped us → BeginsBefore R ts (length ts - length us)
  unfolding whole
  whole_begins ts us e = begun_at ts us (p ts) (viable.leads.holds none_before ts tt (λ vs. refl)) e
