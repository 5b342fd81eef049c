-- Readers that take a token, and the laws of lists.
use Rattle.std.proofs.Common.{◌≡◌, ℕ, zero, suc, ◌-◌, ◌<◌, ◌≤◌, Bool, true, false, Option, Some, None, List, [], ◌∷◌, ◌++◌, length, if◌then◌else◌, refl, arith}
use Rattle.vhdl_tokens.specs.declared.token.Kind.{Kind}
use Rattle.vhdl_tokens.specs.declared.token.Token.{Token}
use Rattle.vhdl_tree.specs.Words.{kind_of, place_of, line_of}
use Rattle.vhdl_reader_expressions.specs.Steps.{Answer, Found, Stopped, Spent, Parser, next, sees, and_then, ◌>>=◌, pure, stop, on, choose, choose_by, look, here, on_line, word, any, token, many_from, preceded_from, operations_from}
use Rattle.vhdl_reader_expressions.proofs.SeparatedReader.{separated}
use Rattle.vhdl_reader_expressions.proofs.NextToken.{first_kind}
use Rattle.vhdl_reader_expressions.proofs.Local.{LawAt, Law, at, law_of, law_down, like, bind_at, bind_law, on_at, choose_at, shrinks, next_less, choose_less, pure_law, any_law, word_law, token_law}

-- Where it begins with a token of these kinds, the reader takes one: of fewer than n tokens it leaves fewer than there were.
pub record Moves {A : Type 0} (n : ℕ) (begins : Option Kind → Bool) (p : Parser A) : Type 0 where
  pub takes : (ts : List Token) (a : A) (us : List Token) → length ts < n → begins (kind_of ts) ≡ true → p ts ≡ Found a us → length us < length ts

-- tokens of all kinds
abbrev pub always : Option Kind → Bool
always k = true

-- of fewer tokens
pub moves_down : {A : Type 0} {m n : ℕ} {begins : Option Kind → Bool} {p : Parser A} → m ≤ n → Moves n begins p → Moves m begins p
moves_down le moves = record { takes = λ ts a us less b e. moves.takes ts a us (omega arith) b e }

-- a reader that takes a token of any kind takes one of these
pub moves_of : {A : Type 0} {n : ℕ} {begins : Option Kind → Bool} {p : Parser A} → Moves n always p → Moves n begins p
moves_of moves = record { takes = λ ts a us less b e. moves.takes ts a us less refl e }

-- one that stops finds nothing
pub stop_moves : {A : Type 0} {n : ℕ} {begins : Option Kind → Bool} → Moves n begins (stop {A = A})
stop_moves = record { takes = λ ts a us less b e. absurd cc }

-- any token is one
pub any_moves : {n : ℕ} {begins : Option Kind → Bool} → Moves n begins any
any_moves {n = n} {begins = begins} = record { takes = takes }
  where
    takes : (ts : List Token) (a : Token) (us : List Token) → length ts < n → begins (kind_of ts) ≡ true → any ts ≡ Found a us → length us < length ts
    takes [] a us less b e = absurd cc
    takes (t ∷ ts) a us less b e = let same : ts ≡ us = cc in rw same (omega arith)

-- a token of a kind, or else
pub on_moves : {A : Type 0} {n : ℕ} {begins : Option Kind → Bool} (k : Kind) {hit miss : Parser A} → Law n hit → Moves n begins miss → Moves n begins (on k hit miss)
on_moves {A = A} {n = n} {begins = begins} k {hit = hit} {miss = miss} law moves = record { takes = λ ts a us less b e. takes ts a us less b (sees k ts) refl e }
  where
    takes : (ts : List Token) (a : A) (us : List Token) → length ts < n → begins (kind_of ts) ≡ true → (s : Bool) → sees k ts ≡ s
        → (if s then hit (next ts) else miss ts) ≡ Found a us → length us < length ts
    takes ts a us less b true is e = let h = next_less k ts is in let g : length us ≤ length (next ts) = shrinks law (next ts) a us e (omega arith) in omega arith
    takes ts a us less b false is e = moves.takes ts a us less b e

-- the same, where what is behind the token is one of fewer
pub enter_moves : {A : Type 0} {n : ℕ} {begins : Option Kind → Bool} (k : Kind) {hit miss : Parser A} → Law n hit → Moves (suc n) begins miss → Moves (suc n) begins (on k hit miss)
enter_moves {A = A} {n = n} {begins = begins} k {hit = hit} {miss = miss} law moves = record { takes = λ ts a us less b e. takes ts a us less b (sees k ts) refl e }
  where
    takes : (ts : List Token) (a : A) (us : List Token) → length ts < suc n → begins (kind_of ts) ≡ true → (s : Bool) → sees k ts ≡ s
        → (if s then hit (next ts) else miss ts) ≡ Found a us → length us < length ts
    takes ts a us less b true is e = let h = next_less k ts is in let g : length us ≤ length (next ts) = shrinks law (next ts) a us e (omega arith) in omega arith
    takes ts a us less b false is e = moves.takes ts a us less b e

-- a token of a table, or else
pub choose_moves : {O A : Type 0} {n : ℕ} {begins : Option Kind → Bool} (table : Option Kind → Option O) {hit : O → Parser A} {miss : Parser A} → table None ≡ None
    → ((o : O) → Law n (hit o)) → Moves n begins miss → Moves n begins (choose table hit miss)
choose_moves {O = O} {A = A} {n = n} {begins = begins} table {hit = hit} {miss = miss} closed law moves = record { takes = λ ts a us less b e. takes ts a us less b (table (kind_of ts)) refl e }
  where
    takes : (ts : List Token) (a : A) (us : List Token) → length ts < n → begins (kind_of ts) ≡ true → (c : Option O) → table (kind_of ts) ≡ c
        → choose_by c hit miss ts ≡ Found a us → length us < length ts
    takes ts a us less b (Some o) is e = let h = choose_less table ts o closed is in let g : length us ≤ length (next ts) = shrinks (law o) (next ts) a us e (omega arith) in omega arith
    takes ts a us less b None is e = moves.takes ts a us less b e

-- a word
pub word_moves : {n : ℕ} {begins : Option Kind → Bool} (k : Kind) → Moves n begins (word k)
unfolding word
word_moves k = on_moves k pure_law stop_moves

-- a token of a kind
pub token_moves : {n : ℕ} {begins : Option Kind → Bool} (k : Kind) → Moves n begins (token k)
unfolding token
token_moves {n = n} {begins = begins} k = record { takes = λ ts a us less b e. takes ts a us less b (sees k ts) e }
  where
    takes : (ts : List Token) (a : Token) (us : List Token) → length ts < n → begins (kind_of ts) ≡ true → (s : Bool)
        → (if s then any ts else Stopped ts) ≡ Found a us → length us < length ts
    takes ts a us less b true e = (any_moves {begins = begins}).takes ts a us less b e
    takes ts a us less b false e = absurd cc

-- the first of two takes a token
pub bind_moves : {A B : Type 0} {n : ℕ} {begins : Option Kind → Bool} {p : Parser A} {f : A → Parser B} → Moves n begins p → ((a : A) → Law n (f a)) → Moves n begins (p >>= f)
bind_moves {A = A} {B = B} {n = n} {begins = begins} {p = p} {f = f} moves law = record { takes = λ ts b us less start e. takes ts b us less start (p ts) refl e }
  where
    takes : (ts : List Token) (b : B) (us : List Token) → length ts < n → begins (kind_of ts) ≡ true → (r : Answer A) → p ts ≡ r → and_then r f ≡ Found b us → length us < length ts
    takes ts b us less start (Found a vs) is e =
        let h = moves.takes ts a vs less start is in let g : length us ≤ length vs = shrinks (law a) vs b us e (omega arith) in omega arith
    takes ts b us less start (Stopped vs) is e = absurd cc
    takes ts b us less start Spent is e = absurd cc

-- the second of two takes a token
pub behind_moves : {A B : Type 0} {n : ℕ} {begins : Option Kind → Bool} {p : Parser A} {f : A → Parser B} → Law n p → ((a : A) → Moves n always (f a)) → Moves n begins (p >>= f)
behind_moves {A = A} {B = B} {n = n} {begins = begins} {p = p} {f = f} law moves = record { takes = λ ts b us less start e. takes ts b us less (p ts) refl e }
  where
    takes : (ts : List Token) (b : B) (us : List Token) → length ts < n → (r : Answer A) → p ts ≡ r → and_then r f ≡ Found b us → length us < length ts
    takes ts b us less (Found a vs) is e =
        let h : length vs ≤ length ts = shrinks law ts a vs is less in let g : length us < length vs = (moves a).takes vs b us (omega arith) refl e in omega arith
    takes ts b us less (Stopped vs) is e = absurd cc
    takes ts b us less Spent is e = absurd cc

-- by what hangs on the next token
pub look_moves : {O A : Type 0} {n : ℕ} {begins : Option Kind → Bool} (test : Option Kind → O) (f : O → Parser A) → ((o : O) → Moves n begins (f o)) → Moves n begins (look test f)
look_moves test f moves = record { takes = λ ts a us less b e. (moves (test (kind_of ts))).takes ts a us less b e }

-- by its place
pub here_moves : {A : Type 0} {n : ℕ} {begins : Option Kind → Bool} (f : ℕ → Parser A) → ((place : ℕ) → Moves n begins (f place)) → Moves n begins (here f)
here_moves f moves = record { takes = λ ts a us less b e. (moves (place_of ts)).takes ts a us less b e }

-- by its line
pub on_line_moves : {A : Type 0} {n : ℕ} {begins : Option Kind → Bool} (f : ℕ → Parser A) → ((line : ℕ) → Moves n begins (f line)) → Moves n begins (on_line f)
on_line_moves f moves = record { takes = λ ts a us less b e. (moves (line_of ts)).takes ts a us less b e }

-- ---- behind a reader that takes a token, there is one less

pub bind_enter : {A B : Type 0} {n : ℕ} {p : Parser A} {f : A → Parser B} → Law (suc n) p → Moves (suc n) always p → ((a : A) → Law n (f a)) → Law (suc n) (p >>= f)
bind_enter {p = p} {f = f} law moves each = law_of (λ ts. bind_at p f ts (at law ts) (λ a us e. at (each a) us)
    (λ a us e less. let h = moves.takes ts a us less refl e in omega arith))

-- behind a word
pub word_enter : {A : Type 0} {n : ℕ} (k : Kind) {f : Unit {0} → Parser A} → ((a : Unit {0}) → Law n (f a)) → Law (suc n) (word k >>= f)
word_enter k each = bind_enter (word_law k) (word_moves k) each

-- behind any token
pub any_enter : {A : Type 0} {n : ℕ} {f : Token → Parser A} → ((t : Token) → Law n (f t)) → Law (suc n) (any >>= f)
any_enter each = bind_enter any_law any_moves each

-- behind a token of a kind
pub token_enter : {A : Type 0} {n : ℕ} (k : Kind) {f : Token → Parser A} → ((t : Token) → Law n (f t)) → Law (suc n) (token k >>= f)
token_enter k each = bind_enter (token_law k) (token_moves k) each

-- ---- lists: as many turns suffice as there may be tokens

many_turn : {A : Type 0} (m n : ℕ) (begins : Option Kind → Bool) (p : Parser A) (found : List A) (ts : List Token) (b : Bool) → begins (kind_of ts) ≡ b → Law n p → Moves n begins p
    → ((more : List A) (us : List Token) → LawAt (n - 1) (many_from m begins p more) us) → LawAt n (many_from (suc m) begins p found) ts
unfolding many_from
many_turn m n begins p found ts true is law moves again = like (p >>= (λ a. many_from m begins p (found ++ a ∷ []))) (many_from (suc m) begins p found) ts
    (λ us same. rw (first_kind us ts same, is) refl)
    (bind_at p (λ a. many_from m begins p (found ++ a ∷ [])) ts (at law ts) (λ a us e. again (found ++ a ∷ []) us) (λ a us e less. let h = moves.takes ts a us less is e in omega arith))
many_turn m n begins p found ts false is law moves again = like (pure found) (many_from (suc m) begins p found) ts (λ us same. rw (first_kind us ts same, is) refl) (at pure_law ts)

many_at : {A : Type 0} (m n : ℕ) (begins : Option Kind → Bool) (p : Parser A) (found : List A) → n ≤ m → Law n p → Moves n begins p → (ts : List Token) → LawAt n (many_from m begins p found) ts
unfolding many_from
many_at zero n begins p found le law moves ts = record { sim = tt; fine = λ less. absurd (omega arith) }
many_at (suc m) n begins p found le law moves ts = many_turn m n begins p found ts (begins (kind_of ts)) refl law moves
    (λ more us. many_at m (n - 1) begins p more (omega arith) (law_down (omega arith) law) (moves_down (omega arith) moves) us)

-- { x }
pub many_law : {A : Type 0} (m : ℕ) {n : ℕ} {begins : Option Kind → Bool} {p : Parser A} (found : List A) → n ≤ m → Law n p → Moves n begins p → Law n (many_from m begins p found)
many_law m {n = n} {begins = begins} {p = p} found le law moves = law_of (λ ts. many_at m n begins p found le law moves ts)

preceded_at : {A : Type 0} (m n : ℕ) (w : Kind) (p : Parser A) (found : List A) → n ≤ m → Law n p → (ts : List Token) → LawAt n (preceded_from m w p found) ts
unfolding preceded_from
preceded_at zero n w p found le law ts = record { sim = tt; fine = λ less. absurd (omega arith) }
preceded_at (suc m) n w p found le law ts = on_at w (p >>= (λ a. preceded_from m w p (found ++ a ∷ []))) (pure found) ts (sees w ts) refl
    (λ e less. let h = next_less w ts e in omega arith)
    (λ e. bind_at {n = n - 1} p (λ a. preceded_from m w p (found ++ a ∷ [])) (next ts) (at (law_down (omega arith) law) (next ts))
    (λ a us is. preceded_at m (n - 1) w p (found ++ a ∷ []) (omega arith) (law_down (omega arith) law) us)
    (λ a us is less. let h = shrinks law (next ts) a us is (omega arith) in omega arith))
    (λ e. at pure_law ts)

-- { w x }
pub preceded_law : {A : Type 0} (m : ℕ) {n : ℕ} (w : Kind) {p : Parser A} (found : List A) → n ≤ m → Law n p → Law n (preceded_from m w p found)
preceded_law m {n = n} w {p = p} found le law = law_of (λ ts. preceded_at m n w p found le law ts)

-- x { w x }
pub separated_law : {A : Type 0} (m : ℕ) {n : ℕ} (w : Kind) {p : Parser A} → n ≤ m → Law n p → Law n (separated m w p)
separated_law m w le law = bind_law law (λ a. preceded_law m w (a ∷ []) le law)

operations_at : {O A B : Type 0} (m n : ℕ) (table : Option Kind → Option O) (make : O → A → B) (p : Parser A) (found : List B) → table None ≡ None → n ≤ m → Law n p
    → (ts : List Token) → LawAt n (operations_from m table make p found) ts
unfolding operations_from
operations_at zero n table make p found closed le law ts = record { sim = tt; fine = λ less. absurd (omega arith) }
operations_at (suc m) n table make p found closed le law ts =
    choose_at table (λ o. p >>= (λ a. operations_from m table make p (found ++ make o a ∷ []))) (pure found) ts (table (kind_of ts)) refl
    (λ o e less. let h = choose_less table ts o closed e in omega arith)
    (λ o e. bind_at {n = n - 1} p (λ a. operations_from m table make p (found ++ make o a ∷ [])) (next ts) (at (law_down (omega arith) law) (next ts))
    (λ a us is. operations_at m (n - 1) table make p (found ++ make o a ∷ []) closed (omega arith) (law_down (omega arith) law) us)
    (λ a us is less. let h = shrinks law (next ts) a us is (omega arith) in omega arith))
    (λ e. at pure_law ts)

-- { op x }
pub operations_law : {O A B : Type 0} (m : ℕ) {n : ℕ} (table : Option Kind → Option O) (make : O → A → B) {p : Parser A} (found : List B) → table None ≡ None → n ≤ m → Law n p
    → Law n (operations_from m table make p found)
operations_law m {n = n} table make {p = p} found closed le law = law_of (λ ts. operations_at m n table make p found closed le law ts)
