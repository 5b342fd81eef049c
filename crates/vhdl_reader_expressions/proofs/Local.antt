-- What a reader answers hangs on no token behind its place, and uses up no bound.
use Rattle.std.proofs.Common.{◌≡◌, ℕ, zero, suc, ◌<◌, ◌≤◌, Bool, true, false, Option, Some, None, List, [], ◌∷◌, ◌++◌, length, if◌then◌else◌, refl, sym, ap, ◌∙◌, subst, append_assoc, arith}
use Rattle.vhdl_tokens.specs.declared.token.Kind.{Kind}
use Rattle.vhdl_tokens.specs.declared.token.Token.{Token}
use Rattle.vhdl_tree.specs.Words.{kind_of, place_of, line_of}
use Rattle.vhdl_reader_expressions.specs.Steps.{Answer, Found, Stopped, Spent, Parser, next, sees, and_then, ◌>>=◌, pure, stop, spent, on, choose, choose_by, look, here, on_line, word, any, token, optional, perhaps}
use Rattle.vhdl_reader_expressions.proofs.NextToken.{first, first_sees, first_kind, first_place, first_line}

-- At the end of the text nothing is claimed. Else the reader answers the same, whatever stands behind the token at its place.
abbrev pub Carry : {A : Type 0} → List Token → (List Token → Answer A) → Parser A → List Token → Type 0
Carry [] make p ts = Unit {0}
Carry (t ∷ us) make p ts = (front : List Token) × (ts ≡ front ++ t ∷ us) × ((other : List Token) → p (front ++ t ∷ other) ≡ make (t ∷ other))

-- the same by what the reader answered
abbrev pub Carries : {A : Type 0} → Answer A → Parser A → List Token → Type 0
Carries (Found a us) p ts = Carry us (Found a) p ts
Carries (Stopped us) p ts = Carry us Stopped p ts
Carries Spent p ts = Unit {0}

-- no bound was used up, and at most n tokens are left
abbrev pub IsFine : {A : Type 0} → ℕ → Answer A → Type 0
IsFine n (Found a us) = length us ≤ n
IsFine n (Stopped us) = length us ≤ n
IsFine n Spent = ⊥

-- both, of one list
pub record LawAt {A : Type 0} (n : ℕ) (p : Parser A) (ts : List Token) : Type 0 where
  pub sim : Carries (p ts) p ts
  pub fine : length ts < n → IsFine (length ts) (p ts)

-- both, of each list: the bounds suffice for lists that are shorter than n
pub record Law {A : Type 0} (n : ℕ) (p : Parser A) : Type 0 where
  pub sim : (ts : List Token) → Carries (p ts) p ts
  pub fine : (ts : List Token) → length ts < n → IsFine (length ts) (p ts)

-- the law of one list
pub at : {A : Type 0} {n : ℕ} {p : Parser A} → Law n p → (ts : List Token) → LawAt n p ts
at law ts = record { sim = law.sim ts; fine = law.fine ts }

-- a law for each list is a law
pub law_of : {A : Type 0} {n : ℕ} {p : Parser A} → ((ts : List Token) → LawAt n p ts) → Law n p
law_of each = record { sim = λ ts. (each ts).sim; fine = λ ts. (each ts).fine }

-- ---- of one list

map_carries : {A : Type 0} (answer : Answer A) (p q : Parser A) (ts us : List Token)
    → ((make : List Token → Answer A) (t : Token) (rest : List Token) → Carry (t ∷ rest) make p ts → Carry (t ∷ rest) make q us) → Carries answer p ts → Carries answer q us
map_carries (Found a []) p q ts us f c = tt
map_carries (Found a (t ∷ rest)) p q ts us f c = f (Found a) t rest c
map_carries (Stopped []) p q ts us f c = tt
map_carries (Stopped (t ∷ rest)) p q ts us f c = f Stopped t rest c
map_carries Spent p q ts us f c = tt

pub fine_more : {A : Type 0} (answer : Answer A) (m n : ℕ) → m ≤ n → IsFine m answer → IsFine n answer
fine_more (Found a us) m n le h = omega arith
fine_more (Stopped us) m n le h = omega arith
fine_more Spent m n le h = h

first_of : (front : List Token) (t : Token) (us vs : List Token) → first (front ++ t ∷ us) ≡ first (front ++ t ∷ vs)
first_of [] t us vs = refl
first_of (x ∷ front) t us vs = refl

-- a reader that does as another wherever this token is first
pub like : {A : Type 0} {n : ℕ} (p q : Parser A) (ts : List Token) → ((us : List Token) → first us ≡ first ts → q us ≡ p us) → LawAt n p ts → LawAt n q ts
like p q ts same law = record {
  sim = subst (λ r. Carries r q ts) (sym (same ts refl)) (map_carries (p ts) p q ts ts
      (λ make t rest c. (c.0, c.1, λ other. same (c.0 ++ t ∷ other) (first_of c.0 t other rest ∙ ap first (sym c.1)) ∙ c.2 other)) law.sim);
  fine = λ less. subst (λ r. IsFine (length ts) r) (sym (same ts refl)) (law.fine less);
}

-- one that goes on behind the next token
behind_next : {A : Type 0} {m n : ℕ} (p : Parser A) (ts : List Token) → (length ts < n → length (next ts) < m) → LawAt m p (next ts) → LawAt n (λ us. p (next us)) ts
behind_next p [] less law = record {
  sim = map_carries (p []) p (λ us. p (next us)) [] [] (λ make t rest c. absurd (nothing c.0 t rest c.1)) law.sim;
  fine = λ h. law.fine (less h);
}
  where
    nothing : (front : List Token) (t : Token) (rest : List Token) → [] ≡ front ++ t ∷ rest → ⊥
    nothing [] t rest e = cc
    nothing (x ∷ front) t rest e = cc
behind_next p (x ∷ ts) less law = record {
  sim = map_carries (p ts) p (λ us. p (next us)) ts (x ∷ ts) (λ make t rest c. (x ∷ c.0, ap (λ us. x ∷ us) c.1, c.2)) law.sim;
  fine = λ h. fine_more (p ts) (length ts) (length (x ∷ ts)) (omega arith) (law.fine (less h));
}

over : {A B : Type 0} (p : Parser A) (f : A → Parser B) (a : A) (make : List Token → Answer B) (t : Token) (rest ts us front : List Token)
    → Carry us (Found a) p ts → us ≡ front ++ t ∷ rest → ((other : List Token) → f a (front ++ t ∷ other) ≡ make (t ∷ other)) → Carry (t ∷ rest) make (p >>= f) ts
over p f a make t rest ts [] [] c e g = absurd cc
over p f a make t rest ts [] (x ∷ front) c e g = absurd cc
over p f a make t rest ts (u ∷ us) [] c e g =
    let same : u ≡ t = cc in
    (c.0, c.1 ∙ ap (λ xs. c.0 ++ xs) e, λ other. ap (λ r. and_then r f) (subst (λ x. p (c.0 ++ x ∷ other) ≡ Found a (x ∷ other)) same (c.2 other)) ∙ g other)
over p f a make t rest ts (u ∷ us) (x ∷ front) c e g =
    let same : u ≡ x = cc in (
      c.0 ++ x ∷ front,
      c.1 ∙ (ap (λ xs. c.0 ++ xs) e ∙ sym (append_assoc c.0 (x ∷ front) (t ∷ rest))),
      λ other. ap (p >>= f) (append_assoc c.0 (x ∷ front) (t ∷ other))
          ∙ (ap (λ r. and_then r f) (subst (λ y. p (c.0 ++ y ∷ (front ++ t ∷ other)) ≡ Found a (y ∷ (front ++ t ∷ other))) same (c.2 (front ++ t ∷ other))) ∙ g other),
    )

bind_by : {A B : Type 0} {m n : ℕ} (p : Parser A) (f : A → Parser B) (ts : List Token) (r : Answer A) → p ts ≡ r → Carries r p ts → (length ts < n → IsFine (length ts) r)
    → ((a : A) (us : List Token) → p ts ≡ Found a us → LawAt m (f a) us) → ((a : A) (us : List Token) → p ts ≡ Found a us → length ts < n → length us < m)
    → LawAt n (p >>= f) ts
bind_by p f ts (Found a us) e c fine each less = record {
  sim = subst (λ r. Carries (and_then r f) (p >>= f) ts) (sym e) (map_carries (f a us) (f a) (p >>= f) us ts
      (λ make t rest d. over p f a make t rest ts us d.0 c d.1 d.2) (each a us e).sim);
  fine = λ h. subst (λ r. IsFine (length ts) (and_then r f)) (sym e) (fine_more (f a us) (length us) (length ts) (fine h) ((each a us e).fine (less a us e h)));
}
bind_by p f ts (Stopped []) e c fine each less = record {
  sim = subst (λ r. Carries (and_then r f) (p >>= f) ts) (sym e) tt;
  fine = λ h. subst (λ r. IsFine (length ts) (and_then r f)) (sym e) (fine h);
}
bind_by p f ts (Stopped (t ∷ us)) e c fine each less = record {
  sim = subst (λ r. Carries (and_then r f) (p >>= f) ts) (sym e) (c.0, c.1, λ other. ap (λ r. and_then r f) (c.2 other));
  fine = λ h. subst (λ r. IsFine (length ts) (and_then r f)) (sym e) (fine h);
}
bind_by p f ts Spent e c fine each less = record {
  sim = subst (λ r. Carries (and_then r f) (p >>= f) ts) (sym e) tt;
  fine = λ h. subst (λ r. IsFine (length ts) (and_then r f)) (sym e) (fine h);
}

pub bind_at : {A B : Type 0} {m n : ℕ} (p : Parser A) (f : A → Parser B) (ts : List Token) → LawAt n p ts
    → ((a : A) (us : List Token) → p ts ≡ Found a us → LawAt m (f a) us) → ((a : A) (us : List Token) → p ts ≡ Found a us → length ts < n → length us < m)
    → LawAt n (p >>= f) ts
bind_at p f ts law each less = bind_by p f ts (p ts) refl law.sim law.fine each less

-- ---- the steps

-- bounds that suffice for longer lists do for shorter ones
pub law_down : {A : Type 0} {m n : ℕ} {p : Parser A} → m ≤ n → Law n p → Law m p
law_down le law = record { sim = law.sim; fine = λ ts less. law.fine ts (omega arith) }

-- the reader that takes nothing
pub pure_law : {A : Type 0} {n : ℕ} {a : A} → Law n (pure a)
pure_law {a = a} = record { sim = everywhere; fine = λ ts less. omega arith }
  where
    everywhere : (ts : List Token) → Carries (Found a ts) (pure a) ts
    everywhere [] = tt
    everywhere (t ∷ ts) = ([], refl, λ other. refl)

-- the reader that stops
pub stop_law : {A : Type 0} {n : ℕ} → Law n (stop {A = A})
stop_law {A = A} = record { sim = everywhere; fine = λ ts less. omega arith }
  where
    everywhere : (ts : List Token) → Carries {A = A} (Stopped ts) stop ts
    everywhere [] = tt
    everywhere (t ∷ ts) = ([], refl, λ other. refl)

-- no list is shorter than 0
pub spent_law : {A : Type 0} → Law zero (spent {A = A})
spent_law = record { sim = λ ts. tt; fine = λ ts less. absurd (omega arith) }

-- any token
pub any_law : {n : ℕ} → Law n any
any_law {n = n} = record { sim = everywhere; fine = shorter }
  where
    everywhere : (ts : List Token) → Carries (any ts) any ts
    everywhere [] = tt
    everywhere (t ∷ []) = tt
    everywhere (t ∷ u ∷ ts) = (t ∷ [], refl, λ other. refl)

    shorter : (ts : List Token) → length ts < n → IsFine (length ts) (any ts)
    shorter [] less = omega arith
    shorter (t ∷ ts) less = omega arith

-- no more tokens are left than there were
pub shrinks : {A : Type 0} {n : ℕ} {p : Parser A} → Law n p → (ts : List Token) (a : A) (us : List Token) → p ts ≡ Found a us → length ts < n → length us ≤ length ts
shrinks law ts a us e less = subst (λ r. IsFine (length ts) r) e (law.fine ts less)

-- one reader after another
pub bind_law : {A B : Type 0} {n : ℕ} {p : Parser A} {f : A → Parser B} → Law n p → ((a : A) → Law n (f a)) → Law n (p >>= f)
bind_law {p = p} {f = f} law each = law_of (λ ts. bind_at p f ts (at law ts) (λ a us e. at (each a) us) (λ a us e less. let h = shrinks law ts a us e less in omega arith))

-- the same where the first gives nothing
pub then_law : {A B : Type 0} {n : ℕ} {p : Parser A} {q : Parser B} → Law n p → Law n q → Law n (p >>= (λ _. q))
then_law law behind = bind_law law (λ _. behind)

-- what hangs on the next token, which stays
pub look_law : {O A : Type 0} {n : ℕ} (test : Option Kind → O) (f : O → Parser A) → ((o : O) → Law n (f o)) → Law n (look test f)
look_law test f each = law_of (λ ts. like (f (test (kind_of ts))) (look test f) ts
    (λ us same. ap (λ k. f (test k) us) (first_kind us ts same)) (at (each (test (kind_of ts))) ts))

-- what hangs on the place of the next token
pub here_law : {A : Type 0} {n : ℕ} (f : ℕ → Parser A) → ((place : ℕ) → Law n (f place)) → Law n (here f)
here_law f each = law_of (λ ts. like (f (place_of ts)) (here f) ts (λ us same. ap (λ k. f k us) (first_place us ts same)) (at (each (place_of ts)) ts))

-- and on its line
pub on_line_law : {A : Type 0} {n : ℕ} (f : ℕ → Parser A) → ((line : ℕ) → Law n (f line)) → Law n (on_line f)
on_line_law f each = law_of (λ ts. like (f (line_of ts)) (on_line f) ts (λ us same. ap (λ k. f k us) (first_line us ts same)) (at (each (line_of ts)) ts))

-- one token is taken, where it is seen
pub next_less : (k : Kind) (ts : List Token) → sees k ts ≡ true → suc (length (next ts)) ≡ length ts
next_less k [] e = absurd cc
next_less k (t ∷ ts) e = refl

pub next_short : (ts : List Token) → length (next ts) ≤ length ts
next_short [] = omega arith
next_short (t ∷ ts) = omega arith

pub on_at : {A : Type 0} {m n : ℕ} (k : Kind) (hit miss : Parser A) (ts : List Token) (b : Bool) → sees k ts ≡ b
    → (b ≡ true → length ts < n → length (next ts) < m) → (b ≡ true → LawAt m hit (next ts)) → (b ≡ false → LawAt n miss ts) → LawAt n (on k hit miss) ts
on_at k hit miss ts true e less found other = like (λ us. hit (next us)) (on k hit miss) ts
    (λ us same. rw (first_sees k us ts same, e) refl) (behind_next hit ts (less refl) (found refl))
on_at k hit miss ts false e less found other = like miss (on k hit miss) ts (λ us same. rw (first_sees k us ts same, e) refl) (other refl)

-- by whether a token of a kind is next
pub on_law : {A : Type 0} {n : ℕ} (k : Kind) {hit miss : Parser A} → Law n hit → Law n miss → Law n (on k hit miss)
on_law k {hit = hit} {miss = miss} found other = law_of (λ ts. on_at k hit miss ts (sees k ts) refl
    (λ e less. let h = next_short ts in omega arith) (λ e. at found (next ts)) (λ e. at other ts))

-- what is behind the token has one less
pub on_enter : {A : Type 0} {n : ℕ} (k : Kind) {hit miss : Parser A} → Law n hit → Law (suc n) miss → Law (suc n) (on k hit miss)
on_enter k {hit = hit} {miss = miss} found other = law_of (λ ts. on_at k hit miss ts (sees k ts) refl
    (λ e less. let h = next_less k ts e in omega arith) (λ e. at found (next ts)) (λ e. at other ts))

pub choose_less : {O : Type 0} (table : Option Kind → Option O) (ts : List Token) (o : O) → table None ≡ None → table (kind_of ts) ≡ Some o → suc (length (next ts)) ≡ length ts
choose_less table [] o closed e = absurd cc
choose_less table (t ∷ ts) o closed e = refl

pub choose_at : {O A : Type 0} {m n : ℕ} (table : Option Kind → Option O) (hit : O → Parser A) (miss : Parser A) (ts : List Token) (c : Option O) → table (kind_of ts) ≡ c
    → ((o : O) → c ≡ Some o → length ts < n → length (next ts) < m) → ((o : O) → c ≡ Some o → LawAt m (hit o) (next ts)) → (c ≡ None → LawAt n miss ts)
    → LawAt n (choose table hit miss) ts
choose_at table hit miss ts (Some o) e less found other = like (λ us. hit o (next us)) (choose table hit miss) ts
    (λ us same. ap (λ c. choose_by c hit miss us) (ap table (first_kind us ts same) ∙ e)) (behind_next (hit o) ts (less o refl) (found o refl))
choose_at table hit miss ts None e less found other = like miss (choose table hit miss) ts
    (λ us same. ap (λ c. choose_by c hit miss us) (ap table (first_kind us ts same) ∙ e)) (other refl)

-- by whether a token of a table is next
pub choose_law : {O A : Type 0} {n : ℕ} (table : Option Kind → Option O) {hit : O → Parser A} {miss : Parser A}
    → ((o : O) → Law n (hit o)) → Law n miss → Law n (choose table hit miss)
choose_law table {hit = hit} {miss = miss} found other = law_of (λ ts. choose_at table hit miss ts (table (kind_of ts)) refl
    (λ o e less. let h = next_short ts in omega arith) (λ o e. at (found o) (next ts)) (λ e. at other ts))

-- what is behind that token has one less
pub choose_enter : {O A : Type 0} {n : ℕ} (table : Option Kind → Option O) {hit : O → Parser A} {miss : Parser A} → table None ≡ None
    → ((o : O) → Law n (hit o)) → Law (suc n) miss → Law (suc n) (choose table hit miss)
choose_enter table {hit = hit} {miss = miss} closed found other = law_of (λ ts. choose_at table hit miss ts (table (kind_of ts)) refl
    (λ o e less. let h = choose_less table ts o closed e in omega arith) (λ o e. at (found o) (next ts)) (λ e. at other ts))

-- ---- single tokens

-- a word
pub word_law : {n : ℕ} (k : Kind) → Law n (word k)
unfolding word
word_law k = on_law k pure_law stop_law

-- one reader or another, as a kind is next or not
seeing_at : {A : Type 0} {n : ℕ} (k : Kind) (p q r : Parser A) (ts : List Token) (b : Bool) → sees k ts ≡ b → ((us : List Token) → r us ≡ (if sees k us then p us else q us))
    → LawAt n p ts → LawAt n q ts → LawAt n r ts
seeing_at k p q r ts true e is one two = like p r ts (λ us same. is us ∙ rw (first_sees k us ts same, e) refl) one
seeing_at k p q r ts false e is one two = like q r ts (λ us same. is us ∙ rw (first_sees k us ts same, e) refl) two

-- a token of a kind
pub token_law : {n : ℕ} (k : Kind) → Law n (token k)
unfolding token
token_law k = law_of (λ ts. seeing_at k any stop (token k) ts (sees k ts) refl (λ us. refl) (at any_law ts) (at stop_law ts))

-- [ token ]
pub optional_law : {n : ℕ} (k : Kind) → Law n (optional k)
unfolding optional
optional_law k = law_of (λ ts. seeing_at k (any >>= (λ t. pure (Some t))) (pure None) (optional k) ts (sees k ts) refl (λ us. refl)
    (at (bind_law any_law (λ t. pure_law)) ts) (at pure_law ts))

-- [ w x ]
pub perhaps_law : {A : Type 0} {n : ℕ} (k : Kind) {p : Parser A} → Law n p → Law n (perhaps k p)
perhaps_law k law = on_law k (bind_law law (λ a. pure_law)) pure_law
