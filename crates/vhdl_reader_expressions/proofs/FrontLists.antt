-- Where a reader of a list stops, some tokens more would have ended the list.
use Rattle.std.proofs.Common.{◌≡◌, ℕ, zero, suc, Bool, true, false, Option, Some, None, List, [], ◌∷◌, ◌++◌, if◌then◌else◌, refl, subst}
use Rattle.vhdl_tokens.specs.declared.token.Kind.{Kind}
use Rattle.vhdl_tokens.specs.declared.token.Token.{Token}
use Rattle.vhdl_tree.specs.Words.{Span, tok}
use Rattle.vhdl_tree.specs.Lists.{Many, Preceded, Separated, Operations}
use Rattle.vhdl_reader_expressions.specs.Steps.{Parser, ◌>>=◌, pure, many_from, preceded_from, operations_from}
use Rattle.vhdl_reader_expressions.proofs.SeparatedReader.{separated}
use Rattle.vhdl_reader_expressions.proofs.FrontSteps.{State, LeadsTo, Some_of, Viable, none_before, start_f, call_f, bind_f, before_f, after_f, known_f, pure_f, spent_f, on_f, choose_f, look_f}
use Rattle.vhdl_reader_expressions.proofs.SoundLists.{many_snoc, preceded_snoc, separated_snoc, operations_snoc}

-- ---- lists, with any state S of what was found

-- { x }
pub many_loop_f : {A : Type 0} (begins : Option Kind → Bool) {p : Parser A} {R : List Token → A → List Token → Type 0} (S : List A → State) → Viable p R
    → ((found : List A) (a b : A) (ts us vs : List Token) → S found ts us → R us b vs → S (found ++ a ∷ []) ts vs) → (n : ℕ) (found : List A) → LeadsTo (S found) (many_from n begins p found) S
unfolding many_from
many_loop_f begins S v step zero found = spent_f none_before found (λ ts us h. h)
many_loop_f begins {p = p} S v step (suc n) found = look_f begins (λ b. if b then (p >>= (λ a. many_from n begins p (found ++ a ∷ []))) else pure found) false (elim [
  | true ↦ known_f _ (bind_f (call_f v) (λ a. before_f (λ ts us h. step found a h.2.0 ts h.0 us h.1 h.2.1) (many_loop_f begins S v step n (found ++ a ∷ []))))
  | false ↦ pure_f (λ ts us h. h)
])

-- { w x }
pub preceded_loop_f : {A : Type 0} {w : Kind} {p : Parser A} {R : List Token → A → List Token → Type 0} (S : List A → State) → Viable p R
    → ((found : List A) (x : Span) (a b : A) (ts us vs : List Token) → S found ts (tok w x ∷ us) → R us b vs → S (found ++ a ∷ []) ts vs) → (n : ℕ) (found : List A)
    → LeadsTo (S found) (preceded_from n w p found) S
unfolding preceded_from
preceded_loop_f S v step zero found = spent_f none_before found (λ ts us h. h)
preceded_loop_f {w = w} S v step (suc n) found = on_f w
    (bind_f (call_f v) (λ a. before_f (λ ts us h. step found h.1.0 a h.2.0 ts h.0 us h.1.1 h.2.1) (preceded_loop_f S v step n (found ++ a ∷ []))))
    (pure_f (λ ts us h. h))

-- { op x }
pub operations_loop_f : {O A B : Type 0} (table : Option Kind → Option O) {make : O → A → B} {p : Parser A} {R : List Token → A → List Token → Type 0} (S : List B → State)
    → table None ≡ None → Viable p R
    → ((found : List B) (k : Kind) (x : Span) (o : O) (a b : A) (ts us vs : List Token) → S found ts (tok k x ∷ us) → table (Some k) ≡ Some o → R us b vs → S (found ++ make o a ∷ []) ts vs)
    → (n : ℕ) (found : List B) → LeadsTo (S found) (operations_from n table make p found) S
unfolding operations_from
operations_loop_f table S closed v step zero found = spent_f none_before found (λ ts us h. h)
operations_loop_f table {make = make} S closed v step (suc n) found = choose_f table closed
    (λ o. bind_f (call_f v) (λ a. before_f (λ ts us h. step found h.1.0 h.1.1 o a h.2.0 ts h.0 us h.1.2 h.1.3 h.2.1) (operations_loop_f table S closed v step n (found ++ make o a ∷ []))))
    (pure_f (λ ts us h. h))

-- ---- lists, behind what holds of the tokens before them

pub many_f : {A : Type 0} (n : ℕ) (begins : Option Kind → Bool) {p : Parser A} {R : List Token → A → List Token → Type 0} {before other : State} (found : List A)
    → Viable p R → ((ts us : List Token) → before ts us → (ms : List Token) × other ts ms × Some_of (Many R) ms us)
    → LeadsTo before (many_from n begins p found) (λ all ts us. (ms : List Token) × other ts ms × Some_of (Many R) ms us)
many_f n begins {R = R} {other = other} found v start = before_f start (many_loop_f begins (λ all ts us. (ms : List Token) × other ts ms × Some_of (Many R) ms us) v
    (λ all a b ts us vs h r. (h.0, h.1, (h.2.0 ++ b ∷ [], many_snoc h.2.1 r))) n found)

pub preceded_f : {A : Type 0} (n : ℕ) {w : Kind} {p : Parser A} {R : List Token → A → List Token → Type 0} {before other : State} (found : List A)
    → Viable p R → ((ts us : List Token) → before ts us → (ms : List Token) × other ts ms × Some_of (Preceded w R) ms us)
    → LeadsTo before (preceded_from n w p found) (λ all ts us. (ms : List Token) × other ts ms × Some_of (Preceded w R) ms us)
preceded_f n {w = w} {R = R} {other = other} found v start = before_f start (preceded_loop_f (λ all ts us. (ms : List Token) × other ts ms × Some_of (Preceded w R) ms us) v
    (λ all x a b ts us vs h r. (h.0, h.1, (h.2.0 ++ b ∷ [], preceded_snoc h.2.1 refl r))) n found)

-- the first member of these was read by itself
pub separated_f : {A : Type 0} (n : ℕ) {w : Kind} {p : Parser A} {R : List Token → A → List Token → Type 0} {before other : State} (found : List A)
    → Viable p R → ((ts us : List Token) → before ts us → (ms : List Token) × other ts ms × Some_of (Separated w R) ms us)
    → LeadsTo before (preceded_from n w p found) (λ all ts us. (ms : List Token) × other ts ms × Some_of (Separated w R) ms us)
separated_f n {w = w} {R = R} {other = other} found v start = before_f start (preceded_loop_f (λ all ts us. (ms : List Token) × other ts ms × Some_of (Separated w R) ms us) v
    (λ all x a b ts us vs h r. (h.0, h.1, (h.2.0 ++ b ∷ [], separated_snoc h.2.1 r))) n found)

pub operations_f : {O A B : Type 0} (n : ℕ) {table : Option Kind → Option O} {make : O → A → B} {p : Parser A} {R : List Token → A → List Token → Type 0}
    {before other : State} (found : List B) → table None ≡ None
    → Viable p R → ((ts us : List Token) → before ts us → (ms : List Token) × other ts ms × Some_of (Operations table make R) ms us)
    → LeadsTo before (operations_from n table make p found) (λ all ts us. (ms : List Token) × other ts ms × Some_of (Operations table make R) ms us)
operations_f n {table = table} {make = make} {R = R} {other = other} found closed v start =
    before_f start (operations_loop_f table (λ all ts us. (ms : List Token) × other ts ms × Some_of (Operations table make R) ms us) closed v
    (λ all k x o a b ts us vs h is r. (h.0, h.1, (h.2.0 ++ make o b ∷ [], operations_snoc h.2.1 refl is r))) n found)

-- ---- whole lists

pub many_viable : {A : Type 0} (n : ℕ) (begins : Option Kind → Bool) {p : Parser A} {R : List Token → A → List Token → Type 0} → Viable p R → Viable (many_from n begins p []) (Many R)
many_viable n begins {R = R} v = record {
  leads = before_f (λ ts us e. ([], subst (λ xs. Many R xs [] us) e Many.none))
      (many_loop_f begins (λ all. Some_of (Many R)) v (λ all a b ts us vs h r. (h.0 ++ b ∷ [], many_snoc h.1 r)) n []);
}

pub preceded_viable : {A : Type 0} (n : ℕ) {w : Kind} {p : Parser A} {R : List Token → A → List Token → Type 0} → Viable p R → Viable (preceded_from n w p []) (Preceded w R)
preceded_viable n {w = w} {R = R} v = record {
  leads = before_f (λ ts us e. ([], subst (λ xs. Preceded w R xs [] us) e Preceded.none))
      (preceded_loop_f (λ all. Some_of (Preceded w R)) v (λ all x a b ts us vs h r. (h.0 ++ b ∷ [], preceded_snoc h.1 refl r)) n []);
}

pub separated_viable : {A : Type 0} (n : ℕ) {w : Kind} {p : Parser A} {R : List Token → A → List Token → Type 0} → Viable p R → Viable (separated n w p) (Separated w R)
separated_viable n {w = w} {R = R} v = record {
  leads = bind_f (start_f v) (λ a. before_f (λ ts us h. (h.0 ∷ [], Separated.several h.1 Preceded.none))
      (preceded_loop_f (λ all. Some_of (Separated w R)) v (λ all x b c ts us vs h r. (h.0 ++ c ∷ [], separated_snoc h.1 r)) n (a ∷ [])));
}

pub operations_viable : {O A B : Type 0} (n : ℕ) {table : Option Kind → Option O} {make : O → A → B} {p : Parser A} {R : List Token → A → List Token → Type 0} → table None ≡ None
    → Viable p R → Viable (operations_from n table make p []) (Operations table make R)
operations_viable n {table = table} {make = make} {R = R} closed v = record {
  leads = before_f (λ ts us e. ([], subst (λ xs. Operations table make R xs [] us) e Operations.none))
      (operations_loop_f table (λ all. Some_of (Operations table make R)) closed v (λ all k x o a b ts us vs h is r. (h.0 ++ make o b ∷ [], operations_snoc h.1 refl is r)) n []);
}
