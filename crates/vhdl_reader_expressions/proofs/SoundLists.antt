-- What a reader of a list finds stands there.
use Rattle.std.proofs.Common.{◌≡◌, ℕ, zero, suc, Bool, true, false, Option, Some, None, List, [], ◌∷◌, ◌++◌, if◌then◌else◌, refl, sym, subst}
use Rattle.vhdl_tokens.specs.declared.token.Kind.{Kind}
use Rattle.vhdl_tokens.specs.declared.token.Token.{Token}
use Rattle.vhdl_tree.specs.Words.{Span, tok}
use Rattle.vhdl_tree.specs.Lists.{Many, Preceded, Separated, Operations}
use Rattle.vhdl_reader_expressions.specs.Steps.{Parser, ◌>>=◌, pure, many_from, preceded_from, operations_from}
use Rattle.vhdl_reader_expressions.proofs.SeparatedReader.{separated}
use Rattle.vhdl_reader_expressions.proofs.Sound.{Triple, Sound, start_t, call_t, bind_t, before_t, pure_t, spent_t, on_t, choose_t, look_t}

-- ---- one more at the end of a list

pub many_snoc : {A : Type 0} {R : List Token → A → List Token → Type 0} {ts us vs : List Token} {found : List A} {a : A}
    → Many R ts found us → R us a vs → Many R ts (found ++ a ∷ []) vs
many_snoc Many.none r = Many.more r Many.none
many_snoc (Many.more one rest) r = Many.more one (many_snoc rest r)

pub preceded_snoc : {A : Type 0} {w : Kind} {R : List Token → A → List Token → Type 0} {ts ms us vs : List Token} {x : Span} {found : List A} {a : A}
    → Preceded w R ts found ms → ms ≡ tok w x ∷ us → R us a vs → Preceded w R ts (found ++ a ∷ []) vs
preceded_snoc {w = w} {R = R} {vs = vs} {a = a} Preceded.none e r = subst (λ xs. Preceded w R xs (a ∷ []) vs) (sym e) (Preceded.more r Preceded.none)
preceded_snoc (Preceded.more one rest) e r = Preceded.more one (preceded_snoc rest e r)

pub separated_snoc : {A : Type 0} {w : Kind} {R : List Token → A → List Token → Type 0} {ts us vs : List Token} {x : Span} {found : List A} {a : A}
    → Separated w R ts found (tok w x ∷ us) → R us a vs → Separated w R ts (found ++ a ∷ []) vs
separated_snoc (Separated.several one rest) r = Separated.several one (preceded_snoc rest refl r)

pub operations_snoc : {O A B : Type 0} {table : Option Kind → Option O} {make : O → A → B} {R : List Token → A → List Token → Type 0} {ts ms us vs : List Token}
    {k : Kind} {x : Span} {op : O} {found : List B} {a : A}
    → Operations table make R ts found ms → ms ≡ tok k x ∷ us → table (Some k) ≡ Some op → R us a vs → Operations table make R ts (found ++ make op a ∷ []) vs
operations_snoc {table = table} {make = make} {R = R} {vs = vs} {op = op} {a = a} Operations.none e is r =
    subst (λ xs. Operations table make R xs (make op a ∷ []) vs) (sym e) (Operations.more is r Operations.none)
operations_snoc (Operations.more is one rest) e h r = Operations.more is one (operations_snoc rest e h r)

-- ---- lists, with any state S of what was found

-- { x }
pub many_loop : {A : Type 0} (begins : Option Kind → Bool) {p : Parser A} {R : List Token → A → List Token → Type 0} (S : List A → List Token → Type 0) → Sound p R
    → ((found : List A) (a : A) (us vs : List Token) → S found us → R us a vs → S (found ++ a ∷ []) vs) → (n : ℕ) (found : List A) → Triple (S found) (many_from n begins p found) S
unfolding many_from
many_loop begins S sound step zero found = spent_t
many_loop begins {p = p} S sound step (suc n) found = look_t begins (λ b. if b then (p >>= (λ a. many_from n begins p (found ++ a ∷ []))) else pure found) (elim [
  | true ↦ before_t (λ us h. h.0) (bind_t (call_t sound) (λ a. before_t (λ us h. step found a h.0 us h.1 h.2) (many_loop begins S sound step n (found ++ a ∷ []))))
  | false ↦ pure_t (λ us h. h.0)
])

-- { w x }
pub preceded_loop : {A : Type 0} {w : Kind} {p : Parser A} {R : List Token → A → List Token → Type 0} (S : List A → List Token → Type 0) → Sound p R
    → ((found : List A) (x : Span) (a : A) (us vs : List Token) → S found (tok w x ∷ us) → R us a vs → S (found ++ a ∷ []) vs) → (n : ℕ) (found : List A) → Triple (S found) (preceded_from n w p found) S
unfolding preceded_from
preceded_loop S sound step zero found = spent_t
preceded_loop {w = w} S sound step (suc n) found = on_t w
    (bind_t (call_t sound) (λ a. before_t (λ us h. step found h.1.0 a h.0 us h.1.1 h.2) (preceded_loop S sound step n (found ++ a ∷ []))))
    (pure_t (λ us h. h))

-- { op x }
pub operations_loop : {O A B : Type 0} (table : Option Kind → Option O) {make : O → A → B} {p : Parser A} {R : List Token → A → List Token → Type 0} (S : List B → List Token → Type 0)
    → table None ≡ None → Sound p R
    → ((found : List B) (k : Kind) (x : Span) (o : O) (a : A) (us vs : List Token) → S found (tok k x ∷ us) → table (Some k) ≡ Some o → R us a vs → S (found ++ make o a ∷ []) vs)
    → (n : ℕ) (found : List B) → Triple (S found) (operations_from n table make p found) S
unfolding operations_from
operations_loop table S closed sound step zero found = spent_t
operations_loop table {make = make} S closed sound step (suc n) found = choose_t table closed
    (λ o. bind_t (call_t sound) (λ a. before_t (λ us h. step found h.1.0 h.1.1 o a h.0 us h.1.2 h.1.3 h.2) (operations_loop table S closed sound step n (found ++ make o a ∷ []))))
    (pure_t (λ us h. h))

-- ---- lists, behind what holds of the tokens before them

pub many_t : {A : Type 0} (n : ℕ) (begins : Option Kind → Bool) {p : Parser A} {R : List Token → A → List Token → Type 0} {before other : List Token → Type 0} (found : List A)
    → Sound p R → ((us : List Token) → before us → (ts : List Token) × other ts × Many R ts found us)
    → Triple before (many_from n begins p found) (λ all us. (ts : List Token) × other ts × Many R ts all us)
many_t n begins {R = R} {other = other} found sound start = before_t start (many_loop begins (λ all us. (ts : List Token) × other ts × Many R ts all us) sound
    (λ all a us vs h r. (h.0, h.1, many_snoc h.2 r)) n found)

pub preceded_t : {A : Type 0} (n : ℕ) {w : Kind} {p : Parser A} {R : List Token → A → List Token → Type 0} {before other : List Token → Type 0} (found : List A)
    → Sound p R → ((us : List Token) → before us → (ts : List Token) × other ts × Preceded w R ts found us)
    → Triple before (preceded_from n w p found) (λ all us. (ts : List Token) × other ts × Preceded w R ts all us)
preceded_t n {w = w} {R = R} {other = other} found sound start = before_t start (preceded_loop (λ all us. (ts : List Token) × other ts × Preceded w R ts all us) sound
    (λ all x a us vs h r. (h.0, h.1, preceded_snoc h.2 refl r)) n found)

-- the first member of these was read by itself
pub separated_t : {A : Type 0} (n : ℕ) {w : Kind} {p : Parser A} {R : List Token → A → List Token → Type 0} {before other : List Token → Type 0} (found : List A)
    → Sound p R → ((us : List Token) → before us → (ts : List Token) × other ts × Separated w R ts found us)
    → Triple before (preceded_from n w p found) (λ all us. (ts : List Token) × other ts × Separated w R ts all us)
separated_t n {w = w} {R = R} {other = other} found sound start = before_t start (preceded_loop (λ all us. (ts : List Token) × other ts × Separated w R ts all us) sound
    (λ all x a us vs h r. (h.0, h.1, separated_snoc h.2 r)) n found)

pub operations_t : {O A B : Type 0} (n : ℕ) {table : Option Kind → Option O} {make : O → A → B} {p : Parser A} {R : List Token → A → List Token → Type 0}
    {before other : List Token → Type 0} (found : List B) → table None ≡ None
    → Sound p R → ((us : List Token) → before us → (ts : List Token) × other ts × Operations table make R ts found us)
    → Triple before (operations_from n table make p found) (λ all us. (ts : List Token) × other ts × Operations table make R ts all us)
operations_t n {table = table} {make = make} {R = R} {other = other} found closed sound start =
    before_t start (operations_loop table (λ all us. (ts : List Token) × other ts × Operations table make R ts all us) closed sound
    (λ all k x o a us vs h is r. (h.0, h.1, operations_snoc h.2 refl is r)) n found)

-- ---- whole lists

pub many_sound : {A : Type 0} (n : ℕ) (begins : Option Kind → Bool) {p : Parser A} {R : List Token → A → List Token → Type 0} → Sound p R → Sound (many_from n begins p []) (Many R)
many_sound n begins {R = R} sound = record {
  from = λ ts. before_t (λ us e. subst (λ xs. Many R xs [] us) e Many.none)
      (many_loop begins (Many R ts) sound (λ all a us vs h r. many_snoc h r) n []);
}

pub preceded_sound : {A : Type 0} (n : ℕ) {w : Kind} {p : Parser A} {R : List Token → A → List Token → Type 0} → Sound p R → Sound (preceded_from n w p []) (Preceded w R)
preceded_sound n {w = w} {R = R} sound = record {
  from = λ ts. before_t (λ us e. subst (λ xs. Preceded w R xs [] us) e Preceded.none)
      (preceded_loop (Preceded w R ts) sound (λ all x a us vs h r. preceded_snoc h refl r) n []);
}

pub separated_sound : {A : Type 0} (n : ℕ) {w : Kind} {p : Parser A} {R : List Token → A → List Token → Type 0} → Sound p R → Sound (separated n w p) (Separated w R)
separated_sound n {w = w} {R = R} sound = record {
  from = λ ts. bind_t (start_t sound) (λ a. before_t (λ us r. Separated.several r Preceded.none)
      (preceded_loop (Separated w R ts) sound (λ all x b us vs h r. separated_snoc h r) n (a ∷ [])));
}

pub operations_sound : {O A B : Type 0} (n : ℕ) {table : Option Kind → Option O} {make : O → A → B} {p : Parser A} {R : List Token → A → List Token → Type 0} → table None ≡ None
    → Sound p R → Sound (operations_from n table make p []) (Operations table make R)
operations_sound n {table = table} {make = make} {R = R} closed sound = record {
  from = λ ts. before_t (λ us e. subst (λ xs. Operations table make R xs [] us) e Operations.none)
      (operations_loop table (Operations table make R ts) closed sound (λ all k x o a us vs h is r. operations_snoc h refl is r) n []);
}
