-- What stands there is read, unless a bound is used up.
use Rattle.std.proofs.Common.{◌≡◌, ℕ, zero, suc, ◌<◌, Bool, true, false, Option, Some, None, List, [], ◌∷◌, ◌++◌, length, if◌then◌else◌, refl, sym, ap, ◌∙◌, subst, append_assoc, append-nil}
use Rattle.vhdl_tokens.specs.declared.token.Kind.{Kind}
use Rattle.vhdl_tokens.specs.declared.token.Token.{Token}
use Rattle.vhdl_tree.specs.Words.{Span, tok, kind_of, place_of, line_of}
use Rattle.vhdl_tree.specs.Lists.{Many, Preceded, Separated, Operations, Perhaps, IsToken, IsOptional}
use Rattle.vhdl_reader_expressions.specs.Steps.{Answer, Found, Stopped, Spent, Parser, sees, and_then, ◌>>=◌, pure, spent, on, choose, choose_by, look, here, on_line, word, any, token, optional, many_from, preceded_from, operations_from, perhaps}
use Rattle.vhdl_reader_expressions.proofs.SeparatedReader.{separated}
use Rattle.vhdl_reader_expressions.proofs.NextToken.{same_self}
use Rattle.vhdl_reader_expressions.proofs.Local.{IsFine, Law}

-- x is r, unless a bound is used up
abbrev pub UpTo : {A : Type 0} → Answer A → Answer A → Type 0
UpTo (Found a us) r = Found a us ≡ r
UpTo (Stopped us) r = Stopped us ≡ r
UpTo Spent r = Unit {0}

-- the reader comes to r from ts on, unless a bound is used up
pub record Reaches {A : Type 0} (p : Parser A) (ts : List Token) (r : Answer A) : Type 0 where
  pub up : UpTo (p ts) r

-- p reads each production that is followed by a token of which E holds
pub record Complete {A : Type 0} (E : Option Kind → Type 0) (p : Parser A) (R : List Token → A → List Token → Type 0) : Type 0 where
  pub reads : {ts us : List Token} {a : A} → R ts a us → E (kind_of us) → Reaches p ts (Found a us)

-- fewer tokens may follow, and what is one production is another
pub complete_as : {A : Type 0} {E F : Option Kind → Type 0} {p : Parser A} {R S : List Token → A → List Token → Type 0}
    → ((k : Option Kind) → F k → E k) → ((ts us : List Token) (a : A) → S ts a us → R ts a us) → Complete E p R → Complete F p S
complete_as ends f complete = record { reads = λ r h. complete.reads (f _ _ _ r) (ends _ h) }

-- each kind of token, and the end
abbrev pub Anything : Option Kind → Type 0
Anything k = Unit {0}

-- ---- the steps

up_to_itself : {A : Type 0} (x : Answer A) → UpTo x x
up_to_itself (Found a us) = refl
up_to_itself (Stopped us) = refl
up_to_itself Spent = tt

-- what a reader answers, it reaches
pub is_up : {A : Type 0} {p : Parser A} {ts : List Token} {r : Answer A} → p ts ≡ r → Reaches p ts r
is_up {p = p} {ts = ts} e = record { up = subst (λ x. UpTo (p ts) x) e (up_to_itself (p ts)) }

-- a reader that answers the same reaches the same
pub as_up : {A : Type 0} (p q : Parser A) (us ts : List Token) {r : Answer A} → q ts ≡ p us → Reaches p us r → Reaches q ts r
as_up p q us ts {r = r} e h = record { up = subst (λ x. UpTo x r) (sym e) h.up }

bind_by : {A B : Type 0} (x : Answer A) (a : A) (us : List Token) (f : A → Parser B) (r : Answer B) → UpTo x (Found a us) → UpTo (f a us) r → UpTo (and_then x f) r
bind_by (Found b vs) a us f r e h = subst (λ x. UpTo (and_then x f) r) (sym e) h
bind_by (Stopped vs) a us f r e h = absurd cc
bind_by Spent a us f r e h = tt

-- one reader after another
pub bind_up : {A B : Type 0} {p : Parser A} (f : A → Parser B) {ts us : List Token} {a : A} {r : Answer B} → Reaches p ts (Found a us) → Reaches (f a) us r → Reaches (p >>= f) ts r
bind_up {p = p} f {ts = ts} {us = us} {a = a} {r = r} one two = record { up = bind_by (p ts) a us f r one.up two.up }

-- the reader that takes nothing
pub pure_up : {A : Type 0} {a : A} {ts : List Token} → Reaches (pure a) ts (Found a ts)
pure_up = record { up = refl }

-- of a bound that is used up nothing is claimed
pub spent_up : {A : Type 0} {ts : List Token} {r : Answer A} → Reaches spent ts r
spent_up = record { up = tt }

-- the token is next
pub on_hit : {A : Type 0} (k : Kind) (hit miss : Parser A) {x : Span} {us : List Token} {r : Answer A} → Reaches hit us r → Reaches (on k hit miss) (tok k x ∷ us) r
on_hit k hit miss {x = x} {us = us} h = as_up hit (on k hit miss) us (tok k x ∷ us) (rw (same_self k) refl) h

-- it is not
pub on_miss : {A : Type 0} (k : Kind) (hit miss : Parser A) {ts : List Token} {r : Answer A} → sees k ts ≡ false → Reaches miss ts r → Reaches (on k hit miss) ts r
on_miss k hit miss {ts = ts} e h = as_up miss (on k hit miss) ts ts (rw e refl) h

-- a token of the table is next
pub choose_hit : {O A : Type 0} (table : Option Kind → Option O) (hit : O → Parser A) (miss : Parser A) {k : Kind} {x : Span} {us : List Token} {o : O} {r : Answer A}
    → table (Some k) ≡ Some o → Reaches (hit o) us r → Reaches (choose table hit miss) (tok k x ∷ us) r
choose_hit table hit miss {k = k} {x = x} {us = us} {o = o} e h = as_up (hit o) (choose table hit miss) us (tok k x ∷ us) (ap (λ c. choose_by c hit miss (tok k x ∷ us)) e) h

-- none is
pub choose_miss : {O A : Type 0} (table : Option Kind → Option O) (hit : O → Parser A) (miss : Parser A) {ts : List Token} {r : Answer A}
    → table (kind_of ts) ≡ None → Reaches miss ts r → Reaches (choose table hit miss) ts r
choose_miss table hit miss {ts = ts} e h = as_up miss (choose table hit miss) ts ts (ap (λ c. choose_by c hit miss ts) e) h

-- what is done with what a test says of the next token
pub look_up : {O A : Type 0} (test : Option Kind → O) (f : O → Parser A) {ts : List Token} {o : O} {r : Answer A} → test (kind_of ts) ≡ o → Reaches (f o) ts r → Reaches (look test f) ts r
look_up test f {ts = ts} {o = o} e h = as_up (f o) (look test f) ts ts (ap (λ k. f k ts) e) h

-- what is done with the place of the next token
pub here_up : {A : Type 0} (f : ℕ → Parser A) {ts : List Token} {r : Answer A} → Reaches (f (place_of ts)) ts r → Reaches (here f) ts r
here_up f {ts = ts} h = record { up = h.up }

-- and with its line
pub on_line_up : {A : Type 0} (f : ℕ → Parser A) {ts : List Token} {r : Answer A} → Reaches (f (line_of ts)) ts r → Reaches (on_line f) ts r
on_line_up f {ts = ts} h = record { up = h.up }

-- ---- single tokens

-- the word stands there
pub word_up : (k : Kind) {x : Span} {us : List Token} → Reaches (word k) (tok k x ∷ us) (Found tt us)
unfolding word
word_up k = on_hit k _ _ pure_up

-- a token does
pub any_up : {t : Token} {us : List Token} → Reaches any (t ∷ us) (Found t us)
any_up = record { up = refl }

-- a token of this kind does
pub token_up : (k : Kind) {x : Span} {us : List Token} → Reaches (token k) (tok k x ∷ us) (Found (tok k x) us)
unfolding token
token_up k {x = x} {us = us} = as_up any (token k) (tok k x ∷ us) (tok k x ∷ us) (rw (same_self k) refl) any_up

-- and where it need not
pub optional_present : (k : Kind) {x : Span} {us : List Token} → Reaches (optional k) (tok k x ∷ us) (Found (Some (tok k x)) us)
unfolding optional
optional_present k {x = x} {us = us} = as_up (pure (Some (tok k x))) (optional k) us (tok k x ∷ us) (rw (same_self k) refl) pure_up

-- it does not
pub optional_absent : (k : Kind) {ts : List Token} → sees k ts ≡ false → Reaches (optional k) ts (Found None ts)
unfolding optional
optional_absent k {ts = ts} e = as_up (pure None) (optional k) ts ts (rw e refl) pure_up

-- [ w x ], where w stands
pub perhaps_present : {A : Type 0} (k : Kind) {p : Parser A} {x : Span} {ts us : List Token} {a : A} → Reaches p ts (Found a us) → Reaches (perhaps k p) (tok k x ∷ ts) (Found (Some a) us)
perhaps_present k h = on_hit k _ _ (bind_up _ h pure_up)

-- where it does not
pub perhaps_absent : {A : Type 0} (k : Kind) (p : Parser A) {ts : List Token} → sees k ts ≡ false → Reaches (perhaps k p) ts (Found None ts)
perhaps_absent k p e = on_miss k (p >>= (λ a. pure (Some a))) _ e pure_up

-- the same by cases on the derivation: a token behind which none of this kind stands
pub optional_up : {k : Kind} {ts us : List Token} {t : Option Token} → IsOptional k ts t us → sees k us ≡ false → Reaches (optional k) ts (Found t us)
optional_up {k = k} IsOptional.absent e = optional_absent k e
optional_up {k = k} IsOptional.present e = optional_present k

-- a token by its derivation
pub token_is : {k : Kind} {ts us : List Token} {t : Token} → IsToken k ts t us → Reaches (token k) ts (Found t us)
token_is {k = k} IsToken.single = token_up k

-- [ w x ] by its derivation
pub perhaps_up : {A : Type 0} {E : Option Kind → Type 0} {k : Kind} {p : Parser A} {R : List Token → A → List Token → Type 0} {ts us : List Token} {found : Option A}
    → Complete E p R → Perhaps k R ts found us → E (kind_of us) → sees k us ≡ false → Reaches (perhaps k p) ts (Found found us)
perhaps_up {k = k} {p = p} complete Perhaps.absent ends e = perhaps_absent k p e
perhaps_up {k = k} complete (Perhaps.present r) ends e = perhaps_present k (complete.reads r ends)

-- ---- lists: what was found, and then the list

more_found : {A : Type 0} {p : Parser (List A)} {ts us : List Token} (found all : List A) (a : A) → Reaches p ts (Found ((found ++ a ∷ []) ++ all) us) → Reaches p ts (Found (found ++ a ∷ all) us)
more_found {p = p} {ts = ts} {us = us} found all a h = subst (λ xs. Reaches p ts (Found xs us)) (append_assoc found (a ∷ []) all) h

all_found : {A : Type 0} (found : List A) (ts : List Token) → Reaches (pure found) ts (Found (found ++ []) ts)
all_found found ts = subst (λ xs. Reaches (pure found) ts (Found xs ts)) (sym (append-nil found)) pure_up

-- how the members of { x } end: another begins, or what is behind the list
pub many_ends : {A : Type 0} {E : Option Kind → Type 0} (begins : Option Kind → Bool) {R : List Token → A → List Token → Type 0} {ts us : List Token} {all : List A}
    → ((ts us : List Token) (a : A) → R ts a us → begins (kind_of ts) ≡ true) → ((k : Option Kind) → begins k ≡ true → E k) → Many R ts all us → E (kind_of us) → E (kind_of ts)
many_ends begins starts follows Many.none ends = ends
many_ends begins starts follows (Many.more r rest) ends = follows _ (starts _ _ _ r)

-- { x }
pub many_up : {A : Type 0} {E : Option Kind → Type 0} (n : ℕ) (begins : Option Kind → Bool) {p : Parser A} {R : List Token → A → List Token → Type 0} (found : List A) {ts us : List Token} {all : List A}
    → Complete E p R → ((ts us : List Token) (a : A) → R ts a us → begins (kind_of ts) ≡ true) → ((k : Option Kind) → begins k ≡ true → E k)
    → Many R ts all us → E (kind_of us) → begins (kind_of us) ≡ false → Reaches (many_from n begins p found) ts (Found (found ++ all) us)
unfolding many_from
many_up zero begins found complete starts follows list ends last = record { up = tt }
many_up (suc n) begins {p = p} found {us = us} complete starts follows Many.none ends last =
    look_up begins (λ b. if b then (p >>= (λ a. many_from n begins p (found ++ a ∷ []))) else pure found) last (all_found found us)
many_up (suc n) begins {p = p} found complete starts follows (Many.more {a = a} {all = all} r rest) ends last =
    look_up begins (λ b. if b then (p >>= (λ a. many_from n begins p (found ++ a ∷ []))) else pure found) (starts _ _ _ r)
    (bind_up (λ a. many_from n begins p (found ++ a ∷ [])) (complete.reads r (many_ends begins starts follows rest ends))
    (more_found found all a (many_up n begins (found ++ a ∷ []) complete starts follows rest ends last)))

-- how those of { w x } and { op x } end
pub preceded_ends : {A : Type 0} (E : Option Kind → Type 0) {w : Kind} {R : List Token → A → List Token → Type 0} {ts us : List Token} {all : List A}
    → E (Some w) → Preceded w R ts all us → E (kind_of us) → E (kind_of ts)
preceded_ends E follows Preceded.none ends = ends
preceded_ends E follows (Preceded.more r rest) ends = follows

-- { w x }
pub preceded_up : {A : Type 0} {E : Option Kind → Type 0} (n : ℕ) {w : Kind} {p : Parser A} {R : List Token → A → List Token → Type 0} (found : List A) {ts us : List Token} {all : List A}
    → Complete E p R → E (Some w) → Preceded w R ts all us → E (kind_of us) → sees w us ≡ false → Reaches (preceded_from n w p found) ts (Found (found ++ all) us)
unfolding preceded_from
preceded_up zero found complete follows list ends last = record { up = tt }
preceded_up {E = E} (suc n) {w = w} {p = p} found {us = us} complete follows Preceded.none ends last =
    on_miss w (p >>= (λ a. preceded_from n w p (found ++ a ∷ []))) (pure found) last (all_found found us)
preceded_up {E = E} (suc n) {w = w} {p = p} found complete follows (Preceded.more {a = a} {all = all} r rest) ends last =
    on_hit w (p >>= (λ a. preceded_from n w p (found ++ a ∷ []))) (pure found)
    (bind_up (λ a. preceded_from n w p (found ++ a ∷ [])) (complete.reads r (preceded_ends E follows rest ends))
    (more_found found all a (preceded_up n (found ++ a ∷ []) complete follows rest ends last)))

-- x { w x }
pub separated_up : {A : Type 0} {E : Option Kind → Type 0} (n : ℕ) {w : Kind} {p : Parser A} {R : List Token → A → List Token → Type 0} {ts us : List Token} {all : List A}
    → Complete E p R → E (Some w) → Separated w R ts all us → E (kind_of us) → sees w us ≡ false → Reaches (separated n w p) ts (Found all us)
separated_up {E = E} n complete follows (Separated.several {a = a} r rest) ends last =
    bind_up _ (complete.reads r (preceded_ends E follows rest ends)) (preceded_up n (a ∷ []) complete follows rest ends last)

pub operations_ends : {O A B : Type 0} (E : Option Kind → Type 0) (table : Option Kind → Option O) (make : O → A → B) {R : List Token → A → List Token → Type 0} {ts us : List Token} {all : List B}
    → ((k : Kind) (o : O) → table (Some k) ≡ Some o → E (Some k)) → Operations table make R ts all us → E (kind_of us) → E (kind_of ts)
operations_ends E table make follows Operations.none ends = ends
operations_ends E table make follows (Operations.more is r rest) ends = follows _ _ is

-- { op x }
pub operations_up : {O A B : Type 0} {E : Option Kind → Type 0} (n : ℕ) {table : Option Kind → Option O} {make : O → A → B} {p : Parser A} {R : List Token → A → List Token → Type 0} (found : List B)
    {ts us : List Token} {all : List B} → Complete E p R → ((k : Kind) (o : O) → table (Some k) ≡ Some o → E (Some k))
    → Operations table make R ts all us → E (kind_of us) → table (kind_of us) ≡ None → Reaches (operations_from n table make p found) ts (Found (found ++ all) us)
unfolding operations_from
operations_up zero found complete follows list ends last = record { up = tt }
operations_up {E = E} (suc n) {table = table} {make = make} {p = p} found {us = us} complete follows Operations.none ends last =
    choose_miss table (λ o. p >>= (λ a. operations_from n table make p (found ++ make o a ∷ []))) (pure found) last (all_found found us)
operations_up {E = E} (suc n) {table = table} {make = make} {p = p} found complete follows (Operations.more {op = op} {a = a} {all = all} is r rest) ends last =
    choose_hit table (λ o. p >>= (λ a. operations_from n table make p (found ++ make o a ∷ []))) (pure found) is
    (bind_up (λ a. operations_from n table make p (found ++ make op a ∷ [])) (complete.reads r (operations_ends E table make follows rest ends))
    (more_found found all (make op a) (operations_up n (found ++ make op a ∷ []) complete follows rest ends last)))

-- ---- where no bound is used up

one_by : {A : Type 0} (n : ℕ) (r x y : Answer A) → IsFine n r → UpTo r x → UpTo r y → x ≡ y
one_by n (Found a us) x y fine h g = sym h ∙ g
one_by n (Stopped us) x y fine h g = sym h ∙ g
one_by n Spent x y fine h g = absurd fine

-- what a reader reaches is one
pub one_answer : {A : Type 0} {n : ℕ} {p : Parser A} {ts : List Token} {x y : Answer A} → Law n p → length ts < n → Reaches p ts x → Reaches p ts y → x ≡ y
one_answer {p = p} {ts = ts} {x = x} {y = y} law less h g = one_by (length ts) (p ts) x y (law.fine ts less) h.up g.up

-- and it is what it answers
pub reaches_is : {A : Type 0} {n : ℕ} {p : Parser A} {ts : List Token} {r : Answer A} → Law n p → length ts < n → Reaches p ts r → p ts ≡ r
reaches_is {p = p} {ts = ts} {r = r} law less h = one_by (length ts) (p ts) (p ts) r (law.fine ts less) (up_to_itself (p ts)) h.up

-- what is the same as two answers, up to a bound that was not used up, makes them one
pub one_of : {A : Type 0} (r x y : Answer A) → (r ≡ Spent → ⊥) → UpTo r x → UpTo r y → x ≡ y
one_of (Found a us) x y more h g = sym h ∙ g
one_of (Stopped us) x y more h g = sym h ∙ g
one_of Spent x y more h g = absurd (more refl)

-- where a reader stops, no production that it reads stands
pub stops_not : {A : Type 0} {p : Parser A} {ts us vs : List Token} {a : A} → p ts ≡ Stopped us → Reaches p ts (Found a vs) → ⊥
stops_not {us = us} {vs = vs} {a = a} e h = by (subst (λ r. UpTo r (Found a vs)) e h.up)
  where
    by : Stopped us ≡ Found a vs → ⊥
    by g = cc
