-- What a reader finds stands there: from what holds of the tokens before it to what holds of its tree and the tokens behind it.
use Rattle.std.proofs.Common.{◌≡◌, ℕ, Bool, true, false, Option, Some, None, List, [], ◌∷◌, if◌then◌else◌, refl, sym, ap, subst}
use Rattle.vhdl_tokens.specs.declared.token.Kind.{Kind}
use Rattle.vhdl_tokens.specs.declared.token.Token.{Token}
use Rattle.vhdl_tree.specs.Words.{Span, tok, kind_of, place_of, line_of}
use Rattle.vhdl_tree.specs.Lists.{Perhaps, IsToken, IsOptional}
use Rattle.vhdl_reader_expressions.specs.Steps.{Answer, Found, Stopped, Spent, Parser, next, sees, and_then, ◌>>=◌, pure, stop, spent, on, choose, choose_by, look, here, on_line, word, any, token, optional, perhaps}
use Rattle.vhdl_reader_expressions.proofs.NextToken.{same_true, span_of, seen}

-- what is found satisfies after
abbrev pub Yields : {A : Type 0} → Answer A → (A → List Token → Type 0) → Type 0
Yields (Found a us) after = after a us
Yields (Stopped us) after = Unit {0}
Yields Spent after = Unit {0}

-- from tokens of which before holds, p finds what satisfies after
pub record Triple {A : Type 0} (before : List Token → Type 0) (p : Parser A) (after : A → List Token → Type 0) : Type 0 where
  pub holds : (us : List Token) → before us → Yields (p us) after

-- what p reads from ts on is such a production
pub record Sound {A : Type 0} (p : Parser A) (R : List Token → A → List Token → Type 0) : Type 0 where
  pub from : (ts : List Token) → Triple (λ us. us ≡ ts) p (R ts)

-- so what p finds is one
pub reads : {A : Type 0} {p : Parser A} {R : List Token → A → List Token → Type 0} → Sound p R → (ts : List Token) (a : A) (us : List Token) → p ts ≡ Found a us → R ts a us
reads {R = R} sound ts a us e = subst (λ r. Yields r (R ts)) e ((sound.from ts).holds ts refl)

-- what is one production is another
pub sound_as : {A : Type 0} {p : Parser A} {R S : List Token → A → List Token → Type 0} → ((ts us : List Token) (a : A) → R ts a us → S ts a us) → Sound p R → Sound p S
sound_as {A = A} {p = p} {R = R} {S = S} f sound = record { from = λ ts. record { holds = λ us e. by ts us (p us) ((sound.from ts).holds us e) } }
  where
    by : (ts us : List Token) (r : Answer A) → Yields r (R ts) → Yields r (S ts)
    by ts us (Found a vs) h = f ts vs a h
    by ts us (Stopped vs) h = tt
    by ts us Spent h = tt

-- a production that was read from us on begins where us does
pub placed : {A : Type 0} (R : List Token → A → List Token → Type 0) {ts us vs : List Token} {a : A} → us ≡ ts → R us a vs → R ts a vs
placed R {vs = vs} {a = a} e r = subst (λ xs. R xs a vs) e r

-- ---- readers

-- the first reader of a production
pub start_t : {A : Type 0} {p : Parser A} {R : List Token → A → List Token → Type 0} {ts : List Token} → Sound p R → Triple (λ us. us ≡ ts) p (R ts)
start_t {ts = ts} sound = sound.from ts

called : {A : Type 0} (before : List Token → Type 0) (R : List Token → A → List Token → Type 0) (us : List Token) → before us → (r : Answer A)
    → Yields r (R us) → Yields r (λ a vs. (ts : List Token) × before ts × R ts a vs)
called before R us b (Found a vs) h = (us, b, h)
called before R us b (Stopped vs) h = tt
called before R us b Spent h = tt

-- a reader in the midst of a production
pub call_t : {A : Type 0} {before : List Token → Type 0} {p : Parser A} {R : List Token → A → List Token → Type 0} → Sound p R
    → Triple before p (λ a us. (ts : List Token) × before ts × R ts a us)
call_t {before = before} {p = p} {R = R} sound = record { holds = λ us b. called before R us b (p us) ((sound.from us).holds us refl) }

yields_as : {A : Type 0} (answer : Answer A) (after other : A → List Token → Type 0) → ((a : A) (us : List Token) → after a us → other a us) → Yields answer after → Yields answer other
yields_as (Found a us) after other f h = f a us h
yields_as (Stopped us) after other f h = tt
yields_as Spent after other f h = tt

-- what holds behind a reader may be weakened
pub after_t : {A : Type 0} {before : List Token → Type 0} {p : Parser A} {after other : A → List Token → Type 0} → ((a : A) (us : List Token) → after a us → other a us)
    → Triple before p after → Triple before p other
after_t {p = p} {after = after} {other = other} f t = record { holds = λ us b. yields_as (p us) after other f (t.holds us b) }

-- what doesn't speak of the place holds behind it too
pub frame_t : {A : Type 0} {Q : Type 0} {before : List Token → Type 0} {p : Parser A} {after : A → List Token → Type 0} → Triple before p after
    → Triple (λ us. before us × Q) p (λ a us. after a us × Q)
frame_t {Q = Q} {p = p} {after = after} t = record { holds = λ us b. yields_as (p us) after (λ a vs. after a vs × Q) (λ a vs h. (h, b.1)) (t.holds us b.0) }

-- less may be asked of the tokens before
pub before_t : {A : Type 0} {before other : List Token → Type 0} {p : Parser A} {after : A → List Token → Type 0} → ((us : List Token) → before us → other us)
    → Triple other p after → Triple before p after
before_t f t = record { holds = λ us b. t.holds us (f us b) }

then_yields : {A B : Type 0} (mid : A → List Token → Type 0) (after : B → List Token → Type 0) (f : A → Parser B) → ((a : A) → Triple (mid a) (f a) after)
    → (r : Answer A) → Yields r mid → Yields (and_then r f) after
then_yields mid after f t (Found a us) h = (t a).holds us h
then_yields mid after f t (Stopped us) h = tt
then_yields mid after f t Spent h = tt

-- one reader after another
pub bind_t : {A B : Type 0} {before : List Token → Type 0} {p : Parser A} {mid : A → List Token → Type 0} {f : A → Parser B} {after : B → List Token → Type 0}
    → Triple before p mid → ((a : A) → Triple (mid a) (f a) after) → Triple before (p >>= f) after
bind_t {p = p} {mid = mid} {f = f} {after = after} one two = record { holds = λ us b. then_yields mid after f two (p us) (one.holds us b) }

-- what was read is the production
pub pure_t : {A : Type 0} {before : List Token → Type 0} {a : A} {after : A → List Token → Type 0} → ((us : List Token) → before us → after a us) → Triple before (pure a) after
pure_t f = record { holds = f }

-- one that stops finds nothing
pub stop_t : {A : Type 0} {before : List Token → Type 0} {after : A → List Token → Type 0} → Triple before stop after
stop_t = record { holds = λ us b. tt }

-- nor does one whose bound is used up
pub spent_t : {A : Type 0} {before : List Token → Type 0} {after : A → List Token → Type 0} → Triple before spent after
spent_t = record { holds = λ us b. tt }

-- so they are sound for each production
pub stop_sound : {A : Type 0} {R : List Token → A → List Token → Type 0} → Sound stop R
stop_sound = record { from = λ ts. stop_t }

pub spent_sound : {A : Type 0} {R : List Token → A → List Token → Type 0} → Sound spent R
spent_sound = record { from = λ ts. spent_t }

-- ---- by the next token

-- a token of a kind, or else
pub on_t : {A : Type 0} {before : List Token → Type 0} (k : Kind) {hit miss : Parser A} {after : A → List Token → Type 0}
    → Triple (λ us. (x : Span) × before (tok k x ∷ us)) hit after → Triple before miss after → Triple before (on k hit miss) after
on_t {before = before} k {hit = hit} {miss = miss} {after = after} found other = record { holds = λ us b. by us b (sees k us) refl }
  where
    by : (us : List Token) → before us → (s : Bool) → sees k us ≡ s → Yields (if s then hit (next us) else miss us) after
    by us b true e = let n = seen k us e in found.holds (next us) (n.span, subst before n.is b)
    by us b false e = other.holds us b

-- a token of a table, or else
pub choose_t : {O A : Type 0} {before : List Token → Type 0} (table : Option Kind → Option O) {hit : O → Parser A} {miss : Parser A} {after : A → List Token → Type 0} → table None ≡ None
    → ((o : O) → Triple (λ us. (k : Kind) × (x : Span) × before (tok k x ∷ us) × (table (Some k) ≡ Some o)) (hit o) after) → Triple before miss after
    → Triple before (choose table hit miss) after
choose_t {O = O} {before = before} table {hit = hit} {miss = miss} {after = after} closed found other = record { holds = λ us b. by us b (table (kind_of us)) refl }
  where
    by : (us : List Token) → before us → (c : Option O) → table (kind_of us) ≡ c → Yields (choose_by c hit miss us) after
    by [] b (Some o) e = absurd cc
    by (t ∷ us) b (Some o) e = (found o).holds us (t.kind, span_of t, b, e)
    by us b None e = other.holds us b

-- what a test of the next token says is known
pub look_t : {O A : Type 0} {before : List Token → Type 0} (test : Option Kind → O) (f : O → Parser A) {after : A → List Token → Type 0}
    → ((o : O) → Triple (λ us. before us × (test (kind_of us) ≡ o)) (f o) after) → Triple before (look test f) after
look_t test f t = record { holds = λ us b. (t (test (kind_of us))).holds us (b, refl) }

-- the place of the next token
pub here_t : {A : Type 0} {before : List Token → Type 0} (f : ℕ → Parser A) {after : A → List Token → Type 0}
    → ((place : ℕ) → Triple (λ us. before us × (place_of us ≡ place)) (f place) after) → Triple before (here f) after
here_t f t = record { holds = λ us b. (t (place_of us)).holds us (b, refl) }

-- and its line
pub on_line_t : {A : Type 0} {before : List Token → Type 0} (f : ℕ → Parser A) {after : A → List Token → Type 0}
    → ((line : ℕ) → Triple (λ us. before us × (line_of us ≡ line)) (f line) after) → Triple before (on_line f) after
on_line_t f t = record { holds = λ us b. (t (line_of us)).holds us (b, refl) }

-- at the beginning of a production the place and the line are those of its first token
pub here_start : {A : Type 0} {ts : List Token} (f : ℕ → Parser A) {after : A → List Token → Type 0}
    → Triple (λ us. us ≡ ts) (f (place_of ts)) after → Triple (λ us. us ≡ ts) (here f) after
here_start f {after = after} t = record { holds = λ us e. subst (λ place. Yields (f place us) after) (ap place_of (sym e)) (t.holds us e) }

pub on_line_start : {A : Type 0} {ts : List Token} (f : ℕ → Parser A) {after : A → List Token → Type 0}
    → Triple (λ us. us ≡ ts) (f (line_of ts)) after → Triple (λ us. us ≡ ts) (on_line f) after
on_line_start f {after = after} t = record { holds = λ us e. subst (λ line. Yields (f line us) after) (ap line_of (sym e)) (t.holds us e) }

-- ---- single tokens

-- a word
pub word_t : {before : List Token → Type 0} (k : Kind) → Triple before (word k) (λ a us. (x : Span) × before (tok k x ∷ us))
unfolding word
word_t k = on_t k (pure_t (λ us h. h)) stop_t

-- any token
pub any_t : {before : List Token → Type 0} → Triple before any (λ t us. before (t ∷ us))
any_t {before = before} = record { holds = by }
  where
    by : (us : List Token) → before us → Yields (any us) (λ t vs. before (t ∷ vs))
    by [] b = tt
    by (t ∷ us) b = b

abbrev Kept : (List Token → Type 0) → Kind → Token → List Token → Type 0
Kept before k t us = (x : Span) × (t ≡ tok k x) × before (tok k x ∷ us)

token_by : (before : List Token → Type 0) (k : Kind) (us : List Token) → before us → (s : Bool) → sees k us ≡ s → Yields (if s then any us else Stopped us) (Kept before k)
token_by before k [] b true e = tt
token_by before k (t ∷ us) b true e = let is : t ≡ tok k (span_of t) = ap (λ j. tok j (span_of t)) (same_true t.kind k e) in (span_of t, is, subst (λ x. before (x ∷ us)) is b)
token_by before k us b false e = tt

-- a token that is kept
pub kept_t : {before : List Token → Type 0} (k : Kind) → Triple before (token k) (λ t us. (x : Span) × (t ≡ tok k x) × before (tok k x ∷ us))
unfolding token
kept_t {before = before} k = record { holds = λ us b. token_by before k us b (sees k us) refl }

-- and what is done with it
pub token_t : {A : Type 0} {before : List Token → Type 0} (k : Kind) (f : Token → Parser A) {after : A → List Token → Type 0}
    → ((x : Span) → Triple (λ us. before (tok k x ∷ us)) (f (tok k x)) after) → Triple before (token k >>= f) after
token_t {before = before} k f {after = after} each = bind_t {mid = Kept before k} (kept_t k)
    (λ t. record { holds = λ us h. subst (λ x. Yields (f x us) after) (sym h.1) ((each h.0).holds us h.2) })

-- ---- what these are as productions

pub token_sound : {k : Kind} → Sound (token k) (IsToken k)
unfolding token
token_sound {k = k} = record { from = λ ts. record { holds = λ us e. by ts us e (sees k us) refl } }
  where
    by : (ts us : List Token) → us ≡ ts → (s : Bool) → sees k us ≡ s → Yields (if s then any us else Stopped us) (IsToken k ts)
    by ts [] e true is = tt
    by ts (t ∷ us) e true is =
        let same : t ≡ tok k (span_of t) = ap (λ j. tok j (span_of t)) (same_true t.kind k is) in
        subst (λ xs. IsToken k xs t us) e (subst (λ x. IsToken k (x ∷ us) x us) (sym same) IsToken.single)
    by ts us e false is = tt

-- [ token ]
pub optional_sound : {k : Kind} → Sound (optional k) (IsOptional k)
unfolding optional
optional_sound {k = k} = record { from = λ ts. record { holds = λ us e. by ts us e (sees k us) refl } }
  where
    by : (ts us : List Token) → us ≡ ts → (s : Bool) → sees k us ≡ s → Yields (if s then and_then (any us) (λ t. pure (Some t)) else Found None us) (IsOptional k ts)
    by ts [] e true is = tt
    by ts (t ∷ us) e true is =
        let same : t ≡ tok k (span_of t) = ap (λ j. tok j (span_of t)) (same_true t.kind k is) in
        subst (λ xs. IsOptional k xs (Some t) us) e (subst (λ x. IsOptional k (x ∷ us) (Some x) us) (sym same) IsOptional.present)
    by ts us e false is = subst (λ xs. IsOptional k xs None us) e IsOptional.absent

-- [ w x ]
pub perhaps_sound : {A : Type 0} {w : Kind} {p : Parser A} {R : List Token → A → List Token → Type 0} → Sound p R → Sound (perhaps w p) (Perhaps w R)
perhaps_sound {w = w} {R = R} sound = record {
  from = λ ts. on_t w
      (bind_t (call_t sound) (λ a. pure_t (λ us h. subst (λ xs. Perhaps w R xs (Some a) us) h.1.1 (Perhaps.present h.2))))
      (pure_t (λ us h. subst (λ xs. Perhaps w R xs None us) h Perhaps.absent));
}
