-- The steps that readers are made of. A reader takes the tokens from its place on.
use Rattle.std.specs.Prelude.{◌≡◌, ℕ, zero, suc, Bool, false, Option, Some, None, Result, Ok, Err, List, [], ◌∷◌, ◌++◌, if◌then◌else◌}
use Rattle.vhdl_tokens.specs.declared.token.Kind.{Kind}
use Rattle.vhdl_tokens.specs.declared.token.Token.{Token}
use Rattle.vhdl_tree.specs.Words.{kind_of, place_of, line_of}
use Rattle.vhdl_reader_expressions.specs.declared.stop.Stop.{Stop}
use Rattle.vhdl_reader_expressions.specs.declared.stop.Stop.TheVariants as stops
use Rattle.vhdl_reader_expressions.specs.Kinds.{same}

-- What a reader comes to.
pub data Answer (A : Type 0) : Type 0 where
  -- what was read, and the tokens behind it
  Found : A → List Token → Answer A
  -- the tokens from the one on at which it stopped
  Stopped : List Token → Answer A
  -- a bound on turns or depth was used up
  Spent : Answer A

abbrev pub Parser : Type 0 → Type 0
Parser A = List Token → Answer A

-- ---- the next token

abbrev pub next : List Token → List Token
next [] = []
next (t ∷ ts) = ts

abbrev pub sees : Kind → List Token → Bool
sees k [] = false
sees k (t ∷ ts) = same t.kind k

abbrev pub behind : Kind → List Token → List Token
behind k ts = if sees k ts then next ts else ts

-- ---- one after the other

abbrev pub and_then : {A B : Type 0} → Answer A → (A → Parser B) → Answer B
and_then (Found a us) f = f a us
and_then (Stopped us) f = Stopped us
and_then Spent f = Spent

infixl 10 ◌>>=◌
abbrev pub ◌>>=◌ : {A B : Type 0} → Parser A → (A → Parser B) → Parser B
p >>= f = λ ts. and_then (p ts) f

infixl 10 ◌>>◌
abbrev pub ◌>>◌ : {A B : Type 0} → Parser A → Parser B → Parser B
p >> q = p >>= (λ _. q)

abbrev pub pure : {A : Type 0} → A → Parser A
pure a = λ ts. Found a ts

abbrev pub stop : {A : Type 0} → Parser A
stop = λ ts. Stopped ts

abbrev pub spent : {A : Type 0} → Parser A
spent = λ ts. Spent

-- ---- by the next token

-- take a token of this kind, or else
abbrev pub on : {A : Type 0} → Kind → Parser A → Parser A → Parser A
on k hit miss = λ ts. if sees k ts then hit (next ts) else miss ts

abbrev pub choose_by : {O A : Type 0} → Option O → (O → Parser A) → Parser A → Parser A
choose_by (Some o) hit miss = λ ts. hit o (next ts)
choose_by None hit miss = miss

-- take a token of the table, or else
abbrev pub choose : {O A : Type 0} → (Option Kind → Option O) → (O → Parser A) → Parser A → Parser A
choose table hit miss = λ ts. choose_by (table (kind_of ts)) hit miss ts

-- go on by the next token, which stays
abbrev pub look : {O A : Type 0} → (Option Kind → O) → (O → Parser A) → Parser A
look test f = λ ts. f (test (kind_of ts)) ts

-- the place and the line of the next token
abbrev pub here : {A : Type 0} → (ℕ → Parser A) → Parser A
here f = λ ts. f (place_of ts) ts

abbrev pub on_line : {A : Type 0} → (ℕ → Parser A) → Parser A
on_line f = λ ts. f (line_of ts) ts

-- ---- single tokens

unfoldable pub word : Kind → Parser (Unit {0})
word k = on k (pure tt) stop

abbrev pub any : Parser Token
any [] = Stopped []
any (t ∷ ts) = Found t ts

unfoldable pub token : Kind → Parser Token
token k = λ ts. if sees k ts then any ts else Stopped ts

unfoldable pub optional : Kind → Parser (Option Token)
optional k = λ ts. if sees k ts then and_then (any ts) (λ t. pure (Some t)) else Found None ts

-- ---- lists, with a bound on their turns

-- { x }, as long as the next token begins one
unfoldable pub many_from : {A : Type 0} → ℕ → (Option Kind → Bool) → Parser A → List A → Parser (List A)
many_from zero begins p found = spent
many_from (suc n) begins p found = look begins (λ b. if b then (do a ← p; many_from n begins p (found ++ a ∷ [])) else pure found)

-- { w x }
unfoldable pub preceded_from : {A : Type 0} → ℕ → Kind → Parser A → List A → Parser (List A)
preceded_from zero w p found = spent
preceded_from (suc n) w p found = on w (do a ← p; preceded_from n w p (found ++ a ∷ [])) (pure found)

-- { op x }
unfoldable pub operations_from : {O A B : Type 0} → ℕ → (Option Kind → Option O) → (O → A → B) → Parser A → List B → Parser (List B)
operations_from zero table make p found = spent
operations_from (suc n) table make p found = choose table (λ o. do a ← p; operations_from n table make p (found ++ make o a ∷ [])) (pure found)

-- [ w x ]
abbrev pub perhaps : {A : Type 0} → Kind → Parser A → Parser (Option A)
perhaps w p = on w (do a ← p; pure (Some a)) (pure None)

-- nothing may follow
abbrev pub finish : {A : Type 0} → A → Parser A
finish a [] = Found a []
finish a (t ∷ ts) = Stopped (t ∷ ts)

unfoldable pub whole : {A : Type 0} → Parser A → Parser A
whole p = p >>= finish

-- ---- what a function that reads ensures: the reader's answer, unless memory ran out. The cursor stands at the
-- token at which the reader stopped.
abbrev pub Reads : {A : Type 0} → Answer A → Result A Stop → List Token → Type 0
Reads answer (Ok a) now = answer ≡ Found a now
Reads answer (Err stops.Syntax) now = answer ≡ Stopped now
Reads answer (Err stops.Bound) now = answer ≡ Spent
Reads answer (Err stops.NoMemory) now = Unit {0}
