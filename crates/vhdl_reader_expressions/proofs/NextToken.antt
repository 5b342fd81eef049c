-- What it means that two kinds are the same, and that a token of a kind is next.
use Rattle.std.proofs.Common.{◌≡◌, Bool, true, false, Option, Some, None, List, [], ◌∷◌, refl, ap, subst, rules}
use denote.Enum.Bare.{same_true as bare_same, true_same}
use Rattle.vhdl_tokens.specs.declared.token.Kind.{Kind}
use Rattle.vhdl_tokens.specs.declared.token.Kind.TheVariants.{Identifier, Word, Int, Char, Text, Bits, Delimiter}
use Rattle.vhdl_tokens.specs.declared.token.Token.{Token}
use Rattle.vhdl_tokens.specs.contracts.token.Delimiter as delimiters
use Rattle.vhdl_tokens.specs.contracts.reserved.Reserved as words
use Rattle.vhdl_tree.specs.Words.{Span, tok, kind_of, place_of, line_of}
use Rattle.vhdl_reader_expressions.specs.Kinds.{same, same_word, same_delimiter}
use Rattle.vhdl_reader_expressions.specs.Steps.{sees, next}

-- kinds that are found the same are one
pub same_true : (j k : Kind) → same j k ≡ true → j ≡ k
unfolding same same_word same_delimiter
same_true Identifier Identifier h = refl
same_true (Word a) (Word b) h = ap Word (bare_same words.the_type (search rules) a b h)
same_true Int Int h = refl
same_true Char Char h = refl
same_true Text Text h = refl
same_true Bits Bits h = refl
same_true (Delimiter a) (Delimiter b) h = ap Delimiter (bare_same delimiters.the_type (search rules) a b h)
same_true _ _ h = absurd cc

-- a kind is the same as itself
pub same_self : (k : Kind) → same k k ≡ true
unfolding same same_word same_delimiter
same_self Identifier = refl
same_self (Word a) = true_same words.the_type a a refl
same_self Int = refl
same_self Char = refl
same_self Text = refl
same_self Bits = refl
same_self (Delimiter a) = true_same delimiters.the_type a a refl

-- where a token stands
abbrev pub span_of : Token → Span
span_of t = record { start = t.start; end = t.end; line = t.line }

-- a token of kind k is next, and us are behind it
pub record IsNext (k : Kind) (ts us : List Token) : Type 0 where
  pub span : Span
  pub is : ts ≡ tok k span ∷ us

-- a token that is seen is next
pub seen : (k : Kind) (ts : List Token) → sees k ts ≡ true → IsNext k ts (next ts)
seen k [] h = absurd cc
seen k (t ∷ ts) h = record { span = span_of t; is = ap (λ j. tok j (span_of t) ∷ ts) (same_true t.kind k h) }

-- a token that is next is seen
pub sees_next : (k : Kind) (x : Span) (us : List Token) → sees k (tok k x ∷ us) ≡ true
sees_next k x us = same_self k

-- a token is not seen where what holds of the next kind does not hold of its own
pub not_seen : (E : Option Kind → Type 0) (k : Kind) (ts : List Token) → (E (Some k) → ⊥) → E (kind_of ts) → sees k ts ≡ false
not_seen E k ts never h = by (sees k ts) refl
  where
    by : (s : Bool) → sees k ts ≡ s → s ≡ false
    by true e = let n = seen k ts e in absurd (never (subst (λ us. E (kind_of us)) n.is h))
    by false e = refl

-- nor is it seen in place of a token of another kind
pub other_kind : (k j : Kind) (x : Span) (us : List Token) → (j ≡ k → ⊥) → sees k (tok j x ∷ us) ≡ false
other_kind k j x us differ = by (same j k) refl
  where
    by : (s : Bool) → same j k ≡ s → s ≡ false
    by true e = absurd (differ (same_true j k e))
    by false e = refl

-- the first token, if there is one
abbrev pub first : List Token → Option Token
first [] = None
first (t ∷ ts) = Some t

-- what is seen hangs on the first token
pub first_sees : (k : Kind) (us ts : List Token) → first us ≡ first ts → sees k us ≡ sees k ts
first_sees k [] [] h = refl
first_sees k (u ∷ us) (t ∷ ts) h = let e : u ≡ t = cc in ap (λ x. same x.kind k) e
first_sees k _ _ h = absurd cc

-- so does the kind
pub first_kind : (us ts : List Token) → first us ≡ first ts → kind_of us ≡ kind_of ts
first_kind [] [] h = refl
first_kind (u ∷ us) (t ∷ ts) h = let e : u ≡ t = cc in ap (λ x. Some x.kind) e
first_kind _ _ h = absurd cc

-- so does the place
pub first_place : (us ts : List Token) → first us ≡ first ts → place_of us ≡ place_of ts
first_place [] [] h = refl
first_place (u ∷ us) (t ∷ ts) h = let e : u ≡ t = cc in ap (λ x. x.start) e
first_place _ _ h = absurd cc

-- and so does the line
pub first_line : (us ts : List Token) → first us ≡ first ts → line_of us ≡ line_of ts
first_line [] [] h = refl
first_line (u ∷ us) (t ∷ ts) h = let e : u ≡ t = cc in ap (λ x. x.line) e
first_line _ _ h = absurd cc
