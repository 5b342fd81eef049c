-- What the readers find that the crates above call.
use Rattle.std.proofs.Common.{◌≡◌, ℕ, zero, suc, List, ◌∷◌}
use Rattle.vhdl_tokens.specs.declared.token.Token.{Token}
use Rattle.vhdl_tree.specs.declared.expressions.Operator.TheVariants as op
use Rattle.vhdl_tree.specs.Words.{Span, id}
use Rattle.vhdl_tree.specs.Lists.{Operations}
use Rattle.vhdl_tree.specs.Ranges.{IsBounds}
use Rattle.vhdl_tree.specs.Expressions.{IsRelation, IsExpression, SimpleWithin, Expression, Choices, NameOf}
use Rattle.vhdl_reader_expressions.proofs.Sound.{Triple, Sound, sound_as}
use Rattle.vhdl_reader_expressions.proofs.FrontSteps.{LeadsTo, Some_of, Viable, viable_as, after_f}
use Rattle.vhdl_reader_expressions.specs.Reading.{simple_at, expression_within, choices_within, name_from_within, name_within, bounds_within}
use Rattle.vhdl_reader_expressions.proofs.Sounds as sounds
use Rattle.vhdl_reader_expressions.proofs.NamedBounds as named
use Rattle.vhdl_reader_expressions.proofs.Fronts as fronts
use Rattle.vhdl_reader_expressions.proofs.NamedFronts as named_fronts

pub expression_read : (bound : ℕ) → Sound (expression_within bound) Expression
unfolding expression_within
expression_read bound = sound_as (λ ts us a h. (bound, h)) (sounds.expression_sound bound (simple_at bound bound) (SimpleWithin bound) (sounds.simple_sound bound bound))

pub choices_read : (bound : ℕ) → Sound (choices_within bound) Choices
unfolding choices_within
choices_read bound = sound_as (λ ts us a h. (bound, h)) (sounds.choices_sound bound (simple_at bound bound) (SimpleWithin bound) (sounds.simple_sound bound bound))

pub name_read : (bound : ℕ) → Sound (name_within bound) NameOf
unfolding name_within
name_read bound = sound_as (λ ts us a h. (bound, h)) (sounds.name_sound bound (simple_at bound bound) (SimpleWithin bound) (sounds.simple_sound bound bound))

pub bounds_read : (bound : ℕ) → Sound (bounds_within bound) IsBounds
bounds_read bound = named.bounds_sound bound

-- a name whose identifier is read already
pub name_from_read : (bound : ℕ) (ts : List Token) (x : Span) → Triple (λ us. id x ∷ us ≡ ts) (name_from_within bound (id x)) (NameOf ts)
name_from_read bound ts x = named.name_from_sound bound ts x

-- ---- where they stop, some tokens more would have made what they read

pub expression_goes_on : (bound : ℕ) → Viable (expression_within bound) Expression
unfolding expression_within
expression_goes_on bound = viable_as (λ ts us a h. (suc bound, h)) (fronts.expression_viable bound (simple_at bound bound) (SimpleWithin (suc bound)) (fronts.simple_viable bound bound))

pub choices_go_on : (bound : ℕ) → Viable (choices_within bound) Choices
unfolding choices_within
choices_go_on bound = viable_as (λ ts us a h. (suc bound, h)) (fronts.choices_viable bound (simple_at bound bound) (SimpleWithin (suc bound)) (fronts.simple_viable bound bound))

pub name_goes_on : (bound : ℕ) → Viable (name_within bound) NameOf
unfolding name_within
name_goes_on bound = viable_as (λ ts us a h. (suc bound, h)) (fronts.name_viable bound (simple_at bound bound) (SimpleWithin (suc bound)) (fronts.simple_viable bound bound))

pub bounds_go_on : (bound : ℕ) → Viable (bounds_within bound) IsBounds
bounds_go_on bound = named_fronts.bounds_viable bound

pub name_from_goes_on : (bound : ℕ) (t : Token) → LeadsTo (λ ts us. (x : Span) × (id x ∷ us ≡ ts)) (name_from_within bound t) (λ a. Some_of NameOf)
unfolding name_from_within
name_from_goes_on bound t = after_f (λ a ts us h. (h.0, (suc bound, h.1))) (fronts.name_from_f bound (simple_at bound bound) (SimpleWithin (suc bound)) (fronts.simple_viable bound bound) t)

-- an identifier is an expression
pub identifier_expression : (x : Span) (us : List Token) → Some_of Expression (id x ∷ us) us
identifier_expression x us = (_, (suc zero, IsExpression.chain op.And (IsRelation.plain (fronts.identifier_simple (SimpleWithin zero) x us)) Operations.none))
