-- The literal of a type, by its position.
use Rattle.std.proofs.Common.{◌≡◌, ℕ, Bool, true, false, Option, List, [], ◌∷◌, refl, ap, sym, ◌∙◌, if◌then◌else◌}
use Rattle.std.specs.Prelude.{Some, None}
use Rattle.vhdl_units.specs.Types.{same}
use Rattle.vhdl_units.specs.declared.base_type.BaseType.{BaseType}
use Rattle.vhdl_units.specs.declared.entry.Entry.{Entry}
use Rattle.vhdl_units.specs.declared.entry.Entry.TheVariants as entry
use Rattle.vhdl_names_overloads.specs.Literals.{or_else, position_in, position_of}
use Rattle.vhdl_names_overloads.proofs.Same.{same_is}
use Rattle.vhdl_units.specs.declared.values.Value.{Value}
use Rattle.vhdl_units.specs.declared.values.Value.TheVariants as value
use Rattle.vhdl_names_meaning.specs.Settling.{literal_at}

abbrev at_position : BaseType → Option ℕ → Value
at_position t (Some n) = value.Literal t n
at_position t None = value.Unknown

found_at : (b : Bool) (t u : BaseType) (n : ℕ) (v : Value) (o : Option ℕ) → (b ≡ true → t ≡ u) → v ≡ at_position t o
    → (if b then value.Literal u n else v) ≡ at_position t (or_else (if b then Some n else None) o)
unfolding or_else
found_at true t u n v o is h = ap (λ s. value.Literal s n) (sym (is refl))
found_at false t u n v o is h = h

at_its_position : (t : BaseType) (entries : List Entry) → literal_at t entries ≡ at_position t (position_of t entries)
unfolding literal_at position_of position_in or_else
at_its_position t [] = refl
at_its_position t (entry.Literal u n ∷ entries) = found_at (same t u) t u n (literal_at t entries) (position_of t entries) (same_is t u) (at_its_position t entries)
at_its_position t (entry.Subtype mark ∷ entries) = at_its_position t entries
at_its_position t (entry.Object o ∷ entries) = at_its_position t entries
at_its_position t (entry.Function f ∷ entries) = at_its_position t entries
at_its_position t (entry.Unit u ∷ entries) = at_its_position t entries
at_its_position t (entry.Label n ∷ entries) = at_its_position t entries

pub literal_there : (t : BaseType) (entries : List Entry) (n : ℕ) → Some n ≡ position_of t entries → value.Literal t n ≡ literal_at t entries
literal_there t entries n h = ap (at_position t) h ∙ sym (at_its_position t entries)

pub literal_nowhere : (t : BaseType) (entries : List Entry) → None ≡ position_of t entries → value.Unknown ≡ literal_at t entries
literal_nowhere t entries h = ap (at_position t) h ∙ sym (at_its_position t entries)
