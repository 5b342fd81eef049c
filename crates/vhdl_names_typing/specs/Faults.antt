-- Where a rule of expressions is tested, and where it isn't.
use Rattle.std.specs.Prelude.{Bool, List, [], false, if◌then◌else◌, length, not, true, ℕ, ◌&&◌, ◌++◌, ◌==◌}
use Rattle.vhdl_names_operators.specs.Places.{fits_alone}
use Rattle.vhdl_units.specs.Faults.{at}
use Rattle.vhdl_units.specs.declared.base_type.BaseType.{BaseType}
use Rattle.vhdl_units.specs.declared.fault.Fault.{Fault}
use Rattle.vhdl_units.specs.declared.fault.Rule.{Rule}
use Rattle.vhdl_names_typing.specs.declared.told.Form.{Form}
use Rattle.vhdl_names_typing.specs.declared.told.Told.{Told}
use Rattle.vhdl_names_typing.specs.declared.told.Form.TheVariants as form
use Rattle.vhdl_units.specs.declared.fault.Rule.TheVariants as rule

-- no name in it breaks a rule of visibility, of kinds or of attributes
unfoldable pub is_known : List Fault → Bool
is_known names = length names == 0

-- the rule is broken here, and tested as no name in the expression breaks one
unfoldable pub break_if : Bool → List Fault → ℕ → Rule → List Fault
break_if broken names place rule = if broken && is_known names then at place rule else []

-- ---- what a place asks of the expression there

-- that this type is among those that it can have, and so the one of them that fits
unfoldable pub asks : BaseType → Told → List Fault
asks t told = break_if (not (fits_alone t told.types)) told.names told.place rule.Type

-- Where no bounds are known, an aggregate there has no `others`.
unfoldable pub has_others : Form → Bool
has_others (form.Others beside) = true
has_others _ = false

unfoldable pub without_bounds : Told → List Fault
without_bounds told = break_if (has_others told.form) told.names told.place rule.Aggregate

-- Where the bounds aren't globally static, `others` stands in an aggregate alone.
unfoldable pub others_beside : Form → Bool
others_beside (form.Others beside) = beside
others_beside _ = false

unfoldable pub with_bounds : Bool → Told → List Fault
with_bounds is_static told = break_if (not is_static && others_beside told.form) told.names told.place rule.Aggregate

-- the breaks in an operand, an index, a bound or an argument
unfoldable pub typing_of : Told → List Fault
typing_of told = told.typing ++ without_bounds told
