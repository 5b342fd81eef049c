-- Choices and discrete ranges (IEEE Std 1076-2008, clauses 5.3.2.1, 9.3.3 and 10.9).
use Rattle.std.specs.Prelude.{Bool, Option, Some, true, ◌&&◌}
use Rattle.vhdl_names_meaning.specs.Settling.{settled}
use Rattle.vhdl_names_meaning.specs.declared.candidates.Candidate.{out-Candidate}
use Rattle.vhdl_names_meaning.specs.declared.candidates.ChoiceCandidate.{ChoiceCandidate}
use Rattle.vhdl_names_meaning.specs.declared.candidates.Denoted.{Denoted}
use Rattle.vhdl_names_meaning.specs.declared.candidates.RangeCandidate.{RangeCandidate}
use Rattle.vhdl_names_operators.specs.Places.{common_discrete}
use Rattle.vhdl_units.specs.declared.base_type.BaseType.{BaseType}
use Rattle.vhdl_units.specs.declared.values.ChoiceValue.{ChoiceValue}
use Rattle.vhdl_units.specs.declared.values.RangeValue.{RangeValue}
use Rattle.vhdl_units.specs.declared.base_type.BaseType.TheVariants as base
use Rattle.vhdl_names_meaning.specs.declared.candidates.ChoiceCandidate.TheVariants as choice
use Rattle.vhdl_units.specs.declared.values.ChoiceValue.TheVariants as choice_value
use Rattle.vhdl_names_meaning.specs.declared.candidates.Denoted.TheVariants as denoted
use Rattle.vhdl_names_meaning.specs.declared.candidates.RangeCandidate.TheVariants as range
use Rattle.vhdl_units.specs.declared.values.RangeValue.TheVariants as range_value

-- ---- choices

unfoldable pub choice_at : BaseType → ChoiceCandidate → ChoiceValue
choice_at t (choice.Value c) = choice_value.Value (settled c t)
choice_at t (choice.Range left direction right) = choice_value.Range (settled left t) direction (settled right t)
choice_at t choice.Others = choice_value.Others

unfoldable pub choice_is_static : ChoiceCandidate → Bool
choice_is_static (choice.Value c) = (out-Candidate c).is_static
choice_is_static (choice.Range left direction right) = (out-Candidate left).is_static && (out-Candidate right).is_static
choice_is_static choice.Others = true

-- ---- discrete ranges

unfoldable pub range_of : Denoted → RangeValue
range_of (denoted.Range r) = range_value.Of r
range_of _ = range_value.Unknown

unfoldable pub range_at : BaseType → RangeCandidate → RangeValue
range_at t (range.Bounds left direction right) = range_value.Bounds (settled left t) direction (settled right t)
range_at t (range.Name d) = range_of d

-- the one discrete type that both bounds can have
unfoldable pub common_type : RangeCandidate → Option BaseType
common_type (range.Bounds left direction right) = common_discrete (out-Candidate left).types (out-Candidate right).types
common_type (range.Name d) = Some base.Integer
