-- What expressions and names mean by what stands around them (IEEE Std 1076-2008, clauses 8, 9 and 12).
use Rattle.std.specs.Prelude.{List, None, Option, Some, ℕ}
use Rattle.vhdl_names_checker.specs.Around.{Around}
use Rattle.vhdl_names_checker.specs.Telling.{seen_here}
use Rattle.vhdl_names_meaning.specs.Names.{target_of}
use Rattle.vhdl_names_meaning.specs.Ranges.{choice_at}
use Rattle.vhdl_names_meaning.specs.Settling.{settled}
use Rattle.vhdl_names_meaning.specs.Trees.{candidate, choice_candidate, denoted, range_candidate}
use Rattle.vhdl_names_meaning.specs.declared.candidates.Denoted.{Denoted}
use Rattle.vhdl_names_meaning.specs.declared.candidates.RangeCandidate.{RangeCandidate}
use Rattle.vhdl_tree.specs.declared.declarations.Bounds.{Bounds}
use Rattle.vhdl_tree.specs.declared.expressions.Choice.{Choice}
use Rattle.vhdl_tree.specs.declared.expressions.Expr.{Expr}
use Rattle.vhdl_tree.specs.declared.expressions.Name.{Name}
use Rattle.vhdl_units.specs.declared.base_type.BaseType.{BaseType}
use Rattle.vhdl_units.specs.declared.values.ChoiceValue.{ChoiceValue}
use Rattle.vhdl_units.specs.declared.values.Value.{Value}

module _ (text : List ℕ) (a : Around) where
  -- an expression where this type is asked
  unfoldable pub value_at : BaseType → Expr → Value
  value_at t e = settled (candidate text (seen_here text a) e) t

  unfoldable pub optional_at : BaseType → Option Expr → Option Value
  optional_at t None = None
  optional_at t (Some e) = Some (value_at t e)

  unfoldable pub denoted_here : Name → Denoted
  denoted_here n = denoted text (seen_here text a) n

  -- the name of an object
  unfoldable pub target_here : Name → Value
  target_here n = target_of (denoted_here n)

  unfoldable pub choice_here : BaseType → Choice → ChoiceValue
  choice_here t c = choice_at t (choice_candidate text (seen_here text a) c)

  unfoldable pub range_here : Bounds → RangeCandidate
  range_here b = range_candidate text (seen_here text a) b
