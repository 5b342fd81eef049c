-- The operands of a relation (IEEE Std 1076-2008, clause 9.2.3): they have one type, which one of them can have alone.
use Rattle.std.specs.Prelude.{Bool, true, false, ◌&&◌, ◌||◌, not, Option, Some, None, List}
use Rattle.vhdl_tree.specs.declared.expressions.Operator.{Operator}
use Rattle.vhdl_tree.specs.declared.expressions.Operator.TheVariants as operator
use Rattle.vhdl_units.specs.declared.base_type.BaseType.{BaseType}
use Rattle.vhdl_units.specs.Types.{is_array}
use Rattle.vhdl_names_operators.specs.Sets.{has}
use Rattle.vhdl_names_operators.specs.Places.{only}

-- whether the operator is a relation between two values of the type t: of any type whether they are equal, of a
-- scalar type which is less
unfoldable pub compares : Operator → BaseType → Bool
compares operator.Equal t = true
compares operator.NotEqual t = true
compares operator.Less t = not (is_array t)
compares operator.LessEqual t = not (is_array t)
compares operator.Greater t = not (is_array t)
compares operator.GreaterEqual t = not (is_array t)
compares _ t = false

-- whether the other operand can have the only type of one
unfoldable pub is_met : Operator → Option BaseType → List BaseType → Bool
is_met op (Some t) others = compares op t && has others t
is_met op None others = false

unfoldable pub relates : Operator → List BaseType → List BaseType → Bool
relates op ls rs = is_met op (only ls) rs || is_met op (only rs) ls
