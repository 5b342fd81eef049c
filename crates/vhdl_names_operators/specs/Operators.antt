-- Operators (IEEE Std 1076-2008, clause 9.2): the types that an operator gives, where each of its operands can have
-- several.
use Rattle.std.specs.Prelude.{Bool, true, false, ◌&&◌, ◌||◌, Option, Some, None, List, filter}
use Rattle.vhdl_tree.specs.declared.expressions.Operator.{Operator}
use Rattle.vhdl_tree.specs.declared.expressions.Operator.TheVariants as operator
use Rattle.vhdl_tree.specs.declared.expressions.Unary.{Unary}
use Rattle.vhdl_tree.specs.declared.expressions.Unary.TheVariants as unary
use Rattle.vhdl_units.specs.declared.base_type.BaseType.{BaseType}
use Rattle.vhdl_units.specs.declared.base_type.BaseType.TheVariants as base
use Rattle.vhdl_units.specs.Types.{element}
use Rattle.vhdl_names_operators.specs.Sets.{has, predefined}

-- BOOLEAN, BIT and STD_ULOGIC, and the arrays of bits of these
unfoldable pub is_logical : BaseType → Bool
is_logical base.Boolean = true
is_logical base.Bit = true
is_logical base.StdUlogic = true
is_logical base.BitVector = true
is_logical base.StdUlogicVector = true
is_logical _ = false

unfoldable pub is_numeric : BaseType → Bool
is_numeric base.Integer = true
is_numeric base.Time = true
is_numeric _ = false

-- whether both operands can have the type t
unfoldable pub both : List BaseType → List BaseType → BaseType → Bool
both ls rs t = has ls t && has rs t

-- and or xor xnor nand nor (9.2.2), of two operands of one type
unfoldable pub logical : List BaseType → List BaseType → BaseType → Bool
logical ls rs t = is_logical t && both ls rs t

-- = /= < <= > >= (9.2.3)
unfoldable pub relation : BaseType → Bool
relation base.Boolean = true
relation _ = false

-- + - (9.2.5)
unfoldable pub sum : List BaseType → List BaseType → BaseType → Bool
sum ls rs t = is_numeric t && both ls rs t

-- & (9.2.5), of two operands that are each an array of the type t or an element of one, e
unfoldable pub joins : List BaseType → BaseType → BaseType → Bool
joins types t e = has types t || has types e

unfoldable pub joined : List BaseType → List BaseType → BaseType → Option BaseType → Bool
joined ls rs t (Some e) = joins ls t e && joins rs t e
joined ls rs t None = false

unfoldable pub concatenation : List BaseType → List BaseType → BaseType → Bool
concatenation ls rs t = joined ls rs t (element t)

-- * (9.2.7)
unfoldable pub product : List BaseType → List BaseType → BaseType → Bool
product ls rs base.Integer = both ls rs base.Integer
product ls rs base.Time = (has ls base.Integer && has rs base.Time) || (has ls base.Time && has rs base.Integer)
product ls rs _ = false

-- / (9.2.7)
unfoldable pub quotient : List BaseType → List BaseType → BaseType → Bool
quotient ls rs base.Integer = both ls rs base.Integer || both ls rs base.Time
quotient ls rs base.Time = has ls base.Time && has rs base.Integer
quotient ls rs _ = false

-- mod rem (9.2.7) and ** (9.2.8)
unfoldable pub integers : List BaseType → List BaseType → BaseType → Bool
integers ls rs base.Integer = both ls rs base.Integer
integers ls rs _ = false

-- whether the operator gives the type t where its operands can have the types ls and rs
unfoldable pub can_be : Operator → List BaseType → List BaseType → BaseType → Bool
can_be operator.And ls rs t = logical ls rs t
can_be operator.Or ls rs t = logical ls rs t
can_be operator.Xor ls rs t = logical ls rs t
can_be operator.Xnor ls rs t = logical ls rs t
can_be operator.Nand ls rs t = logical ls rs t
can_be operator.Nor ls rs t = logical ls rs t
can_be operator.Equal ls rs t = relation t
can_be operator.NotEqual ls rs t = relation t
can_be operator.Less ls rs t = relation t
can_be operator.LessEqual ls rs t = relation t
can_be operator.Greater ls rs t = relation t
can_be operator.GreaterEqual ls rs t = relation t
can_be operator.Add ls rs t = sum ls rs t
can_be operator.Subtract ls rs t = sum ls rs t
can_be operator.Concatenate ls rs t = concatenation ls rs t
can_be operator.Multiply ls rs t = product ls rs t
can_be operator.Divide ls rs t = quotient ls rs t
can_be operator.Mod ls rs t = integers ls rs t
can_be operator.Rem ls rs t = integers ls rs t
can_be operator.Power ls rs t = integers ls rs t

unfoldable pub results : Operator → List BaseType → List BaseType → List BaseType
results op ls rs = filter (can_be op ls rs) predefined

-- the operators of one operand: signs (9.2.6), abs (9.2.8) and not (9.2.2). Each gives its operand's type.
unfoldable pub is_integer : BaseType → Bool
is_integer base.Integer = true
is_integer _ = false

unfoldable pub is_defined_on : Unary → BaseType → Bool
is_defined_on unary.Plus t = is_numeric t
is_defined_on unary.Minus t = is_numeric t
is_defined_on unary.Abs t = is_integer t
is_defined_on unary.Not t = is_logical t

unfoldable pub can_be_from : Unary → List BaseType → BaseType → Bool
can_be_from op types t = is_defined_on op t && has types t

unfoldable pub results_from : Unary → List BaseType → List BaseType
results_from op types = filter (can_be_from op types) predefined
