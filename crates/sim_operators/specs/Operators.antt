-- Operators on values (IEEE Std 1076-2008, clause 9.2).
use Rattle.std.specs.Ordering.{int_eq}
use Rattle.std.specs.Prelude.{ℕ, ◌&&◌, ◌==◌, Bool, not, List, [], ◌∷◌, ◌++◌, length, map, ℤ, pos, neg_ℤ, int_lt, int_le, unsigned_abs, Option, None, option_map, Result, Ok, Err, if◌then◌else◌}
use Rattle.std.specs.List.{zip, list_all}
use Rattle.vhpi_values.specs.Formats.{first}
use Rattle.sim_elaborated.specs.declared.expressions.Relation.{Relation}
use Rattle.sim_elaborated.specs.declared.expressions.Relation.TheVariants as relation
use Rattle.sim_elaborated.specs.declared.expressions.Operator.{Operator}
use Rattle.sim_elaborated.specs.declared.expressions.Operator.TheVariants as operator
use Rattle.sim_elaborated.specs.declared.expressions.Unary.{Unary}
use Rattle.sim_elaborated.specs.declared.expressions.Unary.TheVariants as unary
use Rattle.sim_operators.specs.declared.fault.Fault.{Fault}
use Rattle.sim_operators.specs.declared.fault.Fault.TheVariants as fault
use Rattle.sim_operators.specs.Outcomes.{Outcome, and_then}
use Rattle.sim_operators.specs.Numbers.{within, in_integer, calculated}
use Rattle.sim_operators.specs.Logic.{is_true, truth, two_valued, two_valued_at, two_valued_not_at, nine_valued_at, nine_valued_not_at, x01_at, by_element, logical_of, decided_by}

-- a scalar
abbrev pub only : ℤ → List ℤ
only n = n ∷ []

abbrev pub of_truth : Bool → List ℤ
of_truth b = only (truth b)

-- two values of one type are equal where all of their elements are
abbrev pub are_equal : List ℤ → List ℤ → Bool
are_equal a b = (length a == length b) && list_all (λ pair. int_eq pair.0 pair.1) (zip a b)

abbrev pub holds : Relation → List ℤ → List ℤ → Bool
holds relation.Equal a b = are_equal a b
holds relation.NotEqual a b = not (are_equal a b)
holds relation.Less a b = int_lt (first a) (first b)
holds relation.LessOrEqual a b = int_le (first a) (first b)
holds relation.Greater a b = int_lt (first b) (first a)
holds relation.GreaterOrEqual a b = int_le (first b) (first a)

-- what an operator gives where its left operand decides alone
abbrev pub decided : Operator → List ℤ → Option (List ℤ)
decided (operator.ShortCircuit short) left = option_map of_truth (decided_by short (is_true (first left)))
decided _ left = None

-- what an operator gives on both operands
abbrev pub applied : Operator → List ℤ → List ℤ → Outcome
applied (operator.ShortCircuit short) a b = Ok (of_truth (two_valued (logical_of short) (is_true (first a)) (is_true (first b))))
applied (operator.TwoValued logical) a b = by_element (two_valued_at logical) a b
applied (operator.NineValued logical) a b = by_element (nine_valued_at logical) a b
applied (operator.Relation relation) a b = Ok (of_truth (holds relation a b))
applied operator.Concatenate a b = Ok (a ++ b)
applied (operator.Arithmetic arithmetic of) a b = and_then (calculated arithmetic of (first a) (first b)) (λ n. Ok (only n))

-- the value at a position of a type with so many literals
abbrev pub value_at : ℕ → ℤ → Result ℤ Fault
value_at count n = if int_le (pos 0) n && int_lt n (pos count) then Ok n else Err (fault.Range n)

abbrev pub applied_unary : Unary → List ℤ → Outcome
applied_unary (unary.Negate of) a = and_then (within of (neg_ℤ (first a))) (λ n. Ok (only n))
applied_unary unary.Absolute a = and_then (in_integer (pos (unsigned_abs (first a)))) (λ n. Ok (only n))
applied_unary unary.TwoValuedNot a = Ok (map two_valued_not_at a)
applied_unary unary.NineValuedNot a = Ok (map nine_valued_not_at a)
applied_unary unary.ToX01 a = Ok (map x01_at a)
applied_unary (unary.ValueAt count) a = and_then (value_at count (first a)) (λ n. Ok (only n))
