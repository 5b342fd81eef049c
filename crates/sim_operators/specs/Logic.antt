-- Truth values and the nine values of STD_ULOGIC, by their positions (IEEE Std 1076-2008, clause 9.2.2).
use Rattle.std.specs.Ordering.{int_eq}
use Rattle.std.specs.Prelude.{Bool, true, false, not, ◌&&◌, ◌||◌, ◌==◌, List, [], ◌∷◌, length, map, ℤ, pos, unsigned_abs, Option, Some, None, Ok, Err, slice_index_or, if◌then◌else◌}
use Rattle.std.specs.List.{zip}
use Rattle.sim_logic.specs.declared.Logic9.{Logic9}
use Rattle.sim_logic.specs.declared.Logic9.TheVariants.{U, X, Zero, One, Z, W, L, H, Dash}
use Rattle.sim_logic.specs.Logic.{and_table, or_table, xor_table, not_table, x01_table}
use Rattle.sim_elaborated.specs.declared.expressions.Logical.{Logical}
use Rattle.sim_elaborated.specs.declared.expressions.Logical.TheVariants as logical
use Rattle.sim_elaborated.specs.declared.expressions.ShortCircuit.{ShortCircuit}
use Rattle.sim_elaborated.specs.declared.expressions.ShortCircuit.TheVariants as short
use Rattle.sim_operators.specs.declared.fault.Fault.TheVariants as fault
use Rattle.sim_operators.specs.Outcomes.{Outcome}

-- a position of BOOLEAN or BIT as a truth value: TRUE and '1' stand at position 1
abbrev pub is_true : ℤ → Bool
is_true n = not (int_eq n (pos 0))

abbrev pub truth : Bool → ℤ
truth b = if b then pos 1 else pos 0

abbrev pub two_valued : Logical → Bool → Bool → Bool
two_valued logical.And a b = a && b
two_valued logical.Or a b = a || b
two_valued logical.Nand a b = not (a && b)
two_valued logical.Nor a b = not (a || b)
two_valued logical.Xor a b = if a then not b else b
two_valued logical.Xnor a b = if a then b else not b

abbrev pub two_valued_at : Logical → ℤ → ℤ → ℤ
two_valued_at operator a b = truth (two_valued operator (is_true a) (is_true b))

-- the nine values in the order of their positions
abbrev pub nine_values : List Logic9
nine_values = U ∷ X ∷ Zero ∷ One ∷ Z ∷ W ∷ L ∷ H ∷ Dash ∷ []

abbrev pub value_at : ℤ → Logic9
value_at n = slice_index_or nine_values (unsigned_abs n) U

abbrev pub position_of : Logic9 → ℤ
position_of U = pos 0
position_of X = pos 1
position_of Zero = pos 2
position_of One = pos 3
position_of Z = pos 4
position_of W = pos 5
position_of L = pos 6
position_of H = pos 7
position_of Dash = pos 8

abbrev pub nine_valued : Logical → Logic9 → Logic9 → Logic9
nine_valued logical.And a b = and_table a b
nine_valued logical.Or a b = or_table a b
nine_valued logical.Nand a b = not_table (and_table a b)
nine_valued logical.Nor a b = not_table (or_table a b)
nine_valued logical.Xor a b = xor_table a b
nine_valued logical.Xnor a b = not_table (xor_table a b)

abbrev pub nine_valued_at : Logical → ℤ → ℤ → ℤ
nine_valued_at operator a b = position_of (nine_valued operator (value_at a) (value_at b))

abbrev pub nine_valued_not_at : ℤ → ℤ
nine_valued_not_at n = position_of (not_table (value_at n))

abbrev pub two_valued_not_at : ℤ → ℤ
two_valued_not_at n = truth (not (is_true n))

abbrev pub x01_at : ℤ → ℤ
x01_at n = position_of (x01_table (value_at n))

-- an operator on each pair of elements; operands of two lengths are Range, with the length of the right one
abbrev pub by_element : (ℤ → ℤ → ℤ) → List ℤ → List ℤ → Outcome
by_element operator as_ bs = if length as_ == length bs then Ok (map (λ pair. operator pair.0 pair.1) (zip as_ bs)) else Err (fault.Range (pos (length bs)))

-- the logical operator of a short-circuit operation
abbrev pub logical_of : ShortCircuit → Logical
logical_of short.And = logical.And
logical_of short.Or = logical.Or
logical_of short.Nand = logical.Nand
logical_of short.Nor = logical.Nor

-- what a short-circuit operation gives where its left operand decides alone
abbrev pub decided_by : ShortCircuit → Bool → Option Bool
decided_by short.And left = if left then None else Some false
decided_by short.Or left = if left then Some true else None
decided_by short.Nand left = if left then None else Some true
decided_by short.Nor left = if left then Some false else None
