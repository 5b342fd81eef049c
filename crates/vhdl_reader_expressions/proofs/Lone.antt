-- What a bracket is, by the number of its elements.
use Rattle.std.proofs.Common.{arith, ◌≡◌, ℕ, List, [], ◌∷◌, length, refl}
use Rattle.vhdl_tree.specs.declared.expressions.Expr.{Expr}
use Rattle.vhdl_tree.specs.declared.expressions.Expr.TheVariants as expr
use Rattle.vhdl_tree.specs.declared.expressions.Item.{Item}
use Rattle.vhdl_tree.specs.declared.expressions.Choice.{Choice}
use Rattle.vhdl_tree.specs.Expressions.{lone, bracketed}

pub lone_value : (place : ℕ) (i : Item) (choices : List Choice) (value : Expr) → choices ≡ [] → value ≡ lone place i choices value
lone_value place i [] value e = refl
lone_value place i (c ∷ choices) value e = grind (arith, e)

pub lone_aggregate : (place : ℕ) (i : Item) (choices : List Choice) (value : Expr) → (choices ≡ [] → ⊥) → expr.Aggregate place (i ∷ []) ≡ lone place i choices value
lone_aggregate place i [] value e = absurd (e refl)
lone_aggregate place i (c ∷ choices) value e = refl

pub several : (place : ℕ) (items : List Item) → (length items ≡ 1 → ⊥) → expr.Aggregate place items ≡ bracketed place items
unfolding bracketed
several place [] e = refl
several place (i ∷ []) e = absurd (e refl)
several place (i ∷ j ∷ items) e = refl
