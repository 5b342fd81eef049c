-- The laws of the readers that the crates above call: a bound on turns and depth suffices for fewer tokens than it says.
use Rattle.std.proofs.Common.{ℕ, Bool, true, false, arith}
use Rattle.vhdl_tokens.specs.declared.token.Token.{Token}
use Rattle.vhdl_tree.specs.declared.expressions.Expr.{Expr, out-Expr}
use Rattle.vhdl_tree.specs.declared.expressions.Choice.TheOpen.{Expr-F}
use Rattle.vhdl_tree.specs.Expressions.{direction_of}
use Rattle.vhdl_reader_expressions.proofs.Local.{Law, bind_law, choose_law, pure_law, stop_law, look_law}
use Rattle.vhdl_reader_expressions.specs.Reading as spec
use Rattle.vhdl_reader_expressions.specs.Reading.{simple_at, expression_within, choices_within, name_from_within, name_within, bounds_within, bounds, bounds_after, bounds_by, bounds_alone, Layer}
use Rattle.vhdl_reader_expressions.proofs.Laws as laws

pub expression_bounded : (bound : ℕ) → Law bound (expression_within bound)
unfolding expression_within
expression_bounded bound = laws.expression_law bound bound (omega arith) (simple_at bound bound) (laws.simple_law bound bound (omega arith))

pub choices_bounded : (bound : ℕ) → Law bound (choices_within bound)
unfolding choices_within
choices_bounded bound = laws.choices_law bound bound (omega arith) (simple_at bound bound) (laws.simple_law bound bound (omega arith))

pub name_from_bounded : (bound : ℕ) (identifier : Token) → Law bound (name_from_within bound identifier)
unfolding name_from_within
name_from_bounded bound identifier = laws.name_from_law bound bound (omega arith) (simple_at bound bound) (laws.simple_law bound bound (omega arith)) identifier

pub name_bounded : (bound : ℕ) → Law bound (name_within bound)
unfolding name_within
name_bounded bound = laws.name_law bound bound (omega arith) (simple_at bound bound) (laws.simple_law bound bound (omega arith))

layer_law : {n : ℕ} (layer : Layer) → Law n (spec.bounds_of layer)
layer_law (Expr-F.Name m) = pure_law
layer_law _ = stop_law

bounds_by_law : {n : ℕ} (named : Bool) (left : Expr) → Law n (bounds_by named left)
unfolding bounds_by bounds_alone
bounds_by_law true left = layer_law (out-Expr left)
bounds_by_law false left = stop_law

pub bounds_bounded : (bound : ℕ) → Law bound (bounds_within bound)
unfolding bounds_within bounds bounds_after
bounds_bounded bound = look_law spec.begins_name (spec.bounds_start bound (simple_at bound bound)) (λ named. bind_law (laws.simple_law bound bound (omega arith)) (λ left.
    choose_law direction_of (λ d. bind_law (laws.simple_law bound bound (omega arith)) (λ right. pure_law)) (bounds_by_law named left)))
