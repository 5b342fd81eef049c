-- Discrete ranges (IEEE Std 1076-2008, 5.3.2.1).
use Rattle.std.specs.Prelude.{◌≡◌, Some, List, ◌∷◌}
use Rattle.vhdl_tokens.specs.declared.token.Kind.{Kind}
use Rattle.vhdl_tokens.specs.declared.token.Token.{Token}
use Rattle.vhdl_tree.specs.declared.expressions.Expr.{Expr}
use Rattle.vhdl_tree.specs.declared.expressions.Name.{Name}
use Rattle.vhdl_tree.specs.declared.expressions.Direction.{Direction}
use Rattle.vhdl_tree.specs.declared.declarations.Bounds.{Bounds}
use Rattle.vhdl_tree.specs.declared.declarations.Bounds.TheVariants as bounds
use Rattle.vhdl_tree.specs.Words.{Span, tok}
use Rattle.vhdl_tree.specs.Expressions.{Simple, NameOf, direction_of}

-- bounds ::= simple direction simple | name
pub data IsBounds : List Token → Bounds → List Token → Type 0 where
  range : {ts us vs : List Token} {a b : Expr} {k : Kind} {x : Span} {d : Direction} → Simple ts a (tok k x ∷ us) → direction_of (Some k) ≡ Some d → Simple us b vs
      → IsBounds ts (bounds.Range a d b) vs
  name : {ts us : List Token} {n : Name} → NameOf ts n us → IsBounds ts (bounds.Name n) us
