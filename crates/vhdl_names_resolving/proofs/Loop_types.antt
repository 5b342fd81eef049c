-- The type of a loop's parameter, where the bounds of its range are enumeration literals.
use Rattle.std.proofs.Common.{◌≡◌, ℕ, List, Option, Some, sym, ap, ◌∙◌}
use Rattle.vhdl_tree.specs.declared.declarations.Bounds.{Bounds}
use Rattle.vhdl_tree.specs.declared.declarations.Bounds.TheVariants as bounds
use Rattle.vhdl_units.specs.declared.base_type.BaseType.{BaseType}
use Rattle.vhdl_names_operators.specs.Places.{common_discrete}
use Rattle.vhdl_names_typing.specs.Named.{literal_names, types_of}
use Rattle.vhdl_names_typing.proofs.Literal_types.{AreLiterals, bounds_are_literals}
use Rattle.vhdl_names_typing.specs.Scope.{look}
use Rattle.vhdl_names_meaning.specs.Ranges.{common_type}
use Rattle.vhdl_names_meaning.specs.Trees.{candidate}
use Rattle.vhdl_names_meaning.specs.declared.candidates.Candidate.{out-Candidate}
use Rattle.vhdl_names_meaning.proofs.Literal_candidates.{literal_candidate_types}
use Rattle.vhdl_names_checker.specs.Around.{Around}
use Rattle.vhdl_names_checker.specs.Telling.{seen_here}
use Rattle.vhdl_names_resolving.specs.Values.{range_here}

types_are : (text : List ℕ) (a : Around) (b : Bounds) (left right : List ℕ) (base : Option BaseType) → AreLiterals text a.regions b left right
    → base ≡ common_discrete (types_of a.regions left) (types_of a.regions right) → base ≡ common_type (range_here text a b)
unfolding common_type range_here seen_here
types_are text a (bounds.Range low direction high) left right base are h =
    h ∙ ap (λ types. common_discrete types (types_of a.regions right)) (sym (literal_candidate_types text a.regions low left are.0))
    ∙ ap (common_discrete (out-Candidate (candidate text (look text a.regions) low)).types) (sym (literal_candidate_types text a.regions high right are.1))
types_are text a (bounds.Name n) left right base are h = absurd are

pub literal_common_type : (text : List ℕ) (a : Around) (b : Bounds) (left right : List ℕ) (base : Option BaseType) → literal_names text a.regions b ≡ Some (left, right)
    → base ≡ common_discrete (types_of a.regions left) (types_of a.regions right) → base ≡ common_type (range_here text a b)
literal_common_type text a b left right base named h = types_are text a b left right base (bounds_are_literals text a.regions b left right named) h
