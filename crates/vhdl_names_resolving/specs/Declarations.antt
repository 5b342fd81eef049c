-- What declarations mean (IEEE Std 1076-2008, clauses 5 and 6).
use Rattle.std.specs.Prelude.{List, None, Option, Some, [], map, ℕ, ◌+◌, ◌∷◌}
use Rattle.vhdl_names_checker.specs.Around.{Around}
use Rattle.vhdl_names_checker.specs.Declaring.{next_number, type_or}
use Rattle.vhdl_names_checker.specs.Telling.{seen_here}
use Rattle.vhdl_names_meaning.specs.Ranges.{range_at}
use Rattle.vhdl_names_resolving.specs.Values.{optional_at, range_here, value_at}
use Rattle.vhdl_names_rules.specs.Subtypes.{mark_in, with_index}
use Rattle.vhdl_tokens.specs.Meaning.{span}
use Rattle.vhdl_tokens.specs.declared.token.Token.{Token}
use Rattle.vhdl_tree.specs.declared.declarations.AttributeSpecification.{AttributeSpecification}
use Rattle.vhdl_tree.specs.declared.declarations.Constraint.{Constraint}
use Rattle.vhdl_tree.specs.declared.declarations.Subtype.{Subtype}
use Rattle.vhdl_tree.specs.declared.declarations.SubtypeDeclaration.{SubtypeDeclaration}
use Rattle.vhdl_tree.specs.declared.declarations.TypeDeclaration.{TypeDeclaration}
use Rattle.vhdl_tree.specs.declared.expressions.Expr.{Expr}
use Rattle.vhdl_units.specs.declared.base_type.BaseType.{BaseType}
use Rattle.vhdl_units.specs.declared.entry.Class.{Class}
use Rattle.vhdl_units.specs.declared.entry.Mark.{Mark}
use Rattle.vhdl_units.specs.declared.declarations.Declared.{Declared}
use Rattle.vhdl_units.specs.declared.declarations.ResolvedConstraint.{ResolvedConstraint}
use Rattle.vhdl_units.specs.declared.declarations.ResolvedDeclaration.{ResolvedDeclaration}
use Rattle.vhdl_units.specs.declared.declarations.ResolvedObjects.{ResolvedObjects}
use Rattle.vhdl_units.specs.declared.declarations.ResolvedSubtype.{ResolvedSubtype}
use Rattle.vhdl_units.specs.declared.declarations.ResolvedType.{ResolvedType}
use Rattle.vhdl_units.specs.declared.base_type.BaseType.TheVariants as base
use Rattle.vhdl_tree.specs.declared.declarations.Constraint.TheVariants as constraint
use Rattle.vhdl_units.specs.declared.declarations.ResolvedConstraint.TheVariants as resolved_constraint
use Rattle.vhdl_units.specs.declared.declarations.ResolvedDeclaration.TheVariants as resolved

-- ---- names

unfoldable pub declared : List ℕ → ℕ → Token → Declared
declared text number token = record { number = number; name = span text token; line = token.line }

-- one number after the other
unfoldable pub all_declared : List ℕ → ℕ → List Token → List Declared
all_declared text number [] = []
all_declared text number (token ∷ tokens) = declared text number token ∷ all_declared text (number + 1) tokens

-- ---- bounds

-- with bounds an array type is one that has bounds
unfoldable pub narrowed : Option Mark → Option Constraint → Option Mark
narrowed mark None = mark
narrowed mark (Some (constraint.Range b)) = mark
narrowed mark (Some (constraint.Index b)) = with_index mark

module _ (text : List ℕ) (a : Around) where
  -- the label of a statement
  unfoldable pub label_here : Option Token → Option Declared
  label_here None = None
  label_here (Some token) = Some (declared text (next_number a) token)

  -- ---- subtypes

  -- the bounds of a scalar are of its type, those of an array of INTEGER
  unfoldable pub constraint_here : BaseType → Option Constraint → Option ResolvedConstraint
  constraint_here t None = None
  constraint_here t (Some (constraint.Range b)) = Some (resolved_constraint.Range (range_at t (range_here text a b)))
  constraint_here t (Some (constraint.Index b)) = Some (resolved_constraint.Index (range_at base.Integer (range_here text a b)))

  unfoldable pub subtype_of : Option Mark → Option Constraint → ResolvedSubtype
  subtype_of mark c = record { mark = narrowed mark c; constraint = constraint_here (type_or mark) c }

  unfoldable pub subtype_resolved : Subtype → ResolvedSubtype
  subtype_resolved s = subtype_of (mark_in (seen_here text a s.mark)) s.constraint

  -- ---- declarations

  unfoldable pub objects_of : Class → List Token → ResolvedSubtype → Option Expr → ResolvedObjects
  objects_of c names s initial = record {
    class = c;
    declared = all_declared text (next_number a) names;
    subtype = s;
    base = type_or s.mark;
    initial = optional_at text a (type_or s.mark) initial;
  }

  unfoldable pub objects_resolved : Class → List Token → Subtype → Option Expr → ResolvedObjects
  objects_resolved c names s initial = objects_of c names (subtype_resolved s) initial

  unfoldable pub type_resolved : TypeDeclaration → ResolvedType
  type_resolved d = record { declared = declared text (next_number a) d.name; literals = map (span text) d.literals }

  unfoldable pub enumeration_resolved : TypeDeclaration → ResolvedDeclaration
  enumeration_resolved d = resolved.Type (type_resolved d)

  unfoldable pub subtyped_resolved : SubtypeDeclaration → ResolvedDeclaration
  subtyped_resolved d = resolved.Subtype (declared text (next_number a) d.name) (subtype_resolved d.subtype)

  unfoldable pub attribute_resolved : AttributeSpecification → ResolvedDeclaration
  attribute_resolved s = resolved.Foreign (value_at text a base.String s.value)
