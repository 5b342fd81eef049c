-- What the expressions, names and declarations of an event tell, by what stands around it.
use Rattle.std.specs.List.{flat_map}
use Rattle.std.specs.Prelude.{Bool, List, None, Option, Some, [], false, if◌then◌else◌, map, not, true, ℕ, ◌++◌, ◌∷◌}
use Rattle.vhdl_names_checker.specs.Around.{Around}
use Rattle.vhdl_names_rules.specs.Associations.{is_generic}
use Rattle.vhdl_names_rules.specs.Subtypes.{indexed, mark_in, mark_names, ranged, unconstrained}
use Rattle.vhdl_names_rules.specs.declared.told.ActualTold.{ActualTold}
use Rattle.vhdl_names_rules.specs.declared.told.AssociationTold.{AssociationTold}
use Rattle.vhdl_names_rules.specs.declared.told.ElementTold.{ElementTold}
use Rattle.vhdl_names_rules.specs.declared.told.FormalTold.{FormalTold}
use Rattle.vhdl_names_rules.specs.declared.told.ObjectsTold.{ObjectsTold}
use Rattle.vhdl_names_rules.specs.declared.told.SubtypeTold.{SubtypeTold}
use Rattle.vhdl_names_rules.specs.declared.told.WaitTold.{WaitTold}
use Rattle.vhdl_names_scope.specs.Declarations.{Named, own}
use Rattle.vhdl_names_scope.specs.Names.{word_in}
use Rattle.vhdl_tokens.specs.declared.token.Token.{Token}
use Rattle.vhdl_tree.specs.declared.declarations.Bounds.{Bounds}
use Rattle.vhdl_tree.specs.declared.declarations.Constraint.{Constraint}
use Rattle.vhdl_tree.specs.declared.declarations.Subtype.{Subtype}
use Rattle.vhdl_tree.specs.declared.expressions.Choice.{Choice}
use Rattle.vhdl_tree.specs.declared.expressions.Expr.{Expr}
use Rattle.vhdl_tree.specs.declared.expressions.Name.{Name}
use Rattle.vhdl_tree.specs.declared.statements.Delay.{Delay}
use Rattle.vhdl_tree.specs.declared.statements.Element.{Element}
use Rattle.vhdl_tree.specs.declared.statements.Wait.{Wait}
use Rattle.vhdl_tree.specs.declared.units.Actual.{Actual}
use Rattle.vhdl_tree.specs.declared.units.Alternative.{Alternative}
use Rattle.vhdl_tree.specs.declared.units.Association.{Association}
use Rattle.vhdl_units.specs.declared.entry.Entry.{Entry}
use Rattle.vhdl_units.specs.declared.entry.Mark.{Mark}
use Rattle.vhdl_units.specs.declared.entry.Object.{Object}
use Rattle.vhdl_units.specs.declared.fault.Fault.{Fault}
use Rattle.vhdl_names_typing.specs.Scope.{look}
use Rattle.vhdl_names_typing.specs.Trees.{told, told_bounds, told_choice, told_name}
use Rattle.vhdl_names_typing.specs.declared.told.BoundsTold.{BoundsTold}
use Rattle.vhdl_names_typing.specs.declared.told.ChoiceTold.{ChoiceTold}
use Rattle.vhdl_names_typing.specs.declared.told.NameTold.{NameTold}
use Rattle.vhdl_names_typing.specs.declared.told.Told.{Told}
use Rattle.vhdl_tree.specs.declared.units.Actual.TheVariants as actual
use Rattle.vhdl_names_rules.specs.declared.told.ActualTold.TheVariants as actual_told
use Rattle.vhdl_tree.specs.declared.declarations.Constraint.TheVariants as constraint
use Rattle.vhdl_tree.specs.declared.statements.Delay.TheVariants as delay
use Rattle.vhdl_units.specs.declared.entry.Entry.TheVariants as entry
use Rattle.vhdl_names_rules.specs.declared.told.FormalTold.TheVariants as formal_told

unfoldable pub option_list : Option Told → List Told
option_list None = []
option_list (Some x) = x ∷ []

-- a generic for a generic map, a port for a port map
unfoldable pub is_formal : Bool → Object → Bool
is_formal true o = is_generic o.class
is_formal false o = not (is_generic o.class)

unfoldable pub formal_in : Bool → List Entry → Option Object
formal_in of_generics (entry.Object o ∷ entries) = if is_formal of_generics o then Some o else None
formal_in of_generics _ = None

module _ (text : List ℕ) (a : Around) where
  -- what an identifier denotes here
  unfoldable pub seen_here : Token → List Entry
  seen_here token = look text a.regions token

  unfoldable pub expression : Expr → Told
  expression e = told text seen_here e

  unfoldable pub name_here : Name → NameTold
  name_here n = told_name text seen_here n

  unfoldable pub choice_here : Choice → ChoiceTold
  choice_here c = told_choice text seen_here c

  unfoldable pub bounds_here : Bounds → BoundsTold
  bounds_here b = told_bounds text seen_here b

  unfoldable pub optional : Option Expr → Option Told
  optional None = None
  optional (Some e) = Some (expression e)

  -- ---- subtypes

  unfoldable pub constrained : ℕ → List Fault → Option Mark → Option Constraint → SubtypeTold
  constrained place names mark None = unconstrained place names mark
  constrained place names mark (Some (constraint.Range b)) = ranged place names mark (bounds_here b)
  constrained place names mark (Some (constraint.Index b)) = indexed place names mark (bounds_here b)

  unfoldable pub subtype_with : ℕ → List Entry → Option Constraint → SubtypeTold
  subtype_with place entries c = constrained place (mark_names place entries) (mark_in entries) c

  unfoldable pub subtype_here : Subtype → SubtypeTold
  subtype_here s = subtype_with s.mark.start (seen_here s.mark) s.constraint

  unfoldable pub objects_here : Subtype → Option Expr → ObjectsTold
  objects_here s initial = record { subtype = subtype_here s; initial = optional initial }

  -- ---- statements

  unfoldable pub element_here : Element → ElementTold
  element_here e = record { value = expression e.value; after = optional e.after }

  unfoldable pub alternative_elements : Alternative → List ElementTold
  alternative_elements x = map element_here x.otherwise

  unfoldable pub waveforms : List Element → List Alternative → List ElementTold
  waveforms waveform alternatives = map element_here waveform ++ flat_map alternative_elements alternatives

  unfoldable pub alternative_condition : Alternative → Told
  alternative_condition x = expression x.condition

  unfoldable pub conditions : List Alternative → Option Expr → List Told
  conditions alternatives condition = map alternative_condition alternatives ++ option_list (optional condition)

  unfoldable pub reject : Delay → Option Told
  reject (delay.Reject e) = Some (expression e)
  reject _ = None

  unfoldable pub wait_here : Wait → WaitTold
  wait_here w = record { place = w.word.start; on = map name_here w.on; until = optional w.until; time = optional w.time }

  -- ---- instances

  unfoldable pub formal_here : Bool → List Named → Option Token → FormalTold
  formal_here of_generics formals None = formal_told.Positional
  formal_here of_generics formals (Some token) = formal_told.Named token.start (formal_in of_generics (own (word_in text token) formals))

  unfoldable pub actual_here : Actual → ActualTold
  actual_here (actual.Expr e) = actual_told.Value (expression e)
  actual_here (actual.Open token) = actual_told.Open token.start

  unfoldable pub association_here : Bool → List Named → Association → AssociationTold
  association_here of_generics formals x = record { formal = formal_here of_generics formals x.formal; actual = actual_here x.actual }

  unfoldable pub associations_here : Bool → List Named → List Association → List AssociationTold
  associations_here of_generics formals associations = map (association_here of_generics formals) associations
