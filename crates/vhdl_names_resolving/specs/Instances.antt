-- What instances mean (IEEE Std 1076-2008, clauses 6.5.7 and 11.7).
use Rattle.std.specs.Prelude.{Bool, List, None, Option, Some, [], false, slice_get, true, ℕ, ◌+◌, ◌∷◌}
use Rattle.vhdl_names_checker.specs.Around.{Around, no_interface}
use Rattle.vhdl_names_checker.specs.Faults.{entity_for, interface_at}
use Rattle.vhdl_names_checker.specs.Telling.{formal_in}
use Rattle.vhdl_names_checker.specs.declared.interface.Interface.{Interface}
use Rattle.vhdl_names_resolving.specs.Values.{value_at}
use Rattle.vhdl_names_scope.specs.Declarations.{Named, own}
use Rattle.vhdl_names_scope.specs.Names.{word_in}
use Rattle.vhdl_tokens.specs.declared.token.Token.{Token}
use Rattle.vhdl_tree.specs.declared.units.Actual.{Actual}
use Rattle.vhdl_tree.specs.declared.units.Association.{Association}
use Rattle.vhdl_tree.specs.declared.units.Instantiation.{Instantiation}
use Rattle.vhdl_units.specs.declared.base_type.BaseType.{BaseType}
use Rattle.vhdl_units.specs.declared.entry.Object.{Object}
use Rattle.vhdl_units.specs.declared.units.ResolvedActual.{ResolvedActual}
use Rattle.vhdl_units.specs.declared.units.ResolvedAssociation.{ResolvedAssociation}
use Rattle.vhdl_units.specs.declared.units.ResolvedInstance.{ResolvedInstance}
use Rattle.vhdl_tree.specs.declared.units.Actual.TheVariants as actual
use Rattle.vhdl_units.specs.declared.base_type.BaseType.TheVariants as base
use Rattle.vhdl_units.specs.declared.units.ResolvedActual.TheVariants as resolved_actual

-- the interface of an entity that stands before
unfoldable pub interface_of : List Interface → Option ℕ → Interface
interface_of interfaces (Some n) = interface_at interfaces n
interface_of interfaces None = no_interface

-- the formal of an association: the one that it names, or the one at its position
unfoldable pub formal_of : List ℕ → Bool → List Named → List Object → ℕ → Option Token → Option Object
formal_of text of_generics formals objects position None = slice_get objects position
formal_of text of_generics formals objects position (Some token) = formal_in of_generics (own (word_in text token) formals)

unfoldable pub formal_type : Option Object → BaseType
formal_type (Some o) = o.base
formal_type None = base.Integer

unfoldable pub architecture_word : List ℕ → Option Token → Option (List ℕ)
architecture_word text None = None
architecture_word text (Some token) = Some (word_in text token)

module _ (text : List ℕ) (a : Around) where
  unfoldable pub actual_resolved : BaseType → Actual → ResolvedActual
  actual_resolved t (actual.Expr e) = resolved_actual.Value (value_at text a t e)
  actual_resolved t (actual.Open token) = resolved_actual.Open

  unfoldable pub association_to : Option Object → Actual → ResolvedAssociation
  association_to formal x = record { formal = formal; actual = actual_resolved (formal_type formal) x }

  unfoldable pub association_resolved : Bool → List Named → List Object → ℕ → Association → ResolvedAssociation
  association_resolved of_generics formals objects position x = association_to (formal_of text of_generics formals objects position x.formal) x.actual

  unfoldable pub associations_from : Bool → List Named → List Object → ℕ → List Association → List ResolvedAssociation
  associations_from of_generics formals objects position [] = []
  associations_from of_generics formals objects position (x ∷ xs) =
      association_resolved of_generics formals objects position x ∷ associations_from of_generics formals objects (position + 1) xs

  unfoldable pub instance_to : Option ℕ → Interface → Instantiation → ResolvedInstance
  instance_to number interface i = record {
    entity = number;
    architecture = architecture_word text i.architecture;
    generics = associations_from true interface.formals interface.generics 0 i.generics;
    ports = associations_from false interface.formals interface.ports 0 i.ports;
  }

  unfoldable pub instance_by : Option ℕ → Instantiation → ResolvedInstance
  instance_by number i = instance_to number (interface_of a.interfaces number) i

  unfoldable pub instance_resolved : Instantiation → ResolvedInstance
  instance_resolved i = instance_by (entity_for text i a) i
