-- A design file as the events that change what stands around a place, or are tested there, in the order of its text.
use Rattle.std.specs.Prelude.{Bool, List, Option}
use Rattle.vhdl_tokens.specs.declared.token.Token.{Token}
use Rattle.vhdl_tree.specs.declared.declarations.AttributeSpecification.{AttributeSpecification}
use Rattle.vhdl_tree.specs.declared.declarations.Subtype.{Subtype}
use Rattle.vhdl_tree.specs.declared.declarations.SubtypeDeclaration.{SubtypeDeclaration}
use Rattle.vhdl_tree.specs.declared.declarations.TypeDeclaration.{TypeDeclaration}
use Rattle.vhdl_tree.specs.declared.expressions.Choice.{Choice}
use Rattle.vhdl_tree.specs.declared.expressions.Expr.{Expr}
use Rattle.vhdl_tree.specs.declared.expressions.Name.{Name}
use Rattle.vhdl_tree.specs.declared.statements.Assertion.{Assertion}
use Rattle.vhdl_tree.specs.declared.statements.Delay.{Delay}
use Rattle.vhdl_tree.specs.declared.statements.Element.{Element}
use Rattle.vhdl_tree.specs.declared.statements.Jump.{Jump}
use Rattle.vhdl_tree.specs.declared.statements.Report.{Report}
use Rattle.vhdl_tree.specs.declared.statements.Scheme.{Scheme}
use Rattle.vhdl_tree.specs.declared.statements.Wait.{Wait}
use Rattle.vhdl_tree.specs.declared.units.Alternative.{Alternative}
use Rattle.vhdl_tree.specs.declared.units.Instantiation.{Instantiation}
use Rattle.vhdl_tree.specs.declared.units.Use.{Use}
use Rattle.vhdl_units.specs.declared.entry.Class.{Class}

pub data Event : Type 0 where
  -- context clauses
  Library : List Token → Event
  Uses : Use → Event
  -- An entity opens a region, its generics and ports are declared in it, and its end closes it.
  Entity : Token → Event
  EndEntity : Token → Option Token → Event
  -- An architecture, its entity, and whether nothing but specifications of the attribute FOREIGN stands in it. Its region goes on that of its entity.
  Architecture : Token → Token → Bool → Event
  EndArchitecture : Token → Option Token → Event
  -- declarations
  Enumeration : TypeDeclaration → Event
  Subtyped : SubtypeDeclaration → Event
  Objects : Class → List Token → Subtype → Option Expr → Event
  Attributed : AttributeSpecification → Event
  Labelled : Token → Event
  -- A process, with or without a list of what it is sensitive to. It opens a region.
  Sensitive : List Name → Event
  Process : Bool → Event
  EndProcess : Option Token → Option Token → Event
  -- statements
  Assigned : Name → Delay → List Element → List Alternative → Option Expr → Event
  AssignedVariable : Name → Expr → Event
  Waits : Wait → Event
  Asserted : Assertion → Event
  Reported : Report → Event
  Tested : Expr → Event
  EndIf : Option Token → Option Token → Event
  Chosen : Expr → Event
  -- the choices of an arm, and whether it is the last
  Arm : Bool → List Choice → Event
  EndCase : Option Token → Option Token → Event
  Looped : Option Token → Scheme → Event
  EndLoop : Scheme → Option Token → Option Token → Event
  Jumped : Jump → Event
  Instance : Instantiation → Event
