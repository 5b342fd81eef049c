-- What stands around a place of a design file.
use Rattle.std.specs.Prelude.{Bool, List, None, Option, [], false, ℕ}
use Rattle.vhdl_names_checker.specs.declared.interface.Interface.{Interface}
use Rattle.vhdl_names_scope.specs.Declarations.{Named}
use Rattle.vhdl_names_scope.specs.Nesting.{Nested, outermost}
use Rattle.vhdl_names_scope.specs.Standard.{standard}
use Rattle.vhdl_units.specs.declared.base_type.BaseType.{BaseType}
use Rattle.vhdl_units.specs.declared.entry.Entry.{Entry}

pub record Around : Type 0 where
  -- the open regions
  pub regions : Nested
  -- all types, subtypes, objects and labels so far, each at the place of its number among the design's own
  pub declarations : List Entry
  -- the entities so far by name, and the architectures by `entity.architecture`
  pub library : List Named
  -- the entities by their number
  pub interfaces : List Interface
  -- the region of each entity: it is lent to the architecture that is open
  pub bases : List (List Named)
  -- of the entity that is open
  pub interface : Interface
  -- the entity of the architecture that is open, and that architecture's name
  pub entity : Option ℕ
  pub architecture : List ℕ
  -- whether an attribute may stand here: the architecture has nothing else, and none yet
  pub is_allowed : Bool
  -- whether the process that is open has a sensitivity list
  pub is_listed : Bool
  -- the labels of the loops that are open, the innermost first
  pub loops : List (Option (List ℕ))
  -- the types that the open case statements choose by, the innermost first
  pub subjects : List (Option BaseType)

-- no generics and no ports
unfoldable pub no_interface : Interface
no_interface = record { generics = []; ports = []; formals = [] }

-- At first only what is always visible is declared.
unfoldable pub beginning : Around
beginning = record {
  regions = outermost standard;
  declarations = [];
  library = [];
  interfaces = [];
  bases = [];
  interface = no_interface;
  entity = None;
  architecture = [];
  is_allowed = false;
  is_listed = false;
  loops = [];
  subjects = [];
}
