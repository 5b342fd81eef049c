-- The open regions (IEEE Std 1076-2008, 12.1 and 12.5).
use Rattle.std.specs.Prelude.{ℕ, Bool, List, [], ◌∷◌, ◌++◌, map, drop}
use Rattle.std.specs.List.{list_any, flat_map}
use Rattle.vhdl_units.specs.declared.entry.Entry.{Entry}
use Rattle.vhdl_names_scope.specs.declared.further.Further.{Further}
use Rattle.vhdl_names_overloads.specs.Literals.{is_other}
use Rattle.vhdl_names_scope.specs.Declarations.{Named, own}
use Rattle.vhdl_names_scope.specs.Hiding.{seen}

-- an entity and its architecture are one region
abbrev pub whole : Further → List Named
whole region = region.base ++ region.more

-- An open region, and the `for` loops that are open in it, the innermost first. A loop's region holds its
-- parameter alone.
pub record OpenRegion : Type 0 where
  pub region : Further
  pub loops : List Named

-- the open regions, the innermost first, loops' regions apart
pub record Nested : Type 0 where
  pub inner : OpenRegion
  pub outer : List OpenRegion

-- a region that goes on another begins
abbrev pub beginning : List Named → OpenRegion
beginning base = record { region = record { base = base; more = [] }; loops = [] }

-- at first one region is open
abbrev pub outermost : List Named → Nested
outermost base = record { inner = beginning base; outer = [] }

-- a region is opened
abbrev pub opened : List Named → Nested → Nested
opened base n = record { inner = beginning base; outer = n.inner ∷ n.outer }

-- where the outermost region is closed, one of no declarations follows
abbrev pub closed_to : List OpenRegion → Nested
closed_to [] = outermost []
closed_to (next ∷ outer) = record { inner = next; outer = outer }

-- the innermost region is closed
abbrev pub closed : Nested → Nested
closed n = closed_to n.outer

-- a declaration goes to the innermost region that is no loop's
abbrev pub declared_in : Named → OpenRegion → OpenRegion
declared_in d o = record o { region = record (o.region) { more = o.region.more ++ d ∷ [] } }

abbrev pub declared : Named → Nested → Nested
declared d n = record n { inner = declared_in d n.inner }

-- a loop's region is opened, with its parameter
abbrev pub loop_opened_in : Named → OpenRegion → OpenRegion
loop_opened_in d o = record o { loops = d ∷ o.loops }

abbrev pub loop_opened : Named → Nested → Nested
loop_opened d n = record n { inner = loop_opened_in d n.inner }

-- the innermost loop's region is closed
abbrev pub loop_closed_in : OpenRegion → OpenRegion
loop_closed_in o = record o { loops = drop 1 o.loops }

abbrev pub loop_closed : Nested → Nested
loop_closed n = record n { inner = loop_closed_in n.inner }

-- the region of one declaration
abbrev pub single : Named → List Named
single d = d ∷ []

-- the declarations of each open region, the innermost first
abbrev pub regions_in : OpenRegion → List (List Named)
regions_in o = map single o.loops ++ whole o.region ∷ []

abbrev pub regions : Nested → List (List Named)
regions n = flat_map regions_in (n.inner ∷ n.outer)

-- what a name denotes
abbrev pub meanings : Nested → List ℕ → List Entry
meanings n name = seen name (regions n) []

-- whether the innermost region that is no loop's has a declaration of a name that is no literal
abbrev pub declares_other : Nested → List ℕ → Bool
declares_other n name = list_any is_other (own name (whole n.inner.region))
