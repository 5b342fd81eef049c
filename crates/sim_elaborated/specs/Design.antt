-- What holds of every elaborated design.
use Rattle.std.specs.Prelude.{ℕ, suc, ◌+◌, ◌<◌, ◌≤◌, ◌≡◌, Bool, true, false, ◌&&◌, ◌||◌, nat_lt, nat_le, nat_eq, List, [], ◌∷◌, ◌++◌, map, length, replicate, count_by, sum_by, Option, Some, None, is_none, option_and_then, slice_get, IsTrue, All, IfSome, if◌then◌else◌}
use Rattle.std.specs.List.{list_all, list_any, flat_map}
use Rattle.std.specs.Option.{option_map_or}
use Rattle.vhpi_values.specs.Types.{element_count}
use Rattle.sim_elaborated.specs.declared.regions.Region.{Region}
use Rattle.sim_elaborated.specs.declared.regions.DesignUnit.{DesignUnit}
use Rattle.sim_elaborated.specs.declared.regions.DesignUnit.TheVariants as unit
use Rattle.sim_elaborated.specs.declared.regions.NamedMember.{NamedMember}
use Rattle.sim_elaborated.specs.declared.design.Design.{Design}
use Rattle.sim_elaborated.specs.declared.design.Instance.{Instance}
use Rattle.sim_elaborated.specs.declared.design.Process.{Process}
use Rattle.sim_elaborated.specs.declared.design.DriverSpecification.{DriverSpecification}
use Rattle.sim_elaborated.specs.declared.design.ForeignBinding.{ForeignBinding}
use Rattle.sim_elaborated.specs.declared.objects.Net.{Net}
use Rattle.sim_elaborated.specs.declared.objects.PortEdge.{PortEdge}
use Rattle.sim_elaborated.specs.Places.{tile, owners_from, firsts_from, ascends, spans_rise_from, elements_of_net, elements_at, element_total, IsOf}
use Rattle.sim_elaborated.specs.Kinds.{is_port, drives}
use Rattle.sim_elaborated.specs.Names.{lower}

-- the fact holds of each member and its number
abbrev pub Each : {X : Type 0} → List X → (ℕ → X → Type 0) → Type 0
Each xs P = (number : ℕ) → IfSome (slice_get xs number) (P number)

-- The tree of instances.

-- the instance stands in this one
abbrev pub stands_in : ℕ → Instance → Bool
stands_in parent i = option_map_or (nat_eq parent) i.parent false

-- the numbers of the instances that stand in this one, in order, if the first of the list has the number n
abbrev pub children_from : ℕ → ℕ → List Instance → List ℕ
children_from parent n [] = []
children_from parent n (i ∷ is) = if stands_in parent i then n ∷ children_from parent (suc n) is else children_from parent (suc n) is

abbrev pub children_of : Design → ℕ → List ℕ
children_of d i = children_from i 0 d.instances

-- an instance and those around it, from the inside, after an instance that stands in `parent`; none where `parent` isn't among those that are open
abbrev pub opened : ℕ → ℕ → List ℕ → Option (List ℕ)
opened n parent [] = None
opened n parent (i ∷ around) = if nat_eq i parent then Some (n ∷ i ∷ around) else opened n parent around

-- each instance stands in the one before it or in one around that: the text is walked from the outside to the inside
abbrev pub is_preorder_from : ℕ → List ℕ → List Instance → Bool
is_preorder_from n around [] = true
is_preorder_from n around (i ∷ is) = option_map_or (λ now_around. is_preorder_from (suc n) now_around is) (option_and_then (λ parent. opened n parent around) i.parent) false

-- there is a root, which alone stands in no instance, and the others follow it in preorder
abbrev pub is_tree : List Instance → Bool
is_tree [] = false
is_tree (root ∷ is) = is_none root.parent && is_preorder_from 1 (0 ∷ []) is

-- Nets.

-- whether each net of an instance is a port: the ports stand first
abbrev pub ports_first : Instance → List Bool
ports_first i = replicate i.ports.count true ++ replicate i.signals.count false

-- a port is connected to elements of a net that was met before it, in the instance above
pub record IsEdge (d : Design) (number : ℕ) (net : Net) (edge : PortEdge) : Type 0 where
  pub port : is_port net.kind ≡ true
  pub before : edge.net < number
  pub above : IfSome (slice_get d.nets edge.net) (λ actual. IfSome (slice_get d.instances net.instance) (λ i. IsTrue (stands_in actual.instance i)))
  pub inside : edge.place + elements_of_net d net ≤ elements_at d edge.net

-- Sources.

-- the driver covers an element of a net
abbrev pub covers : ℕ → ℕ → DriverSpecification → Bool
covers net place driver = nat_eq driver.net net && list_any (nat_eq place) driver.places

-- the port is a source of an element of a net
abbrev pub joins : Design → ℕ → ℕ → Net → Bool
joins d net place port = drives port.kind && option_map_or (λ edge. nat_eq edge.net net && nat_le edge.place place && nat_lt place (edge.place + elements_of_net d port)) port.edge false

-- how many sources an element has: drivers and ports
abbrev pub source_count : Design → ℕ → ℕ → ℕ
source_count d net place = count_by (covers net place) d.drivers + count_by (joins d net place) d.nets

abbrev pub is_resolved : Design → Net → Bool
is_resolved d net = option_map_or (λ ty. ty.is_resolved) (slice_get d.types net.ty) false

-- an unresolved element has at most one source (14.7.3.2)
abbrev pub HasOwnSource : Design → ℕ → Net → Type 0
HasOwnSource d number net = is_resolved d net ≡ false → (place : ℕ) → place < elements_of_net d net → source_count d number place ≤ 1

-- Processes and drivers.

-- a process has a body, and knows for each of its waits to which elements it is sensitive
pub record IsProcess (d : Design) (process : Process) : Type 0 where
  pub body : process.body < length d.bodies
  pub waits : IfSome (slice_get d.bodies process.body) (λ body. length process.sensitivity ≡ length body.waits)
  pub elements : All (λ spans. IsTrue (spans_rise_from 0 spans (element_total d))) process.sensitivity

-- a driver covers some elements of a net of the instance in which its process stands
pub record IsDriver (d : Design) (driver : DriverSpecification) : Type 0 where
  pub net : driver.net < length d.nets
  pub some : 0 < length driver.places
  pub rising : IsTrue (ascends driver.places)
  pub inside : All (λ place. place < elements_at d driver.net) driver.places
  pub instance : IfSome (slice_get d.processes driver.process) (λ process. IfSome (slice_get d.nets driver.net) (λ net. net.instance ≡ process.instance))

-- drivers are numbered by process and then by net
abbrev pub is_before : DriverSpecification → DriverSpecification → Bool
is_before a b = nat_lt a.process b.process || (nat_eq a.process b.process && nat_lt a.net b.net)

abbrev pub are_in_order : List DriverSpecification → Bool
are_in_order (a ∷ b ∷ rest) = is_before a b && are_in_order (b ∷ rest)
are_in_order _ = true

-- What instances share.

abbrev pub is_entity : DesignUnit → Bool
is_entity (unit.Entity spelling line) = true
is_entity _ = false

-- the unit is an architecture of this entity
abbrev pub is_architecture_of : ℕ → DesignUnit → Bool
is_architecture_of entity (unit.Architecture spelling line of foreign) = nat_eq of entity
is_architecture_of entity _ = false

abbrev pub is_region : Design → Region → Bool
is_region d region = option_map_or is_entity (slice_get d.units region.entity) false && option_map_or (is_architecture_of region.entity) (slice_get d.units region.architecture) false

abbrev pub is_binding : Design → ForeignBinding → Bool
is_binding d binding = nat_lt binding.instance (length d.instances) && nat_lt binding.model (length d.models)

-- the spellings that units, instances, bodies and objects refer to
abbrev pub unit_spelling : DesignUnit → ℕ
unit_spelling (unit.Entity spelling line) = spelling
unit_spelling (unit.Architecture spelling line of foreign) = spelling

abbrev pub spellings_used : Design → List ℕ
spellings_used d =
    map unit_spelling d.units ++ map (λ b. b.spelling) d.bodies ++ map (λ i. i.spelling) d.instances ++ map (λ g. g.spelling) d.generics
    ++ map (λ n. n.spelling) d.nets ++ map (λ v. v.spelling) d.variables ++ flat_map (λ r. map (λ m. m.spelling) r.names) d.regions

-- a text doesn't come after another one in the order of bytes
abbrev pub is_at_most : List ℕ → List ℕ → Bool
is_at_most [] _ = true
is_at_most (a ∷ more) [] = false
is_at_most (a ∷ more) (b ∷ others) = nat_lt a b || (nat_eq a b && is_at_most more others)

-- names stand in the order of their bytes
abbrev pub names_ascend : Design → List NamedMember → Bool
names_ascend d (a ∷ b ∷ rest) = is_at_most (lower d a.spelling) (lower d b.spelling) && names_ascend d (b ∷ rest)
names_ascend d _ = true

-- The whole design.
pub record IsSound (d : Design) : Type 0 where
  -- instances stand in preorder behind a root, and each knows its children
  pub tree : IsTrue (is_tree d.instances)
  pub children : Each d.instances (λ number i. i.children ≡ children_of d number)
  -- the objects and processes of an instance, the variables and drivers of a process are numbered one after the other
  pub generics : IsTrue (tile 0 (map (λ i. i.generics) d.instances) (length d.generics))
  pub constants : IsTrue (tile 0 (map (λ i. i.constants) d.instances) (length d.constants))
  pub nets : IsTrue (tile 0 (flat_map (λ i. i.ports ∷ i.signals ∷ []) d.instances) (length d.nets))
  pub processes : IsTrue (tile 0 (map (λ i. i.processes) d.instances) (length d.processes))
  pub variables : IsTrue (tile 0 (map (λ p. p.variables) d.processes) (length d.variables))
  pub drivers : IsTrue (tile 0 (map (λ p. p.drivers) d.processes) (length d.drivers))
  -- and each knows to whom it belongs
  pub generic_owners : map (λ g. g.instance) d.generics ≡ owners_from 0 (map (λ i. i.generics) d.instances)
  pub net_owners : map (λ n. n.instance) d.nets ≡ owners_from 0 (map (λ i. record { first = i.ports.first; count = i.ports.count + i.signals.count }) d.instances)
  pub process_owners : map (λ p. p.instance) d.processes ≡ owners_from 0 (map (λ i. i.processes) d.instances)
  pub variable_owners : map (λ v. v.process) d.variables ≡ owners_from 0 (map (λ p. p.variables) d.processes)
  pub driver_owners : map (λ s. s.process) d.drivers ≡ owners_from 0 (map (λ p. p.drivers) d.processes)
  -- each object holds a value of its type
  pub generic_values : All (λ g. IsOf d g.ty g.value) d.generics
  pub constant_values : All (λ c. IsOf d c.ty c.value) d.constants
  pub defaults : All (λ n. IsOf d n.ty n.default) d.nets
  pub initial_values : All (λ v. IsOf d v.ty v.initial) d.variables
  -- the elements of nets, and of drivers, are numbered one after the other
  pub net_elements : map (λ n. n.first_element) d.nets ≡ firsts_from 0 (map (elements_of_net d) d.nets)
  pub driver_elements : map (λ s. s.first_element) d.drivers ≡ firsts_from 0 (map (λ s. length s.places) d.drivers)
  -- ports are ports, and are connected upwards
  pub kinds : map (λ n. is_port n.kind) d.nets ≡ flat_map ports_first d.instances
  pub edges : Each d.nets (λ number n. IfSome n.edge (IsEdge d number n))
  -- processes, drivers and sources
  pub process_places : All (IsProcess d) d.processes
  pub driver_places : All (IsDriver d) d.drivers
  pub driver_order : IsTrue (are_in_order d.drivers)
  pub sources : Each d.nets (HasOwnSource d)
  -- spellings, units, regions and foreign instances
  pub spellings : IsTrue (list_all (λ s. nat_lt s (length d.spellings)) (spellings_used d))
  pub names : All (λ r. IsTrue (names_ascend d r.names)) d.regions
  pub regions : IsTrue (list_all (is_region d) d.regions)
  pub instance_regions : All (λ i. i.region < length d.regions) d.instances
  pub bindings : IsTrue (list_all (is_binding d) d.bindings)
  pub binding_order : IsTrue (ascends (map (λ b. b.instance) d.bindings))

-- the numbers of a design that elaboration accepts: each fits 32 bits
pub record IsWithinLimits (d : Design) : Type 0 where
  pub instances : length d.instances ≤ 4096
  pub nets : length d.nets ≤ 65536
  pub elements : element_total d ≤ 1048576
  pub processes : length d.processes ≤ 16384
  pub drivers : length d.drivers ≤ 65536
  pub driver_elements : sum_by (λ s. length s.places) d.drivers ≤ 1048576
  pub vectors : All (λ ty. element_count ty ≤ 4096) d.types
  pub objects : sum_by (λ g. length g.value) d.generics + sum_by (λ c. length c.value) d.constants + sum_by (λ v. length v.initial) d.variables ≤ 1048576
