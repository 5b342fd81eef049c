-- The equations of an update, element by element (14.7.3).
use Rattle.std.specs.Prelude.{ℕ, ◌≡◌, ◌<◌, ℤ, pos, Bool, false, not, ◌||◌, List, [], ◌++◌, map, length, Option, Some, None, is_some, option_map, unwrap_or, slice_index_or, All, IfSome, if◌then◌else◌}
use Rattle.std.specs.List.{list_any}
use Rattle.std.specs.Ordering.{int_eq}
use Rattle.sim_nets.specs.Resolving.{value_of}
use Rattle.sim_nets.specs.declared.element.Element.{Element}
use Rattle.sim_nets.specs.declared.element.Cell.{Cell}
use Rattle.sim_nets.specs.declared.element.Falling.{Falling}
use Rattle.sim_nets.specs.declared.element.Deposit.{Deposit}
use Rattle.sim_nets.specs.declared.element.PutMode.{PutMode}
use Rattle.sim_nets.specs.declared.element.PutMode.TheVariants as mode

-- the value of a deposit of each mode
abbrev pub plain_in : PutMode → ℤ → Option ℤ
plain_in mode.Deposit value = Some value
plain_in mode.DepositPropagate value = None

abbrev pub propagating_in : PutMode → ℤ → Option ℤ
propagating_in mode.Deposit value = None
propagating_in mode.DepositPropagate value = Some value

abbrev pub plain_of : Option Deposit → Option ℤ
plain_of None = None
plain_of (Some deposit) = plain_in deposit.mode deposit.value

abbrev pub propagating_of : Option Deposit → Option ℤ
propagating_of None = None
propagating_of (Some deposit) = propagating_in deposit.mode deposit.value

-- the first value that there is
abbrev pub or_else : Option ℤ → Option ℤ → Option ℤ
or_else None other = other
or_else (Some x) other = Some x

-- an element is active by its sources or by a propagating deposit
abbrev pub act_of : Bool → Option Deposit → Bool
act_of sourced deposit = sourced || is_some (propagating_of deposit)

-- a propagating deposit overrides the sources up to the next time that one of them is active
abbrev pub override_of : Option Deposit → Bool → Option ℤ → Option ℤ
override_of deposit sourced old = or_else (propagating_of deposit) (if sourced then None else old)

-- the driving value
abbrev pub driving_of : Option ℤ → ℤ → ℤ
driving_of override of_sources = unwrap_or override of_sources

-- the effective value: that of the actual of a port that takes its value, else the driving value
abbrev pub effective_of : Option ℤ → ℤ → ℤ
effective_of above driving = unwrap_or above driving

abbrev pub updated_of : Bool → Bool → Option Bool → Bool
updated_of begins act above = begins || act || unwrap_or above false

abbrev pub effective_in : Falling → ℤ
effective_in f = f.effective

abbrev pub updated_in : Falling → Bool
updated_in f = f.is_updated

-- the current value after the update
abbrev pub current_of : Option Deposit → Bool → ℤ → ℤ → ℤ
current_of deposit updated effective old = unwrap_or (plain_of deposit) (if updated then effective else old)

-- an element after the update, whose current value is then this one; an event is a change of it
abbrev pub cell_with : Cell → Option ℤ → Bool → ℤ → Cell
cell_with before override active current =
    record {
      current = current;
      last = if int_eq current before.current then before.last else before.current;
      overriding = override;
      has_event = not (int_eq current before.current);
      is_active = active;
    }

abbrev pub cell_after : Cell → Option Deposit → Option ℤ → Bool → ℤ → Cell
cell_after before deposit override updated effective =
    cell_with before override (updated || is_some (plain_of deposit)) (current_of deposit updated effective before.current)

-- The elements of a design: what each is, the driver elements that are its sources, and the elements of out and inout ports that are.
pub record Wired : Type 0 where
  pub elements : List Element
  pub drivers : List (List ℕ)
  pub sources : List (List ℕ)

abbrev pub drivers_of : Wired → ℕ → List ℕ
drivers_of w e = slice_index_or w.drivers e []

abbrev pub sources_of : Wired → ℕ → List ℕ
sources_of w e = slice_index_or w.sources e []

abbrev pub no_element : Element
no_element = record { default = pos 0; actual = None }

abbrev pub no_cell : Cell
no_cell = record { current = pos 0; last = pos 0; overriding = None; has_event = false; is_active = false }

abbrev pub element_at : Wired → ℕ → Element
element_at w e = slice_index_or w.elements e no_element

abbrev pub cell_at : List Cell → ℕ → Cell
cell_at cells e = slice_index_or cells e no_cell

-- What an update is given: the current value of each driver element and whether it is active, the deposits, and whether it is the
-- first one, in which every element is updated.
pub record Given : Type 0 where
  pub values : List ℤ
  pub are_active : List Bool
  pub deposits : ℕ → Option Deposit
  pub begins : Bool

-- What an update finds of each element.
pub record Values : Type 0 where
  pub sourced : ℕ → Bool
  pub act : ℕ → Bool
  pub override : ℕ → Option ℤ
  pub drv : ℕ → ℤ
  pub eff : ℕ → ℤ
  pub updated : ℕ → Bool

-- The equations of an element. Its sources are its drivers and then the elements of ports, by number.
pub record SolvesAt (w : Wired) (cells : List Cell) (g : Given) (v : Values) (e : ℕ) : Type 0 where
  pub sourced : v.sourced e ≡ (list_any (λ d. slice_index_or g.are_active d false) (drivers_of w e) || list_any v.act (sources_of w e))
  pub act : v.act e ≡ act_of (v.sourced e) (g.deposits e)
  pub override : v.override e ≡ override_of (g.deposits e) (v.sourced e) (cell_at cells e).overriding
  pub drv : v.drv e ≡ driving_of (v.override e) (value_of (element_at w e).default (map (λ d. slice_index_or g.values d (pos 0)) (drivers_of w e) ++ map v.drv (sources_of w e)))
  pub eff : v.eff e ≡ effective_of (option_map v.eff (element_at w e).actual) (v.drv e)
  pub updated : v.updated e ≡ updated_of g.begins (v.act e) (option_map v.updated (element_at w e).actual)

-- an element after the update, where the values solve the equations
abbrev pub settled_at : List Cell → Given → Values → ℕ → Cell
settled_at cells g v e = cell_after (cell_at cells e) (g.deposits e) (v.override e) (v.updated e) (v.eff e)

-- Ports are connected upwards, to elements with lesser numbers.
pub record IsForest (w : Wired) : Type 0 where
  pub all_drivers : length w.drivers ≡ length w.elements
  pub all_sources : length w.sources ≡ length w.elements
  pub up : (e : ℕ) → All (λ p. (e < p) × (p < length w.elements)) (sources_of w e)
  pub down : (e : ℕ) → IfSome (element_at w e).actual (λ a. a < e)
