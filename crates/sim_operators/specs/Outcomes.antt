-- A value, or the fault that comes first.
use Rattle.std.specs.Prelude.{◌≡◌, List, ℤ, Result, Ok, Err}
use Rattle.sim_operators.specs.declared.fault.Fault.{Fault}
use Rattle.sim_operators.specs.declared.fault.Fault.TheVariants as fault

-- what is calculated: the elements of a value, or a fault
abbrev pub Outcome : Type 0
Outcome = Result (List ℤ) Fault

-- one after the other: what comes later isn't evaluated behind a fault
abbrev pub and_then : {T U : Type 0} → Result T Fault → (T → Result U Fault) → Result U Fault
and_then (Ok value) go = go value
and_then (Err e) go = Err e

-- want of memory may come at any time, and each other fault where it is meant
abbrev pub GivesErr : {T : Type 0} → Fault → Result T Fault → Type 0
GivesErr fault.NoMemory meant = Unit {0}
GivesErr e meant = meant ≡ Err e

-- a call's answer is what is meant, or want of memory
abbrev pub Gives : {T : Type 0} → Result T Fault → Result T Fault → Type 0
Gives (Ok value) meant = meant ≡ Ok value
Gives (Err e) meant = GivesErr e meant
