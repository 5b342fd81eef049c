use Rattle.std.specs.Prelude.{ℕ, ℤ, ◌-◌, List, [], ◌∷◌, ◌++◌, Bool, true, false, ◌&&◌, ◌||◌, nat_lt, nat_le, nat_eq, if◌then◌else◌, Option, Some, None, take, drop, ◌≤◌}
use Rattle.std.specs.Ordering.{int_eq}
use Rattle.vhpi_values.specs.declared.driving.Transaction.{Transaction}
use Rattle.vhpi_values.specs.declared.driving.DelayMode.{DelayMode}
use Rattle.vhpi_values.specs.declared.driving.DelayMode.TheVariants as mode

-- a projected output waveform (14.7.2): the current value of the driver, and the transactions
-- that are still to come, by time
pub record Waveform : Type 0 where
  pub current : ℤ
  pub pending : List Transaction

-- the times ascend strictly from `time` on
abbrev pub rises_above : ℕ → List Transaction → Bool
rises_above time [] = true
rises_above time (x ∷ xs) = nat_lt time x.time && rises_above x.time xs

-- the times ascend strictly
abbrev pub is_rising : List Transaction → Bool
is_rising [] = true
is_rising (x ∷ xs) = rises_above x.time xs

-- a transaction comes before a time, or not before it
abbrev pub is_before : ℕ → Transaction → Bool
is_before time x = nat_lt x.time time

abbrev pub is_from : ℕ → Transaction → Bool
is_from time x = nat_le time x.time

-- the transactions before a time
abbrev pub earlier : ℕ → List Transaction → List Transaction
earlier time [] = []
earlier time (x ∷ xs) = if nat_lt x.time time then x ∷ earlier time xs else earlier time xs

-- a transaction has the value of another one
abbrev pub has_value_of : Transaction → Transaction → Bool
has_value_of other x = int_eq x.value other.value

-- the first of the transactions has this value
abbrev pub is_next : ℤ → List Transaction → Bool
is_next value [] = false
is_next value (x ∷ xs) = int_eq value x.value

-- whether the first of the old transactions, which stand before the new ones, is marked
-- (10.5.2.2): its time is before the rejection limit, or the one directly after it is marked and
-- has an equal value; the new ones are marked
abbrev pub is_marked : ℕ → List Transaction → List Transaction → Bool
is_marked limit [] new = true
is_marked limit (x ∷ old) new = nat_lt x.time limit || (is_marked limit old new && is_next x.value (old ++ new))

-- the old transactions that are marked
abbrev pub marked : ℕ → List Transaction → List Transaction → List Transaction
marked limit [] new = []
marked limit (x ∷ old) new = if is_marked limit (x ∷ old) new then x ∷ marked limit old new else marked limit old new

-- the old transactions that an assignment keeps
abbrev pub kept : DelayMode → ℕ → List Transaction → List Transaction → List Transaction
kept mode.Transport limit old new = old
kept mode.Inertial limit old new = marked limit old new

-- a list without its members from one place to before another
abbrev pub without : ℕ → ℕ → List Transaction → List Transaction
without from to xs = take from xs ++ drop to xs

-- a rejection limit is at most the time of the first new transaction
abbrev pub IsWithinFirst : ℕ → List Transaction → Type 0
IsWithinFirst reject [] = ⊥
IsWithinFirst reject (x ∷ xs) = reject ≤ x.time

-- the pending transactions after a signal assignment (10.5.2.2) with a rejection limit, which is
-- a span of time: those at or after the first new one are deleted, the new ones are appended, and
-- with inertial delay the unmarked old ones are deleted
abbrev pub assigned : DelayMode → ℕ → List Transaction → List Transaction → List Transaction
assigned mode reject pending [] = pending
assigned mode reject pending (n ∷ ns) =
    kept mode (n.time - reject) (earlier n.time pending) (n ∷ ns) ++ n ∷ ns

-- a waveform after an assignment
abbrev pub Assign : DelayMode → ℕ → List Transaction → Waveform → Waveform
Assign mode reject new w = record w { pending = assigned mode reject w.pending new }

-- the next transaction has the time now
abbrev pub is_due : ℕ → List Transaction → Bool
is_due now [] = false
is_due now (x ∷ xs) = nat_eq x.time now

-- a driver is active in a cycle where its next transaction has the time now (14.7.3.1)
abbrev pub is_active : ℕ → Waveform → Bool
is_active now w = is_due now w.pending

-- the waveform after its next transaction has become the current value
abbrev pub advanced : List Transaction → Waveform → Waveform
advanced [] w = w
advanced (x ∷ xs) w = record { current = x.value; pending = xs }

-- a waveform at the time now: a transaction that is due has become the current value
abbrev pub at_time : ℕ → Waveform → Waveform
at_time now w = if is_active now w then advanced w.pending w else w

-- the time of the next transaction
abbrev pub first_time : List Transaction → Option ℕ
first_time [] = None
first_time (x ∷ xs) = Some x.time
