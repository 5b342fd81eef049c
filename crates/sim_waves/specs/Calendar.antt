-- A calendar: which key has which time, the least time, and the keys of a time.
use Rattle.std.specs.Prelude.{ℕ, suc, ◌^◌, ◌<◌, ◌≤◌, ◌≡◌, List, [], ◌∷◌, Bool, true, false, ◌&&◌, nat_eq, Option, Some, None, length, slice_index_or, if◌then◌else◌}
use Rattle.std.specs.declared.cmp.Ordering.{Ordering}
use Rattle.std.specs.Ordering.{nat_cmp, ordering_then}

-- the time is this one
abbrev pub is_at : ℕ → Option ℕ → Bool
is_at time None = false
is_at time (Some t) = nat_eq time t

-- the time of a key, if it has one
abbrev pub time_of : List (Option ℕ) → ℕ → Option ℕ
time_of times key = slice_index_or times key None

-- the least of the times; none where no key has a time
abbrev pub IsEarliest : Option ℕ → List (Option ℕ) → Type 0
IsEarliest None times = (time key : ℕ) → is_at time (time_of times key) ≡ false
IsEarliest (Some first) times =
    ((key : ℕ) × (is_at first (time_of times key) ≡ true))
    × ((time key : ℕ) → is_at time (time_of times key) ≡ true → first ≤ time)

-- the keys with a time, rising; the first of the list has the number `key`
abbrev pub keys_at : ℕ → ℕ → List (Option ℕ) → List ℕ
keys_at now key [] = []
keys_at now key (time ∷ times) = if is_at now time then key ∷ keys_at now (suc key) times else keys_at now (suc key) times

-- what is left of the time of a key when all keys of this time are taken
abbrev pub left_at : ℕ → Option ℕ → Option ℕ
left_at now time = if is_at now time then None else time

-- pairs of a time and a key stand by time and then by key
abbrev pub pair_cmp : ℕ × ℕ → ℕ × ℕ → Ordering
pair_cmp x y = ordering_then (nat_cmp x.0 y.0) (nat_cmp x.1 y.1)

-- the pair is that of this time, if there is one, and this key
abbrev pub is_pair : Option ℕ → ℕ → ℕ → ℕ → Bool
is_pair time key t k = is_at t time && nat_eq k key

-- a set of such pairs has just those of the list
pub record InStep (times : List (Option ℕ)) (has : ℕ × ℕ → Bool) : Type 0 where
  pub same : (time key : ℕ) → has (time, key) ≡ is_at time (time_of times key)
  pub few : length times < 2 ^ 32

-- the least time in a set of pairs
abbrev pub IsFirstOf : Option ℕ → (ℕ × ℕ → Bool) → Type 0
IsFirstOf None has = (time key : ℕ) → has (time, key) ≡ false
IsFirstOf (Some first) has =
    ((key : ℕ) × (has (first, key) ≡ true)) × ((time key : ℕ) → has (time, key) ≡ true → first ≤ time)

-- the least key from `from` on that has the time now in a set of pairs
abbrev pub IsNextKey : Option ℕ → ℕ → ℕ → (ℕ × ℕ → Bool) → Type 0
IsNextKey None now from has = (key : ℕ) → from ≤ key → has (now, key) ≡ false
IsNextKey (Some next) now from has =
    (from ≤ next) × (has (now, next) ≡ true) × ((key : ℕ) → from ≤ key → key < next → has (now, key) ≡ false)
