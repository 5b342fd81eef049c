use Rattle.std.proofs.Common.{◌≡◌, ℕ, ℤ, ◌+◌, ◌-◌, ◌<◌, ◌≤◌, List, [], ◌∷◌, ◌++◌, length, take, drop, get_or, Bool, true, false, IsTrue, nat_lt, refl, sym, ap, ◌∙◌, arith, ◌&&◌, ◌||◌, leb-true, subst, zero, suc, sub-one}
use Rattle.std.proofs.lemmas.Bool.{and_parts, ltb-true, lt-ltb, le-ltb}
use Rattle.std.proofs.lemmas.Bool.Decides.{Decides-int_eq}
use Rattle.std.proofs.lemmas.List.Folds.{list_all-append}
use Rattle.std.proofs.Math.Bool.{or-true}
use Rattle.std.specs.Prelude.{nat_le}
use Rattle.std.proofs.lemmas.List.{take_more, take-append-drop, drop-drop}
use Rattle.std.proofs.Math.Seq.{drop-cons}
use Rattle.std.specs.List.{list_all}
use Rattle.std.specs.Ordering.{int_eq}
use Rattle.vhpi_values.specs.declared.driving.Transaction.{Transaction}
use Rattle.sim_waves.specs.Waveform.{is_rising, rises_above, marked, is_marked, is_next, earlier, has_value_of, is_before, is_from}

-- with a last transaction before the time, all are before it
pub all_before_above : (time above : ℕ) (xs : List Transaction) (x : Transaction) → IsTrue (rises_above above (xs ++ x ∷ [])) → x.time < time → (above < time) × (list_all (is_before time) (xs ++ x ∷ []) ≡ true)
all_before_above time above [] x rising h =
    let below : above < x.time = ltb-true above x.time (and_parts _ _ rising).0 in
    (omega arith, rw (lt-ltb x.time time h) refl)
all_before_above time above (y ∷ ys) x rising h =
    let parts : (nat_lt above y.time ≡ true) × (rises_above y.time (ys ++ x ∷ []) ≡ true) = and_parts _ _ rising in
    let below : above < y.time = ltb-true above y.time parts.0 in
    let rest = all_before_above time y.time ys x parts.1 h in
    let first : y.time < time = rest.0 in
    (omega arith, rw (lt-ltb y.time time first, rest.1) refl)

pub all_before : (time : ℕ) (xs : List Transaction) (x : Transaction) → IsTrue (is_rising (xs ++ x ∷ [])) → x.time < time → list_all (is_before time) (xs ++ x ∷ []) ≡ true
all_before time [] x rising h = rw (lt-ltb x.time time h) refl
all_before time (y ∷ ys) x rising h =
    let rest = all_before_above time y.time ys x rising h in
    rw (lt-ltb y.time time rest.0, rest.1) refl

-- where all before a place are before the time, and all behind it aren't
pub earlier_split : (time : ℕ) (xs ys : List Transaction) → list_all (is_before time) xs ≡ true → list_all (is_from time) ys ≡ true → earlier time (xs ++ ys) ≡ xs
earlier_split time [] [] before after = refl
earlier_split time [] (y ∷ ys) before after =
    let parts : (nat_le time y.time ≡ true) × (list_all (is_from time) ys ≡ true) = and_parts _ _ after in
    let late : time ≤ y.time = leb-true time y.time parts.0 in
    rw (le-ltb y.time time late) (earlier_split time [] ys refl parts.1)
earlier_split time (x ∷ xs) ys before after =
    let parts : (nat_lt x.time time ≡ true) × (list_all (is_before time) xs ≡ true) = and_parts _ _ before in
    rw (parts.0, earlier_split time xs ys parts.1 after) refl

pub earlier_at : (time : ℕ) (xs : List Transaction) (n : ℕ) → list_all (is_before time) (take n xs) ≡ true → list_all (is_from time) (drop n xs) ≡ true → earlier time xs ≡ take n xs
earlier_at time xs n before after = subst (λ (l : List Transaction). earlier time l ≡ take n xs) (take-append-drop n xs) (earlier_split time (take n xs) (drop n xs) before after)

-- the first transactions of a rising list rise
pub rises_before : (above : ℕ) (xs ys : List Transaction) → IsTrue (rises_above above (xs ++ ys)) → IsTrue (rises_above above xs)
rises_before above [] ys rising = refl
rises_before above (x ∷ xs) ys rising =
    let parts : (nat_lt above x.time ≡ true) × (rises_above x.time (xs ++ ys) ≡ true) = and_parts _ _ rising in
    let rest : rises_above x.time xs ≡ true = rises_before x.time xs ys parts.1 in
    rw (parts.0, rest) refl

pub rising_before : (xs ys : List Transaction) → IsTrue (is_rising (xs ++ ys)) → IsTrue (is_rising xs)
rising_before [] ys rising = refl
rising_before (x ∷ xs) ys rising = rises_before x.time xs ys rising

pub rising_take : (n : ℕ) (xs : List Transaction) → IsTrue (is_rising xs) → IsTrue (is_rising (take n xs))
rising_take n xs rising = rising_before (take n xs) (drop n xs) (rw take-append-drop rising)

pub before_found : (time : ℕ) (xs : List Transaction) (n j : ℕ) (d : Transaction) → n ≡ j + 1 → n ≤ length xs → IsTrue (is_rising xs) → (get_or xs j d).time < time → list_all (is_before time) (take n xs) ≡ true
before_found time xs n j d e within rising h =
    let within : j < length xs = omega arith in
    let front : take n xs ≡ take j xs ++ get_or xs j d ∷ [] = rw e (take_more xs j d within) in
    rw front (all_before time (take j xs) (get_or xs j d) (rw front at (rising_take n xs rising)) h)

-- what stands before transactions of the new value has that value next
pub next_same : (value : ℤ) (xs : List Transaction) (first : Transaction) (ns : List Transaction) → list_all (has_value_of first) xs ≡ true → is_next value (xs ++ first ∷ ns) ≡ int_eq value first.value
next_same value [] first ns h = refl
next_same value (x ∷ xs) first ns h =
    let same : x.value ≡ first.value = (Decides-int_eq x.value first.value).0 (and_parts _ _ h).0 in
    ap (λ v. int_eq value v) same

-- transactions that all have the new value are all marked
pub run_marked : (limit : ℕ) (xs : List Transaction) (first : Transaction) (ns : List Transaction) → list_all (has_value_of first) xs ≡ true → (is_marked limit xs (first ∷ ns) ≡ true) × (marked limit xs (first ∷ ns) ≡ xs)
run_marked limit [] first ns h = (refl, refl)
run_marked limit (x ∷ xs) first ns h =
    let parts : (int_eq x.value first.value ≡ true) × (list_all (has_value_of first) xs ≡ true) = and_parts _ _ h in
    let rest = run_marked limit xs first ns parts.1 in
    let next : is_next x.value (xs ++ first ∷ ns) ≡ true = next_same x.value xs first ns parts.1 ∙ parts.0 in
    let here : (nat_lt x.time limit || (is_marked limit xs (first ∷ ns) && is_next x.value (xs ++ first ∷ ns))) ≡ true =
    rw (rest.0, next) (or-true (nat_lt x.time limit)) in
    (here, rw (here, rest.1) refl)

-- no transaction from the limit on is marked where it, or one behind it, changes the value
pub gap_unmarked : (limit : ℕ) (ys : List Transaction) (y : Transaction) (zs : List Transaction) (first : Transaction) (ns : List Transaction) → list_all (is_from limit) (ys ++ y ∷ []) ≡ true → has_value_of first y ≡ false → list_all (has_value_of first) zs ≡ true → (is_marked limit (ys ++ y ∷ zs) (first ∷ ns) ≡ false) × (marked limit (ys ++ y ∷ zs) (first ∷ ns) ≡ zs)
gap_unmarked limit [] y zs first ns late other same =
    let late : limit ≤ y.time = leb-true limit y.time (and_parts _ _ late).0 in
    let run = run_marked limit zs first ns same in
    let next : is_next y.value (zs ++ first ∷ ns) ≡ false = next_same y.value zs first ns same ∙ other in
    let here : (nat_lt y.time limit || (is_marked limit zs (first ∷ ns) && is_next y.value (zs ++ first ∷ ns))) ≡ false =
    rw (le-ltb y.time limit late, run.0, next) refl in
    (here, rw (here, run.1) refl)
gap_unmarked limit (x ∷ xs) y zs first ns late other same =
    let parts : (nat_le limit x.time ≡ true) × (list_all (is_from limit) (xs ++ y ∷ []) ≡ true) = and_parts _ _ late in
    let late : limit ≤ x.time = leb-true limit x.time parts.0 in
    let rest = gap_unmarked limit xs y zs first ns parts.1 other same in
    let here : (nat_lt x.time limit || (is_marked limit (xs ++ y ∷ zs) (first ∷ ns) && is_next x.value ((xs ++ y ∷ zs) ++ first ∷ ns))) ≡ false =
    rw (le-ltb x.time limit late, rest.0) refl in
    (here, rw (here, rest.1) refl)

-- transactions before the limit are all marked
pub front_marked : (limit : ℕ) (xs rest new : List Transaction) → list_all (is_before limit) xs ≡ true → marked limit (xs ++ rest) new ≡ xs ++ marked limit rest new
front_marked limit [] rest new h = refl
front_marked limit (x ∷ xs) rest new h =
    let parts : (nat_lt x.time limit ≡ true) × (list_all (is_before limit) xs ≡ true) = and_parts _ _ h in
    let here : (nat_lt x.time limit || (is_marked limit (xs ++ rest) new && is_next x.value ((xs ++ rest) ++ new))) ≡ true = rw parts.0 refl in
    rw (here, front_marked limit xs rest new parts.1) refl

pub list_all_front : (p : Transaction → Bool) (xs ys : List Transaction) → list_all p (xs ++ ys) ≡ true → list_all p xs ≡ true
list_all_front p xs ys h = (and_parts _ _ (sym (list_all-append p xs ys) ∙ h)).0

pub list_all_take : (p : Transaction → Bool) (n : ℕ) (xs : List Transaction) → list_all p xs ≡ true → list_all p (take n xs) ≡ true
list_all_take p n xs h = list_all_front p (take n xs) (drop n xs) (ap (list_all p) (take-append-drop n xs) ∙ h)

-- of the transactions from the limit on, the run of the new value at the end is marked
pub rest_marked : (limit : ℕ) (ys : List Transaction) (place : ℕ) (first : Transaction) (ns : List Transaction) → list_all (is_from limit) ys ≡ true → place ≤ length ys → list_all (has_value_of first) (drop place ys) ≡ true → (0 < place → has_value_of first (get_or ys (place - 1) first) ≡ false) → marked limit ys (first ∷ ns) ≡ drop place ys
rest_marked limit ys zero first ns late within same stop = (run_marked limit ys first ns same).1
rest_marked limit ys (suc j) first ns late within same stop =
    let within : j < length ys = omega arith in
    let last : Transaction = get_or ys j first in
    let other : has_value_of first last ≡ false = rw sub-one at (stop (omega arith)) in
    let front : take j ys ++ last ∷ drop (suc j) ys ≡ ys = rw (← drop-cons ys j first within) (take-append-drop j ys) in
    let early : list_all (is_from limit) (take j ys ++ last ∷ []) ≡ true = rw (← take_more ys j first within) (list_all_take (is_from limit) (j + 1) ys late) in
    subst (λ (l : List Transaction). marked limit l (first ∷ ns) ≡ drop (suc j) ys) front (gap_unmarked limit (take j ys) last (drop (suc j) ys) first ns early other same).1

-- what inertial delay keeps: all before the limit, and the run at the end
pub marked_at : (limit : ℕ) (xs : List Transaction) (from place : ℕ) (rest : List Transaction) (first : Transaction) (ns : List Transaction) → rest ≡ drop from xs → list_all (is_before limit) (take from xs) ≡ true → list_all (is_from limit) (drop from xs) ≡ true → place ≤ length rest → list_all (has_value_of first) (drop place rest) ≡ true → (0 < place → has_value_of first (get_or rest (place - 1) first) ≡ false) → marked limit xs (first ∷ ns) ≡ take from xs ++ drop (from + place) xs
marked_at limit xs from place rest first ns is before after within same stop =
    let late : list_all (is_from limit) rest ≡ true = ap (list_all (is_from limit)) is ∙ after in
    let whole : take from xs ++ rest ≡ xs = ap (λ (l : List Transaction). take from xs ++ l) is ∙ take-append-drop from xs in
    let kept : marked limit rest (first ∷ ns) ≡ drop (from + place) xs =
    rest_marked limit rest place first ns late within same stop ∙ (ap (drop place) is ∙ drop-drop place from xs) in
    subst (λ (l : List Transaction). marked limit l (first ∷ ns) ≡ take from xs ++ drop (from + place) xs) whole
    (front_marked limit (take from xs) rest (first ∷ ns) before ∙ ap (λ l. take from xs ++ l) kept)
