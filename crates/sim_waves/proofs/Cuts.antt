use Rattle.std.proofs.Common.{◌≡◌, ℕ, ◌+◌, ◌<◌, ◌≤◌, List, [], ◌∷◌, ◌++◌, length, take, drop, get_or, true, IsTrue, nat_lt, refl, sym, ap, ◌∙◌, arith, append_assoc, subst, zero, suc}
use Rattle.std.proofs.lemmas.Bool.{and_parts, ltb-true, lt-ltb}
use Rattle.std.proofs.lemmas.List.{take-append-drop, take-append-le, drop-append-le, drop_at}
use Rattle.std.proofs.Math.Seq.{take-append-add, drop-append-add, drop-append_seam}
use Rattle.std.proofs.Common.{length-take, length-drop}
use Rattle.std.specs.List.{list_all}
use Rattle.vhpi_values.specs.declared.driving.Transaction.{Transaction}
use Rattle.vhpi_values.specs.declared.driving.DelayMode.{DelayMode}
use Rattle.vhpi_values.specs.declared.driving.DelayMode.TheVariants as mode
use Rattle.sim_waves.proofs.Marks.{rising_take}
use Rattle.sim_waves.specs.Waveform.{is_rising, rises_above, marked, kept, is_before, without, assigned}

-- the cuts of transport delay delete nothing before the new transactions
pub transport_cuts : (m : DelayMode) (limit : ℕ) (early pending new : List Transaction) (k : ℕ) → m ≡ mode.Transport → early ≡ take k pending → kept m limit early new ++ new ≡ without k k (take k pending ++ new)
transport_cuts m limit early pending new k is e =
    rw (is, e) (sym (take-append-drop k (take k pending ++ new)))

-- the cuts of inertial delay
pub inertial_cuts : (m : DelayMode) (limit : ℕ) (early pending new : List Transaction) (k from to : ℕ) → m ≡ mode.Inertial → early ≡ take k pending → from ≤ to → to ≤ length (take k pending) → marked limit (take k pending) new ≡ take from (take k pending) ++ drop to (take k pending) → kept m limit early new ++ new ≡ without from to (take k pending ++ new)
inertial_cuts m limit early pending new k from to is e order within h =
    let from_within : from ≤ length (take k pending) = omega arith in
    rw (is, e, h, take-append-le from (take k pending) new from_within, drop-append-le to (take k pending) new within) (append_assoc (take from (take k pending)) (drop to (take k pending)) new)

-- the two cuts, behind what is done
pub cut_parts : (front pending new : List Transaction) (done before from to k : ℕ) (first second : List Transaction) → length front ≡ done → before ≡ done + length pending → k ≤ length pending →
    first ≡ take (done + k) ((front ++ pending) ++ new) ++ drop before ((front ++ pending) ++ new) →
    second ≡ take (done + from) first ++ drop (done + to) first → drop done second ≡ without from to (take k pending ++ new)
cut_parts front pending new done before from to k first second size is within e1 e2 =
    let split : (front ++ pending) ++ new ≡ front ++ (pending ++ new) = append_assoc front pending new in
    let head : take (length front + k) (front ++ (pending ++ new)) ≡ front ++ take k pending =
    take-append-add front (pending ++ new) k ∙ ap (λ (l : List Transaction). front ++ l) (take-append-le k pending new within) in
    let tail : drop (length front + length pending) (front ++ (pending ++ new)) ≡ new =
    drop-append-add front (pending ++ new) (length pending) ∙ drop-append_seam pending new in
    let cut : first ≡ front ++ (take k pending ++ new) =
    rw (e1, is, ← size, split, head, tail) (append_assoc front (take k pending) new) in
    let q : List Transaction = take k pending ++ new in
    let second_is : second ≡ front ++ without from to q =
    rw (e2, cut, ← size, take-append-add front q from, drop-append-add front q to) (append_assoc front (take from q) (drop to q)) in
    rw second_is (drop_at front (without from to q) done size)

pub cut_behind : (old new whole : List Transaction) (done before from to k : ℕ) (first second : List Transaction) → whole ≡ old ++ new → done ≤ length old → before ≡ length old → k ≤ length (drop done old) →
    first ≡ take (done + k) whole ++ drop before whole →
    second ≡ take (done + from) first ++ drop (done + to) first → drop done second ≡ without from to (take k (drop done old) ++ new)
cut_behind old new whole done before from to k first second is within size kept e1 e2 =
    let front : List Transaction = take done old in
    let front_len : length (take done old) ≡ done = omega (arith, length-take done old) in
    let parts : (take done old ++ drop done old) ++ new ≡ whole = ap (λ (l : List Transaction). l ++ new) (take-append-drop done old) ∙ sym is in
    let size : before ≡ done + length (drop done old) = omega (arith, length-drop done old) in
    cut_parts (take done old) (drop done old) new done before from to k first second front_len size kept (rw parts e1) e2

-- a list that rises above a time rises above each earlier time
pub rises_below : (low high : ℕ) (xs : List Transaction) → low < high → IsTrue (rises_above high xs) → IsTrue (rises_above low xs)
rises_below low high [] h rising = refl
rises_below low high (x ∷ xs) h rising =
    let parts : (nat_lt high x.time ≡ true) × (rises_above x.time xs ≡ true) = and_parts _ _ rising in
    let below : high < x.time = ltb-true high x.time parts.0 in
    let lower : low < x.time = omega arith in
    rw (lt-ltb low x.time lower, parts.1) refl

pub rises_drop : (above n : ℕ) (xs : List Transaction) → IsTrue (rises_above above xs) → IsTrue (rises_above above (drop n xs))
rises_drop above zero xs rising = rising
rises_drop above (suc n) [] rising = refl
rises_drop above (suc n) (x ∷ xs) rising =
    let parts : (nat_lt above x.time ≡ true) × (rises_above x.time xs ≡ true) = and_parts _ _ rising in
    rises_below above x.time (drop n xs) (ltb-true above x.time parts.0) (rises_drop x.time n xs parts.1)

pub rising_of : (above : ℕ) (xs : List Transaction) → IsTrue (rises_above above xs) → IsTrue (is_rising xs)
rising_of above [] rising = refl
rising_of above (x ∷ xs) rising = (and_parts (nat_lt above x.time) (rises_above x.time xs) rising).1

pub rising_drop : (n : ℕ) (xs : List Transaction) → IsTrue (is_rising xs) → IsTrue (is_rising (drop n xs))
rising_drop zero xs rising = rising
rising_drop (suc n) [] rising = refl
rising_drop (suc n) (x ∷ xs) rising = rising_of x.time (drop n xs) (rises_drop x.time n xs rising)

-- a rising list without some of its members rises
pub rises_without : (above from to : ℕ) (xs : List Transaction) → from ≤ to → IsTrue (rises_above above xs) → IsTrue (rises_above above (without from to xs))
rises_without above zero to xs order rising = rises_drop above to xs rising
rises_without above (suc from) zero xs order rising = absurd (omega arith)
rises_without above (suc from) (suc to) [] order rising = refl
rises_without above (suc from) (suc to) (x ∷ xs) order rising =
    let parts : (nat_lt above x.time ≡ true) × (rises_above x.time xs ≡ true) = and_parts _ _ rising in
    rw (parts.0, rises_without x.time from to xs (omega arith) parts.1) refl

pub rising_without : (from to : ℕ) (xs : List Transaction) → from ≤ to → IsTrue (is_rising xs) → IsTrue (is_rising (without from to xs))
rising_without zero to xs order rising = rising_drop to xs rising
rising_without (suc from) zero xs order rising = absurd (omega arith)
rising_without (suc from) (suc to) [] order rising = refl
rising_without (suc from) (suc to) (x ∷ xs) order rising = rises_without x.time from to xs (omega arith) rising

-- a rising list before the first of another one rises with it
pub rises_append : (above : ℕ) (xs : List Transaction) (n : Transaction) (ns : List Transaction) → IsTrue (rises_above above xs) → above < n.time → list_all (is_before n.time) xs ≡ true → IsTrue (is_rising (n ∷ ns)) → IsTrue (rises_above above (xs ++ n ∷ ns))
rises_append above [] n ns rising below before new = rw (lt-ltb above n.time below, new) refl
rises_append above (x ∷ xs) n ns rising below before new =
    let parts : (nat_lt above x.time ≡ true) × (rises_above x.time xs ≡ true) = and_parts _ _ rising in
    let befores : (nat_lt x.time n.time ≡ true) × (list_all (is_before n.time) xs ≡ true) = and_parts _ _ before in
    rw (parts.0, rises_append x.time xs n ns parts.1 (ltb-true x.time n.time befores.0) befores.1 new) refl

pub rising_append : (xs : List Transaction) (n : Transaction) (ns : List Transaction) → IsTrue (is_rising xs) → list_all (is_before n.time) xs ≡ true → IsTrue (is_rising (n ∷ ns)) → IsTrue (is_rising (xs ++ n ∷ ns))
rising_append [] n ns rising before new = new
rising_append (x ∷ xs) n ns rising before new =
    let befores : (nat_lt x.time n.time ≡ true) × (list_all (is_before n.time) xs ≡ true) = and_parts _ _ before in
    rises_append x.time xs n ns rising (ltb-true x.time n.time befores.0) befores.1 new

-- a list that isn't empty, by its first member
pub first_and_rest : (xs : List Transaction) (d : Transaction) → 0 < length xs → xs ≡ get_or xs 0 d ∷ drop 1 xs
first_and_rest [] d h = absurd (omega arith)
first_and_rest (x ∷ xs) d h = refl

-- what the two cuts leave is what the assignment asks for
pub assigned_by_cuts : (m : DelayMode) (reject : ℕ) (old new whole pending : List Transaction) (d : Transaction) (done before from to k : ℕ) (first second : List Transaction) →
    pending ≡ drop done old → 0 < length new →
    ((ns : List Transaction) → assigned m reject pending (get_or new 0 d ∷ ns) ≡ without from to (take k pending ++ get_or new 0 d ∷ ns)) →
    whole ≡ old ++ new → done ≤ length old → before ≡ length old → k ≤ length pending →
    first ≡ take (done + k) whole ++ drop before whole →
    second ≡ take (done + from) first ++ drop (done + to) first → drop done second ≡ assigned m reject (drop done old) new
assigned_by_cuts m reject old new whole pending d done before from to k first second pend some by is within size kept e1 e2 =
    let news : new ≡ get_or new 0 d ∷ drop 1 new = first_and_rest new d some in
    let cut : drop done second ≡ without from to (take k (drop done old) ++ new) = cut_behind old new whole done before from to k first second is within size (rw pend at kept) e1 e2 in
    let asked : without from to (take k pending ++ new) ≡ assigned m reject pending new =
    subst (λ (l : List Transaction). without from to (take k pending ++ l) ≡ assigned m reject pending l) (sym news) (sym (by (drop 1 new))) in
    cut ∙ (subst (λ (l : List Transaction). without from to (take k l ++ new) ≡ assigned m reject l new) pend asked)

pub rising_by_cuts : (old new whole pending : List Transaction) (d : Transaction) (done before from to k : ℕ) (first second : List Transaction) →
    pending ≡ drop done old → 0 < length new → IsTrue (is_rising (drop done old)) → IsTrue (is_rising new) → from ≤ to →
    list_all (is_before (get_or new 0 d).time) (take k pending) ≡ true →
    whole ≡ old ++ new → done ≤ length old → before ≡ length old → k ≤ length pending →
    first ≡ take (done + k) whole ++ drop before whole →
    second ≡ take (done + from) first ++ drop (done + to) first → IsTrue (is_rising (drop done second))
rising_by_cuts old new whole pending d done before from to k first second pend some rising news_rise order early is within size kept e1 e2 =
    let news : new ≡ get_or new 0 d ∷ drop 1 new = first_and_rest new d some in
    let cut : drop done second ≡ without from to (take k (drop done old) ++ new) = cut_behind old new whole done before from to k first second is within size (rw pend at kept) e1 e2 in
    let front : IsTrue (is_rising (take k (drop done old))) = rising_take k (drop done old) rising in
    let early : list_all (is_before (get_or new 0 d).time) (take k (drop done old)) ≡ true = rw pend at early in
    let joined : IsTrue (is_rising (take k (drop done old) ++ (get_or new 0 d ∷ drop 1 new))) =
    rising_append (take k (drop done old)) (get_or new 0 d) (drop 1 new) front early (rw news at news_rise) in
    let joined : IsTrue (is_rising (take k (drop done old) ++ new)) = subst (λ (l : List Transaction). IsTrue (is_rising (take k (drop done old) ++ l))) (sym news) joined in
    rw cut (rising_without from to (take k (drop done old) ++ new) order joined)
