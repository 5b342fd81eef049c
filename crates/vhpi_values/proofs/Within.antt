use Rattle.std.proofs.Common.{◌≡◌, ℕ, zero, suc, ◌+◌, ◌*◌, ◌-◌, ◌/◌, ◌≤◌, Bool, true, false, ◌||◌, if◌then◌else◌, List, [], ◌∷◌, ◌++◌, length, map, replicate, refl, ◌∙◌, arith, ℤ, pos, Option, Some, None, Result, Ok, Err, option_map, option_and_then, position, codes, ◌==◌, All, length-append}
use Rattle.vhpi_values.specs.declared.formats.Formatted.{Formatted}
use Rattle.vhpi_values.specs.declared.formats.Formatted.TheVariants as formatted
use Rattle.vhpi_values.specs.Types.{Subtype, element_count, characters_of}
use Rattle.vhpi_values.specs.Values.{Fits, IsWithin}
use Rattle.vhpi_values.specs.Formats.{filling}
use Rattle.vhpi_values.specs.Reading.{reading, gathered, behind, single, number, byte, character, before, places, group_of, four_bits, digit, digits, decimal_text, decimal_number}
use Rattle.vhpi_values.proofs.Numbers.{number-is}

-- each element lies in the scalar subtype
abbrev pub Each : Subtype → List ℤ → Type 0
Each ty [] = Unit {0}
Each ty (n ∷ ns) = IsWithin ty n × Each ty ns

each-append : (ty : Subtype) (xs ys : List ℤ) → Each ty xs → Each ty ys → Each ty (xs ++ ys)
each-append ty [] ys a b = b
each-append ty (x ∷ xs) ys a b = (a.0, each-append ty xs ys a.1 b)

pub all-each : (ty : Subtype) (xs : List ℤ) → All (IsWithin ty) xs → Each ty xs
all-each ty [] a = tt
all-each ty (x ∷ xs) a = (a 0 x (omega arith), all-each ty xs (λ k d h. a (suc k) d (omega arith)))

each-all : (ty : Subtype) (xs : List ℤ) → Each ty xs → All (IsWithin ty) xs
each-all ty [] e k d h = absurd (omega arith)
each-all ty (x ∷ xs) e zero d h = e.0
each-all ty (x ∷ xs) e (suc k) d h = each-all ty xs e.1 k d (omega arith)

-- so many elements, each of the subtype
pub record Part (ty : Subtype) (n : ℕ) (xs : List ℤ) : Type 0 where
  pub count : length xs ≡ n
  pub each : Each ty xs

pub part-fits : (ty : Subtype) (n : ℕ) (xs : List ℤ) → n ≡ element_count ty → Part ty n xs → Fits ty xs
part-fits ty n xs e p = record { count = p.count ∙ e; within = each-all ty xs p.each }

part-append : (ty : Subtype) (n m : ℕ) (xs ys : List ℤ) → Part ty n xs → Part ty m ys → Part ty (n + m) (xs ++ ys)
part-append ty n m xs ys p q =
    record { count = omega (arith, length-append {A = ℤ}, p.count, q.count); each = each-append ty xs ys p.each q.each }

-- a value behind elements
pub behind-ok : (xs : List ℤ) (r : Result (List ℤ) ℕ) (v : List ℤ) → behind xs r ≡ Ok v → (w : List ℤ) × (r ≡ Ok w) × (v ≡ xs ++ w)
behind-ok xs (Ok w) v e = (w, refl, cc)
behind-ok xs (Err q) v e = cc

-- a gathered value is a fitting member and a gathered rest
pub gathered-ok : (n : ℕ) (m : Option (List ℤ)) (ms : List (Option (List ℤ))) (v : List ℤ) → gathered (suc n) (m ∷ ms) ≡ Ok v → (xs : List ℤ) × (w : List ℤ) × (m ≡ Some xs) × (gathered n ms ≡ Ok w) × (v ≡ xs ++ w)
gathered-ok n None ms v e = cc
gathered-ok n (Some xs) ms v e = let b = behind-ok xs (gathered n ms) v e in (xs, b.0, refl, b.1, b.2)

single-part : (ty : Subtype) (f : Option ℤ) (xs : List ℤ) → ((n : ℤ) → f ≡ Some n → IsWithin ty n) → single f ≡ Some xs → Part ty 1 xs
single-part ty None xs within e = cc
single-part ty (Some n) xs within e =
    let s : n ∷ [] ≡ xs = cc in
    rw (← s) (record { count = refl; each = (within n refl, tt) })

ones-part : {A : Type 0} (ty : Subtype) (f : A → Option ℤ) → ((x : A) (n : ℤ) → f x ≡ Some n → IsWithin ty n) → (list : List A) (n : ℕ) (v : List ℤ) → gathered n (map single (map f list)) ≡ Ok v → Part ty n v
ones-part ty f within [] zero v e = let s : [] ≡ v = cc in rw (← s) (record { count = refl; each = tt })
ones-part ty f within [] (suc n) v e = cc
ones-part ty f within (x ∷ xs) zero v e = cc
ones-part ty f within (x ∷ xs) (suc n) v e =
    let g = gathered-ok n (single (f x)) (map single (map f xs)) v e in
    let p = part-append ty 1 n g.0 g.1 (single-part ty (f x) g.0 (within x) g.2) (ones-part ty f within xs n g.1 g.3) in
    rw g.4 (record { count = omega (arith, p.count); each = p.each })

one-part : (ty : Subtype) (f : Option ℤ) → ((n : ℤ) → f ≡ Some n → IsWithin ty n) → (n : ℕ) (v : List ℤ) → gathered n (single f ∷ []) ≡ Ok v → Part ty n v
one-part ty f within zero v e = cc
one-part ty f within (suc n) v e =
    let g = gathered-ok n (single f) [] v e in
    let p = part-append ty 1 n g.0 g.1 (single-part ty f g.0 within g.2) (none n g.1 g.3) in
    rw g.4 (record { count = omega (arith, p.count); each = p.each }) where
      none : (n : ℕ) (w : List ℤ) → gathered n [] ≡ Ok w → Part ty n w
      none zero w e = let s : [] ≡ w = cc in rw (← s) (record { count = refl; each = tt })
      none (suc n) w e = cc

pub number-fits : (ty : Subtype) (n m : ℤ) → number ty n ≡ Some m → IsWithin ty m
number-fits ty n m e = let i = number-is ty n m e in rw i.0 i.1

pub character-fits : (ty : Subtype) (c : ℕ) (m : ℤ) → character ty c ≡ Some m → IsWithin ty m
character-fits ty c m e = by (position (λ other. other == c) (characters_of ty.base)) e where
  by : (o : Option ℕ) → option_and_then (λ n. number ty (pos n)) o ≡ Some m → IsWithin ty m
  by None e = cc
  by (Some n) e = number-fits ty (pos n) m e

decimal-fits : (ty : Subtype) (text : List ℕ) (m : ℤ) → decimal_text ty text ≡ Some m → IsWithin ty m
decimal-fits ty text m e = by (decimal_number text) e where
  by : (o : Option ℤ) → option_and_then (number ty) o ≡ Some m → IsWithin ty m
  by None e = cc
  by (Some n) e = number-fits ty n m e

-- an element before others
pub before-ok : (o : Option ℤ) (r : Option (List ℤ)) (ys : List ℤ) → before o r ≡ Some ys → (n : ℤ) × (ns : List ℤ) × (o ≡ Some n) × (r ≡ Some ns) × (ys ≡ n ∷ ns)
before-ok None r ys e = cc
before-ok (Some n) None ys e = cc
before-ok (Some n) (Some ns) ys e = (n, ns, refl, refl, cc)

places-part : (ty : Subtype) (filled : ℕ) (cs : List ℕ) (ys : List ℤ) (k : ℕ) → places ty filled cs ≡ Some ys → k + filled ≡ length cs → Part ty k ys
places-part ty filled [] ys k e h =
    let s : [] ≡ ys = cc in
    rw (← s) (record { count = omega arith; each = tt })
places-part ty zero (c ∷ cs) ys k e h =
    let b = before-ok (character ty c) (places ty zero cs) ys e in
    let p = places-part ty zero cs b.1 (length cs) b.3 (omega arith) in
    rw b.4 (record { count = omega (arith, p.count); each = (character-fits ty c b.0 b.2, p.each) })
places-part ty (suc filled) (c ∷ cs) ys k e h =
    by (c == 48) (λ more. places-part ty filled cs ys k more (omega arith)) e where
      by : (b : Bool) → (places ty filled cs ≡ Some ys → Part ty k ys) → (if b then places ty filled cs else None) ≡ Some ys → Part ty k ys
      by true ih e = ih e
      by false ih e = cc

pub group-length : (d : ℕ) (group : List ℕ) → group_of d ≡ Some group → length group ≡ 4
group-length d group e = by ((d == 88) || (d == 90)) e where
  bits : (o : Option ℕ) → option_map four_bits o ≡ Some group → length group ≡ 4
  bits None e = cc
  bits (Some n) e = let s : four_bits n ≡ group = cc in rw (← s) refl

  by : (b : Bool) → (if b then Some (replicate 4 d) else option_map four_bits (position (λ other. other == d) (codes "0123456789ABCDEF"))) ≡ Some group → length group ≡ 4
  by true e = let s : replicate 4 d ≡ group = cc in rw (← s) refl
  by false e = bits _ e

pub digit-part : (ty : Subtype) (filled d : ℕ) (ys : List ℤ) (k : ℕ) → digit ty filled d ≡ Some ys → k + filled ≡ 4 → Part ty k ys
digit-part ty filled d ys k e h = by (group_of d) refl e where
  by : (o : Option (List ℕ)) → group_of d ≡ o → option_and_then (places ty filled) o ≡ Some ys → Part ty k ys
  by None t e = cc
  by (Some group) t e = places-part ty filled group ys k e (omega (arith, group-length d group t))

whole-part : (ty : Subtype) (ds : List ℕ) (n : ℕ) (v : List ℤ) → gathered n (map (digit ty 0) ds) ≡ Ok v → Part ty (4 * n) v
whole-part ty [] zero v e = let s : [] ≡ v = cc in rw (← s) (record { count = refl; each = tt })
whole-part ty [] (suc n) v e = cc
whole-part ty (d ∷ ds) zero v e = cc
whole-part ty (d ∷ ds) (suc n) v e =
    let g = gathered-ok n (digit ty 0 d) (map (digit ty 0) ds) v e in
    let p = part-append ty 4 (4 * n) g.0 g.1 (digit-part ty 0 d g.0 4 g.2 refl) (whole-part ty ds n g.1 g.3) in
    rw g.4 (record { count = omega (arith, p.count); each = p.each })

digits-part : (ty : Subtype) (ds : List ℕ) (n filled k : ℕ) (v : List ℤ) → gathered n (digits ty filled ds) ≡ Ok v → filled ≤ 3 → k + filled ≡ 4 * n → Part ty k v
digits-part ty [] zero filled k v e f h =
    let s : [] ≡ v = cc in
    rw (← s) (record { count = omega arith; each = tt })
digits-part ty [] (suc n) filled k v e f h = cc
digits-part ty (d ∷ ds) zero filled k v e f h = cc
digits-part ty (d ∷ ds) (suc n) filled k v e f h =
    let g = gathered-ok n (digit ty filled d) (map (digit ty 0) ds) v e in
    let p = part-append ty (4 - filled) (4 * n) g.0 g.1 (digit-part ty filled d g.0 (4 - filled) g.2 (omega arith)) (whole-part ty ds n g.1 g.3) in
    rw g.4 (record { count = omega (arith, p.count); each = p.each })

pub filling-le : (n : ℕ) → filling n ≤ 3
filling-le n = omega arith

pub filling-wanted : (n : ℕ) → n + filling n ≡ 4 * ((n + 3) / 4)
filling-wanted n = omega arith

pub reading-fits : (ty : Subtype) (from : Formatted) (v : List ℤ) → reading ty from ≡ Ok v → Fits ty v
reading-fits ty (formatted.BinStr text) v e =
    part-fits ty _ v refl (ones-part ty (character ty) (character-fits ty) text (element_count ty) v e)
reading-fits ty (formatted.HexStr text) v e =
    part-fits ty _ v refl (digits-part ty text ((element_count ty + 3) / 4) (filling (element_count ty)) (element_count ty) v e (filling-le (element_count ty)) (filling-wanted (element_count ty)))
reading-fits ty (formatted.DecStr text) v e =
    part-fits ty _ v refl (one-part ty _ (decimal-fits ty text) (element_count ty) v e)
reading-fits ty (formatted.Enum n) v e = part-fits ty _ v refl (one-part ty _ (number-fits ty n) (element_count ty) v e)
reading-fits ty (formatted.Int n) v e = part-fits ty _ v refl (one-part ty _ (number-fits ty n) (element_count ty) v e)
reading-fits ty (formatted.Logic n) v e = part-fits ty _ v refl (one-part ty _ (number-fits ty n) (element_count ty) v e)
reading-fits ty (formatted.Str text) v e =
    part-fits ty _ v refl (ones-part ty (byte ty) (λ c. number-fits ty (pos c)) text (element_count ty) v e)
reading-fits ty (formatted.Char n) v e = part-fits ty _ v refl (one-part ty _ (number-fits ty n) (element_count ty) v e)
reading-fits ty (formatted.Time n) v e = part-fits ty _ v refl (one-part ty _ (number-fits ty n) (element_count ty) v e)
reading-fits ty (formatted.EnumVec ns) v e =
    part-fits ty _ v refl (ones-part ty (number ty) (number-fits ty) ns (element_count ty) v e)
reading-fits ty (formatted.IntVec ns) v e =
    part-fits ty _ v refl (ones-part ty (number ty) (number-fits ty) ns (element_count ty) v e)
reading-fits ty (formatted.LogicVec ns) v e =
    part-fits ty _ v refl (ones-part ty (number ty) (number-fits ty) ns (element_count ty) v e)
