use Rattle.std.proofs.Common.{◌≡◌, ◌↔◌, ℕ, zero, suc, ◌+◌, ◌*◌, ◌-◌, ◌/◌, ◌<◌, ◌≤◌, Bool, true, false, ◌||◌, ◌&&◌, if◌then◌else◌, ◌⊎◌, inl, inr, List, [], ◌∷◌, ◌++◌, length, map, replicate, take, drop, refl, sym, ◌∙◌, ap, append_assoc, arith, ℤ, pos, Option, Some, None, Ok, option_and_then, position, ◌==◌, length-append, length-take, length-drop, eqb-true}
use Rattle.std.specs.List.{list_all}
use Rattle.std.specs.Fmt.{digit_glyph}
use Rattle.std.proofs.lemmas.Bool.Decides.{nat_tests}
use Rattle.std.proofs.lemmas.List.{take-append-drop, map-append, length-map, length-replicate}
use Rattle.std.proofs.lemmas.List.Quantifiers.{position-Some}
use Rattle.vhpi_values.specs.Types.{Subtype, IsSubtype, element_count, is_bit_or_logic, characters_of}
use Rattle.vhpi_values.specs.Values.{Fits}
use Rattle.vhpi_values.specs.Formats.{filling, filled, is_binary, group_value, hex_digit, is_exact, groups, character_at, literal_text}
use Rattle.vhpi_values.specs.Reading.{gathered, behind, character, before, places, group_of, digit, digits, number}
use Rattle.vhpi_values.proofs.Numbers.{character-back, number-is}
use Rattle.vhpi_values.proofs.Within.{Each, all-each, before-ok, gathered-ok, digit-part, filling-le, filling-wanted}

-- a bit is '0' or '1'
binary-cases : (c : ℕ) → is_binary c ≡ true → (c ≡ 48) ⊎ (c ≡ 49)
binary-cases c e = grind (arith, nat_tests)

same-group : (a b c d : ℕ) → is_binary a ≡ true → is_binary b ≡ true → is_binary c ≡ true → is_binary d ≡ true → group_of (digit_glyph true (group_value (a ∷ b ∷ c ∷ d ∷ []))) ≡ Some (a ∷ b ∷ c ∷ d ∷ [])
same-group a b c d ea eb ec ed =
    by a b c d (binary-cases a ea) (binary-cases b eb) (binary-cases c ec) (binary-cases d ed) where
      by : (a b c d : ℕ) → (a ≡ 48) ⊎ (a ≡ 49) → (b ≡ 48) ⊎ (b ≡ 49) → (c ≡ 48) ⊎ (c ≡ 49) → (d ≡ 48) ⊎ (d ≡ 49) → group_of (digit_glyph true (group_value (a ∷ b ∷ c ∷ d ∷ []))) ≡ Some (a ∷ b ∷ c ∷ d ∷ [])
      by a b c d (inl p) (inl q) (inl r) (inl s) = rw (p, q, r, s) refl
      by a b c d (inl p) (inl q) (inl r) (inr s) = rw (p, q, r, s) refl
      by a b c d (inl p) (inl q) (inr r) (inl s) = rw (p, q, r, s) refl
      by a b c d (inl p) (inl q) (inr r) (inr s) = rw (p, q, r, s) refl
      by a b c d (inl p) (inr q) (inl r) (inl s) = rw (p, q, r, s) refl
      by a b c d (inl p) (inr q) (inl r) (inr s) = rw (p, q, r, s) refl
      by a b c d (inl p) (inr q) (inr r) (inl s) = rw (p, q, r, s) refl
      by a b c d (inl p) (inr q) (inr r) (inr s) = rw (p, q, r, s) refl
      by a b c d (inr p) (inl q) (inl r) (inl s) = rw (p, q, r, s) refl
      by a b c d (inr p) (inl q) (inl r) (inr s) = rw (p, q, r, s) refl
      by a b c d (inr p) (inl q) (inr r) (inl s) = rw (p, q, r, s) refl
      by a b c d (inr p) (inl q) (inr r) (inr s) = rw (p, q, r, s) refl
      by a b c d (inr p) (inr q) (inl r) (inl s) = rw (p, q, r, s) refl
      by a b c d (inr p) (inr q) (inl r) (inr s) = rw (p, q, r, s) refl
      by a b c d (inr p) (inr q) (inr r) (inl s) = rw (p, q, r, s) refl
      by a b c d (inr p) (inr q) (inr r) (inr s) = rw (p, q, r, s) refl

pub left-true : (a b : Bool) → a && b ≡ true → a ≡ true
left-true true b e = refl
left-true false b e = e

right-true : (a b : Bool) → a && b ≡ true → b ≡ true
right-true true b e = e
right-true false b e = cc

-- four characters of one kind
four-same : (x a b c d : ℕ) → list_all (λ e. e == x) (a ∷ b ∷ c ∷ d ∷ []) ≡ true → a ∷ b ∷ c ∷ d ∷ [] ≡ replicate 4 x
four-same x a b c d h =
    let ea : a ≡ x = eqb-true _ _ (left-true _ _ h) in
    let hb = right-true _ _ h in
    let eb : b ≡ x = eqb-true _ _ (left-true _ _ hb) in
    let hc = right-true _ _ hb in
    let ec : c ≡ x = eqb-true _ _ (left-true _ _ hc) in
    let ed : d ≡ x = eqb-true _ _ (left-true _ _ (right-true _ _ hc)) in
    rw (ea, eb, ec, ed) refl

-- the digit of an exact group stands for it
group-exact : (group : List ℕ) → length group ≡ 4 → is_exact group ≡ true → group_of (hex_digit group) ≡ Some group
group-exact [] h e = absurd (omega arith)
group-exact (a ∷ []) h e = absurd (omega arith)
group-exact (a ∷ b ∷ []) h e = absurd (omega arith)
group-exact (a ∷ b ∷ c ∷ []) h e = absurd (omega arith)
group-exact (a ∷ b ∷ c ∷ d ∷ []) h e =
    by (list_all is_binary (a ∷ b ∷ c ∷ d ∷ [])) refl (list_all (λ e. e == 90) (a ∷ b ∷ c ∷ d ∷ [])) refl (list_all (λ e. e == 88) (a ∷ b ∷ c ∷ d ∷ [])) refl e where
      group : List ℕ
      group = a ∷ b ∷ c ∷ d ∷ []

      by : (x : Bool) → list_all is_binary (a ∷ b ∷ c ∷ d ∷ []) ≡ x → (y : Bool) → list_all (λ e. e == 90) (a ∷ b ∷ c ∷ d ∷ []) ≡ y → (z : Bool) → list_all (λ e. e == 88) (a ∷ b ∷ c ∷ d ∷ []) ≡ z → x || (y || z) ≡ true → group_of (if x then digit_glyph true (group_value (a ∷ b ∷ c ∷ d ∷ [])) else (if y then 90 else 88)) ≡ Some (a ∷ b ∷ c ∷ d ∷ [])
      by true ex y ey z ez t =
          let rb = right-true _ _ ex in
          let rc = right-true _ _ rb in
          same-group a b c d (left-true _ _ ex) (left-true _ _ rb) (left-true _ _ rc) (left-true _ _ (right-true _ _ rc))
      by false ex true ey z ez t = ap Some (sym (four-same 90 a b c d ey))
      by false ex false ey true ez t = ap Some (sym (four-same 88 a b c d ez))
      by false ex false ey false ez t = cc
group-exact (a ∷ b ∷ c ∷ d ∷ e' ∷ r) h e = absurd (omega arith)

-- any other group has the digit 'X'
group-inexact : (group : List ℕ) → is_exact group ≡ false → hex_digit group ≡ 88
group-inexact group e = by (list_all is_binary group) (list_all (λ c. c == 90) group) (list_all (λ c. c == 88) group) e where
  by : (x y z : Bool) → x || (y || z) ≡ false → (if x then digit_glyph true (group_value group) else (if y then 90 else 88)) ≡ 88
  by true y z t = cc
  by false true z t = cc
  by false false z t = refl

-- the characters of elements stand for them, behind filled places
places-back : (ty : Subtype) (filled : ℕ) (v : List ℤ) → IsSubtype ty → is_bit_or_logic ty.base ≡ true → Each ty v → places ty filled (replicate filled 48 ++ map (character_at ty.base) v) ≡ Some v
places-back ty zero [] s e w = refl
places-back ty zero (n ∷ ns) s e w =
    ap (λ o. before o (places ty 0 (map (character_at ty.base) ns))) (character-back ty n s e w.0) ∙ ap (before (Some n)) (places-back ty zero ns s e w.1)
places-back ty (suc filled) v s e w = places-back ty filled v s e w

-- a character is that of the element which it stands for
character-is : (ty : Subtype) (c : ℕ) (n : ℤ) → character ty c ≡ Some n → character_at ty.base n ≡ c
character-is ty c n e = by (position (λ other. other == c) (characters_of ty.base)) refl e where
  by : (o : Option ℕ) → position (λ other. other == c) (characters_of ty.base) ≡ o → option_and_then (λ m. number ty (pos m)) o ≡ Some n → character_at ty.base n ≡ c
  by None t e = cc
  by (Some m) t e =
      let p = position-Some (λ other. other == c) (characters_of ty.base) m 0 t in
      let i = number-is ty (pos m) n e in
      ap (character_at ty.base) i.0 ∙ eqb-true _ _ p.1

places-are : (ty : Subtype) (cs : List ℕ) (v : List ℤ) → places ty 0 cs ≡ Some v → map (character_at ty.base) v ≡ cs
places-are ty [] v e = let s : [] ≡ v = cc in rw (← s) refl
places-are ty (c ∷ cs) v e =
    let b = before-ok (character ty c) (places ty 0 cs) v e in
    rw (b.4, character-is ty c b.0 b.2, places-are ty cs b.1 b.3) refl

-- what 'X' stands for has an exact group
x-exact : (ty : Subtype) (filled : ℕ) (v : List ℤ) → digit ty filled 88 ≡ Some v → is_exact (replicate filled 48 ++ map (character_at ty.base) v) ≡ true
x-exact ty zero v d = rw (places-are ty (88 ∷ 88 ∷ 88 ∷ 88 ∷ []) v d) refl
x-exact ty (suc filled) v d = cc

-- the characters of a group, the first so many places filled
abbrev group : Subtype → ℕ → List ℤ → List ℕ
group ty filled v = replicate filled 48 ++ map (character_at ty.base) v

group-size : (ty : Subtype) (filled : ℕ) (v : List ℤ) → length v + filled ≡ 4 → length (group ty filled v) ≡ 4
group-size ty filled v h =
    simp (length-append, length-map, length-replicate) (omega arith)

-- a digit stands for the elements of its group exactly where the group is exact
digit-exact : (ty : Subtype) (filled : ℕ) (v : List ℤ) → IsSubtype ty → is_bit_or_logic ty.base ≡ true → Each ty v → length v + filled ≡ 4 → (digit ty filled (hex_digit (group ty filled v)) ≡ Some v) ↔ (is_exact (group ty filled v) ≡ true)
digit-exact ty filled v s e w h = (only (is_exact (group ty filled v)) refl, if_exact) where
  if_exact : is_exact (group ty filled v) ≡ true → digit ty filled (hex_digit (group ty filled v)) ≡ Some v
  if_exact t =
      ap (option_and_then (places ty filled)) (group-exact (group ty filled v) (group-size ty filled v h) t) ∙ places-back ty filled v s e w

  only : (b : Bool) → is_exact (group ty filled v) ≡ b → digit ty filled (hex_digit (group ty filled v)) ≡ Some v → is_exact (group ty filled v) ≡ true
  only true t d = t
  only false t d = x-exact ty filled v (ap (digit ty filled) (sym (group-inexact (group ty filled v) t)) ∙ d)

-- lists that begin with as many elements
same-front : (xs ys us vs : List ℤ) → xs ++ ys ≡ us ++ vs → length xs ≡ length us → (xs ≡ us) × (ys ≡ vs)
same-front [] ys [] vs e h = (refl, e)
same-front [] ys (u ∷ us) vs e h = absurd (omega arith)
same-front (x ∷ xs) ys [] vs e h = absurd (omega arith)
same-front (x ∷ xs) ys (u ∷ us) vs e h =
    let tails : xs ++ ys ≡ us ++ vs = cc in
    let sizes : length xs ≡ length us = omega arith in
    let ih = same-front xs ys us vs tails sizes in
    let heads : x ≡ u = cc in
    (rw (heads, ih.0) refl, ih.1)

-- a member and the rest are read back exactly where each is
combine : (n : ℕ) (m : Option (List ℤ)) (ms : List (Option (List ℤ))) (front rest : List ℤ) (x xs : Bool) → (m ≡ Some front) ↔ (x ≡ true) → ((us : List ℤ) → m ≡ Some us → length us ≡ length front) → (gathered n ms ≡ Ok rest) ↔ (xs ≡ true) → (gathered (suc n) (m ∷ ms) ≡ Ok (front ++ rest)) ↔ (x && xs ≡ true)
combine n m ms front rest x xs one size more = (only, back) where
  only : gathered (suc n) (m ∷ ms) ≡ Ok (front ++ rest) → x && xs ≡ true
  only e =
      let g = gathered-ok n m ms (front ++ rest) e in
      let f = same-front g.0 g.1 front rest (sym g.4) (size g.0 g.2) in
      rw (one.0 (g.2 ∙ ap Some f.0), more.0 (g.3 ∙ ap Ok f.1)) refl

  back : x && xs ≡ true → gathered (suc n) (m ∷ ms) ≡ Ok (front ++ rest)
  back t =
      ap (λ o. gathered (suc n) (o ∷ ms)) (one.1 (left-true x xs t)) ∙ ap (behind front) (more.1 (right-true x xs t))

-- a group before others
groups-step : (front rest : List ℕ) → length front ≡ 4 → groups (front ++ rest) ≡ front ∷ groups rest
groups-step [] rest h = absurd (omega arith)
groups-step (a ∷ []) rest h = absurd (omega arith)
groups-step (a ∷ b ∷ []) rest h = absurd (omega arith)
groups-step (a ∷ b ∷ c ∷ []) rest h = absurd (omega arith)
groups-step (a ∷ b ∷ c ∷ d ∷ []) rest h = refl
groups-step (a ∷ b ∷ c ∷ d ∷ e ∷ r) rest h = absurd (omega arith)

-- a first group and whole ones after it
first-step : (ty : Subtype) (n filled : ℕ) (front rest : List ℤ) → IsSubtype ty → is_bit_or_logic ty.base ≡ true → Each ty front → length front + filled ≡ 4 → (gathered n (map (digit ty 0) (map hex_digit (groups (map (character_at ty.base) rest)))) ≡ Ok rest) ↔ (list_all is_exact (groups (map (character_at ty.base) rest)) ≡ true) → (gathered (suc n) (digits ty filled (map hex_digit (groups (group ty filled front ++ map (character_at ty.base) rest)))) ≡ Ok (front ++ rest)) ↔ (list_all is_exact (groups (group ty filled front ++ map (character_at ty.base) rest)) ≡ true)
first-step ty n filled front rest s e w h more =
    rw (groups-step (group ty filled front) (map (character_at ty.base) rest) (group-size ty filled front h)) (combine n (digit ty filled (hex_digit (group ty filled front))) (map (digit ty 0) (map hex_digit (groups (map (character_at ty.base) rest)))) front rest (is_exact (group ty filled front)) (list_all is_exact (groups (map (character_at ty.base) rest))) (digit-exact ty filled front s e w h) (λ us t. (digit-part ty filled (hex_digit (group ty filled front)) us (length front) t h).count) more)

-- whole groups
whole-back : (ty : Subtype) (n : ℕ) (v : List ℤ) → IsSubtype ty → is_bit_or_logic ty.base ≡ true → Each ty v → length v ≡ 4 * n → (gathered n (map (digit ty 0) (map hex_digit (groups (map (character_at ty.base) v)))) ≡ Ok v) ↔ (list_all is_exact (groups (map (character_at ty.base) v)) ≡ true)
whole-back ty zero [] s e w h = (λ _. refl, λ _. refl)
whole-back ty zero (a ∷ v) s e w h = absurd (omega arith)
whole-back ty (suc n) [] s e w h = absurd (omega arith)
whole-back ty (suc n) (a ∷ []) s e w h = absurd (omega arith)
whole-back ty (suc n) (a ∷ b ∷ []) s e w h = absurd (omega arith)
whole-back ty (suc n) (a ∷ b ∷ c ∷ []) s e w h = absurd (omega arith)
whole-back ty (suc n) (a ∷ b ∷ c ∷ d ∷ rest) s e w h =
    first-step ty n 0 (a ∷ b ∷ c ∷ d ∷ []) rest s e (w.0, (w.1.0, (w.1.1.0, (w.1.1.1.0, tt)))) refl (whole-back ty n rest s e w.1.1.1.1 (omega arith))

each-split : (ty : Subtype) (xs ys : List ℤ) → Each ty (xs ++ ys) → Each ty xs × Each ty ys
each-split ty [] ys w = (tt, w)
each-split ty (x ∷ xs) ys w = let t = each-split ty xs ys w.1 in ((w.0, t.0), t.1)

-- a list that isn't empty has its first group and whole ones after it
some-back : (ty : Subtype) (f m : ℕ) (front rest : List ℤ) (text : List ℕ) → IsSubtype ty → is_bit_or_logic ty.base ≡ true → Each ty (front ++ rest) → length front + f ≡ 4 → length rest ≡ 4 * m → text ≡ group ty f front ++ map (character_at ty.base) rest → (gathered (suc m) (digits ty f (map hex_digit (groups text))) ≡ Ok (front ++ rest)) ↔ (list_all is_exact (groups text) ≡ true)
some-back ty f m front rest text s e w hf hr et =
    let parts = each-split ty front rest w in
    rw et (first-step ty m f front rest s e parts.0 hf (whole-back ty m rest s e parts.1 hr))

filled-split : (ty : Subtype) (v : List ℤ) (n k : ℕ) → length v ≡ n → filled (literal_text ty.base v) ≡ group ty (filling n) (take k v) ++ map (character_at ty.base) (drop k v)
filled-split ty v n k h =
    let text = map (character_at ty.base) v in
    let size : length text ≡ n = simp length-map h in
    let split : text ≡ map (character_at ty.base) (take k v) ++ map (character_at ty.base) (drop k v) = ap (map (character_at ty.base)) (sym (take-append-drop k v)) ∙ map-append (character_at ty.base) (take k v) (drop k v) in
    ap (λ l. replicate (filling l) 48 ++ text) size ∙ ap (λ t. replicate (filling n) 48 ++ t) split ∙ sym (append_assoc (replicate (filling n) 48) (map (character_at ty.base) (take k v)) (map (character_at ty.base) (drop k v)))

front-length : (v : List ℤ) (n f m : ℕ) → length v ≡ n → f ≤ 3 → n + f ≡ 4 * (m + 1) → length (take (4 - f) v) + f ≡ 4
front-length v n f m h few all = omega (arith, length-take {A = ℤ} (4 - f) v)

rest-length : (v : List ℤ) (n f m : ℕ) → length v ≡ n → f ≤ 3 → n + f ≡ 4 * (m + 1) → length (drop (4 - f) v) ≡ 4 * m
rest-length v n f m h few all = omega (arith, length-drop (4 - f) v)

hex-back : (ty : Subtype) (v : List ℤ) (n : ℕ) → IsSubtype ty → is_bit_or_logic ty.base ≡ true → Each ty v → length v ≡ n → (gathered ((n + 3) / 4) (digits ty (filling n) (map hex_digit (groups (filled (literal_text ty.base v))))) ≡ Ok v) ↔ (list_all is_exact (groups (filled (literal_text ty.base v))) ≡ true)
hex-back ty [] n s e w h = let z : n ≡ 0 = omega arith in rw z (λ _. refl, λ _. refl)
hex-back ty (a ∷ rest) n s e w h =
    let v = a ∷ rest in
    let f = filling n in
    let k = 4 - f in
    let few = filling-le n in
    let all = filling-wanted n in
    let some : 0 < n = omega arith in
    let m = (n + 3) / 4 - 1 in
    let wanted : (n + 3) / 4 ≡ suc m = omega arith in
    let both = take-append-drop k v in
    let total : n + f ≡ 4 * (m + 1) = omega arith in
    let w' : Each ty (take k v ++ drop k v) = rw both w in
    let r = some-back ty f m (take k v) (drop k v) (filled (literal_text ty.base v)) s e w' (front-length v n f m h few total) (rest-length v n f m h few total) (filled-split ty v n k h) in
    rw wanted (rw both at r)

pub hex-reads-back : (ty : Subtype) (v : List ℤ) → IsSubtype ty → Fits ty v → is_bit_or_logic ty.base ≡ true → (gathered ((element_count ty + 3) / 4) (digits ty (filling (element_count ty)) (map hex_digit (groups (filled (literal_text ty.base v))))) ≡ Ok v) ↔ (list_all is_exact (groups (filled (literal_text ty.base v))) ≡ true)
hex-reads-back ty v s fits e = hex-back ty v (element_count ty) s e (all-each ty v fits.within) fits.count
