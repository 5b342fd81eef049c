use Rattle.std.proofs.Common.{◌≡◌, ℕ, zero, suc, ◌+◌, ◌<◌, List, [], ◌∷◌, ◌++◌, length, take, map, get_or, refl, sym, ◌∙◌, ap, append_assoc, arith, ℤ, ◌==◌, if◌then◌else◌}
use Rattle.std.specs.List.{join_with_byte}
use Rattle.std.specs.Fmt.{signed_decimal}
use Rattle.std.proofs.lemmas.Bool.Decides.{nat_tests}
use Rattle.std.proofs.lemmas.List.{take_more, map-append}

-- what stands between these pieces and one more
abbrev between : List (List ℕ) → List ℕ
between [] = []
between (_ ∷ _) = 44 ∷ []

join-push : (ps : List (List ℕ)) (p : List ℕ) → join_with_byte 44 (ps ++ p ∷ []) ≡ join_with_byte 44 ps ++ between ps ++ p
join-push [] p = refl
join-push (x ∷ []) p = sym (append_assoc x (44 ∷ []) p)
join-push (x ∷ y ∷ ps) p =
    ap (λ l. x ++ (44 ∷ l)) (join-push (y ∷ ps) p) ∙ simp append_assoc

between-numbers : (xs : List ℤ) (i : ℕ) → i < length xs → between (map signed_decimal (take i xs)) ≡ (if i == 0 then [] else 44 ∷ [])
between-numbers xs zero h = refl
between-numbers [] (suc i) h = absurd (omega arith)
between-numbers (x ∷ xs) (suc i) h = grind (arith, nat_tests)

-- one more number of a list
pub numbers-more : (xs : List ℤ) (i : ℕ) (d : ℤ) → i < length xs → join_with_byte 44 (map signed_decimal (take (i + 1) xs)) ≡ join_with_byte 44 (map signed_decimal (take i xs)) ++ (if i == 0 then [] else 44 ∷ []) ++ signed_decimal (get_or xs i d)
numbers-more xs i d h =
    ap (λ l. join_with_byte 44 (map signed_decimal l)) (take_more xs i d h) ∙ ap (join_with_byte 44) (map-append signed_decimal (take i xs) (get_or xs i d ∷ [])) ∙ join-push (map signed_decimal (take i xs)) (signed_decimal (get_or xs i d)) ∙ ap (λ b. join_with_byte 44 (map signed_decimal (take i xs)) ++ b ++ signed_decimal (get_or xs i d)) (between-numbers xs i h)
