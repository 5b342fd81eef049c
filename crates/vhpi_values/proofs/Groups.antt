use Rattle.std.proofs.Common.{◌≡◌, ℕ, List, [], ◌∷◌, ◌++◌, refl, sym, ◌∙◌, ap, append_assoc, ℤ, Option, Some, None, option_map, map}
use Rattle.vhpi_values.specs.Types.{Subtype}
use Rattle.vhpi_values.specs.Reading.{character, places, before, digit, digits}

-- elements before those that are read after them
abbrev pub onto : List ℤ → Option (List ℤ) → Option (List ℤ)
onto xs read = option_map (λ more. xs ++ more) read

-- what is left of a group, and what has been read so far
pub record GroupSoFar (ty : Subtype) (xs : List ℤ) (filled : ℕ) (cs : List ℕ) (total : Option (List ℤ)) : Type 0 where
  pub is : onto xs (places ty filled cs) ≡ total

pub group-starts : (ty : Subtype) (filled : ℕ) (cs : List ℕ) → GroupSoFar ty [] filled cs (places ty filled cs)
group-starts ty filled cs = record { is = same (places ty filled cs) } where
  same : (read : Option (List ℤ)) → onto [] read ≡ read
  same None = refl
  same (Some more) = refl

onto-before : (xs : List ℤ) (n : ℤ) (read : Option (List ℤ)) → onto xs (before (Some n) read) ≡ onto (xs ++ n ∷ []) read
onto-before xs n None = refl
onto-before xs n (Some more) = ap Some (sym (append_assoc xs (n ∷ []) more))

pub group-misfit : (ty : Subtype) (xs : List ℤ) (filled : ℕ) (cs more : List ℕ) (c : ℕ) (total : Option (List ℤ)) → GroupSoFar ty xs filled cs total → filled ≡ 0 → cs ≡ c ∷ more → character ty c ≡ None → None ≡ total
group-misfit ty xs filled cs more c total s ef ec e =
    sym (ap (λ read. onto xs (before read (places ty 0 more))) e) ∙ ap (λ l. onto xs (places ty 0 l)) (sym ec) ∙ ap (λ f. onto xs (places ty f cs)) (sym ef) ∙ s.is

pub group-fits : (ty : Subtype) (xs : List ℤ) (filled : ℕ) (cs more : List ℕ) (c : ℕ) (n : ℤ) (total : Option (List ℤ)) → GroupSoFar ty xs filled cs total → filled ≡ 0 → cs ≡ c ∷ more → character ty c ≡ Some n → GroupSoFar ty (xs ++ n ∷ []) filled more total
group-fits ty xs filled cs more c n total s ef ec e =
    record {
      is =
          ap (λ f. onto (xs ++ n ∷ []) (places ty f more)) ef ∙ sym (onto-before xs n (places ty 0 more)) ∙ sym (ap (λ read. onto xs (before read (places ty 0 more))) e) ∙ ap (λ l. onto xs (places ty 0 l)) (sym ec) ∙ ap (λ f. onto xs (places ty f cs)) (sym ef) ∙ s.is;
    }

-- digits after the leftmost one have no filled places
pub digits-later : (ty : Subtype) (ds : List ℕ) → map (digit ty 0) ds ≡ digits ty 0 ds
digits-later ty [] = refl
digits-later ty (d ∷ ds) = refl
