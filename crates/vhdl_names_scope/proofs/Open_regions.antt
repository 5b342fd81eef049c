-- Lemmas on the loops over open regions, which stand the outermost first in the code.
use Rattle.std.proofs.Common.{◌≡◌, ℕ, ◌<◌, ◌≤◌, ◌+◌, List, [], ◌∷◌, ◌++◌, sym, ◌∙◌, ap, length, take, get_or}
use Rattle.std.specs.Prelude.{map, reverse}
use Rattle.std.specs.List.{flat_map}
use Rattle.std.proofs.lemmas.List.{reverse-append, take_all}
use Rattle.std.proofs.lemmas.Grind.{take_at_read}
use Rattle.vhdl_units.specs.declared.entry.Entry.{Entry}
use Rattle.vhdl_names_scope.specs.Declarations.{Named, own}
use Rattle.vhdl_names_overloads.specs.Hiding.{met}
use Rattle.vhdl_names_scope.specs.Hiding.{seen}
use Rattle.vhdl_names_scope.specs.Nesting.{OpenRegion, single, regions_in}
use Rattle.vhdl_names_scope.proofs.Lists.{seen_append}

-- all loops of a region were gone through
pub loops_seen : (name : List ℕ) (items : List Named) (i : ℕ) (r : List Named) (found begun now : List Entry)
    → length items ≤ i → begun ≡ met (own name r) found → now ≡ seen name (map single (reverse (take i items))) begun
    → now ≡ seen name (map single (reverse items) ++ r ∷ []) found
loops_seen name items i r found begun now h b n =
    n ∙ ap (λ xs. seen name (map single (reverse xs)) begun) (take_all i items h) ∙ ap (seen name (map single (reverse items))) b
    ∙ sym (seen_append name (map single (reverse items)) (r ∷ []) found)

-- one more region was gone through
pub one_more_seen : (name : List ℕ) (items : List OpenRegion) (i : ℕ) (x : OpenRegion) (found now : List Entry)
    → i < length items → x ≡ get_or items i x → found ≡ seen name (flat_map regions_in (reverse (take i items))) []
    → now ≡ seen name (regions_in x) found → now ≡ seen name (flat_map regions_in (reverse (take (i + 1) items))) []
one_more_seen name items i x found now h is f n =
    let t : take (i + 1) items ≡ take i items ++ x ∷ [] = (take_at_read items i x h).1 ∙ ap (λ (y : OpenRegion). take i items ++ y ∷ []) (sym is) in
    rw (t, reverse-append) (n ∙ ap (seen name (regions_in x)) f ∙ sym (seen_append name (regions_in x) (flat_map regions_in (reverse (take i items))) []))

-- all were
pub all_seen : (name : List ℕ) (items : List OpenRegion) (i : ℕ) (inner : OpenRegion) (found : List Entry)
    → length items ≤ i → found ≡ seen name (flat_map regions_in (reverse (take i items))) []
    → seen name (regions_in inner) found ≡ seen name (flat_map regions_in (inner ∷ reverse items)) []
all_seen name items i inner found h f =
    ap (seen name (regions_in inner)) (f ∙ ap (λ xs. seen name (flat_map regions_in (reverse xs)) []) (take_all i items h))
    ∙ sym (seen_append name (regions_in inner) (flat_map regions_in (reverse items)) [])
