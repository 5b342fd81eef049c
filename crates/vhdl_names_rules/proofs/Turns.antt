-- One turn of a loop that takes the items of a list from the end of its reverse.
use Rattle.std.proofs.Common.{◌≡◌, List, [], ◌∷◌, ◌++◌, reverse, ap, sym, ◌∙◌, append_assoc, append-nil}
use Rattle.std.specs.List.{flat_map}
use Rattle.std.proofs.lemmas.List.{reverse-append, reverse-reverse}

-- the reverse of a list of which the last is taken
pub popped : {A : Type 0} (all rest : List A) (x : A) → all ≡ rest ++ x ∷ [] → reverse all ≡ x ∷ reverse rest
popped all rest x e = ap reverse e ∙ reverse-append rest (x ∷ [])

pub turn : {A B : Type 0} (f : A → List B) (so_far next whole : List B) (all rest : List A) (x : A)
    → all ≡ rest ++ x ∷ [] → next ≡ so_far ++ f x → so_far ++ flat_map f (reverse all) ≡ whole
    → next ++ flat_map f (reverse rest) ≡ whole
turn f so_far next whole all rest x e n h =
    ap (λ ys. ys ++ flat_map f (reverse rest)) n ∙ append_assoc so_far (f x) (flat_map f (reverse rest))
    ∙ ap (λ xs. so_far ++ flat_map f xs) (sym (popped all rest x e)) ∙ h

-- the end of the loop
pub done : {A B : Type 0} (f : A → List B) (so_far whole : List B) (all : List A)
    → all ≡ [] → so_far ++ flat_map f (reverse all) ≡ whole → so_far ≡ whole
done f so_far whole all e h = sym (ap (λ xs. so_far ++ flat_map f (reverse xs)) e ∙ append-nil so_far) ∙ h

-- the beginning
pub begun : {A B : Type 0} (f : A → List B) (items all : List A) → all ≡ reverse items → flat_map f (reverse all) ≡ flat_map f items
begun f items all e = ap (flat_map f) (ap reverse e ∙ reverse-reverse items)
