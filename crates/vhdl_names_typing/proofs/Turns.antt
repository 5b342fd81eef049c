-- One turn of a loop over a list: what is told so far, with what the rest tells, is what all tell.
use Rattle.std.proofs.Common.{◌≡◌, ℕ, ◌+◌, ◌<◌, List, [], ◌∷◌, ◌++◌, length, get_or, map, drop, sym, ap, ◌∙◌, drop-cons, append_assoc, arith, rules, add-one, suc}
use Rattle.vhdl_tree.specs.declared.expressions.Link.{Link, the_lemmas}
use Rattle.vhdl_units.specs.declared.entry.Entry.{Entry}
use Rattle.vhdl_tokens.specs.declared.token.Token.{Token}
use Rattle.vhdl_names_typing.specs.Expressions.{joined, joined_by}
use Rattle.vhdl_names_typing.specs.Trees.{told, told_link}
use Rattle.vhdl_names_typing.specs.declared.told.Told.{Told}

-- the rest begins with the element of this turn
rest_is : {A : Type 0} (xs : List A) (i : ℕ) (x : A) → i < length xs → x ≡ get_or xs i x → drop i xs ≡ x ∷ drop (i + 1) xs
rest_is xs i x within is = rw (add-one i) (drop-cons xs i x within ∙ ap (λ y. y ∷ drop (suc i) xs) (sym is))

pub one_more : {A B : Type 0} (f : A → B) (xs : List A) (i : ℕ) (x : A) (done pushed all : List B) (y : B) → i < length xs → x ≡ get_or xs i x → y ≡ f x → pushed ≡ done ++ y ∷ [] → done ++ map f (drop i xs) ≡ all → pushed ++ map f (drop (i + 1) xs) ≡ all
one_more f xs i x done pushed all y within is told more before =
    let rest = rest_is xs i x within is in
    rw (more, told) (append_assoc done (f x ∷ []) (map f (drop (i + 1) xs)) ∙ sym (ap (λ ys. done ++ map f ys) rest) ∙ before)

link_is : (text : List ℕ) (look : Token → List Entry) (l : Link) → told_link text look l ≡ record { operator = l.operator; right = told text look l.right }
link_is text look l = first_of (search (rules, the_lemmas), grind (arith, the_lemmas))

pub one_more_link : (text : List ℕ) (look : Token → List Entry) (links : List Link) (i : ℕ) (link : Link) (so_far next all right : Told) → i < length links → link ≡ get_or links i link → right ≡ told text look link.right → next ≡ joined so_far link.operator right → joined_by so_far (map (told_link text look) (drop i links)) ≡ all → joined_by next (map (told_link text look) (drop (i + 1) links)) ≡ all
unfolding joined_by
one_more_link text look links i link so_far next all right within is right_is next_is before =
    let rest = rest_is links i link within is in
    let step : joined_by so_far (map (told_link text look) (drop i links)) ≡ joined_by (joined so_far (told_link text look link).operator (told_link text look link).right) (map (told_link text look) (drop (i + 1) links)) =
    ap (λ ls. joined_by so_far (map (told_link text look) ls)) rest in
    let same : next ≡ joined so_far (told_link text look link).operator (told_link text look link).right =
    next_is ∙ ap (joined so_far link.operator) right_is ∙ sym (ap (λ l. joined so_far l.operator l.right) (link_is text look link)) in
    ap (λ n. joined_by n (map (told_link text look) (drop (i + 1) links))) same ∙ sym step ∙ before
