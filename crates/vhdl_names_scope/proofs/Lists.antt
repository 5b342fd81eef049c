-- Lemmas on the lists of declarations and entries.
use Rattle.std.proofs.Common.{◌≡◌, ℕ, ◌-◌, Bool, true, List, [], ◌∷◌, ◌++◌, ◌⊎◌, inl, inr, refl, ◌∙◌, ap, arith, length, take, not, filter, find, Option}
use Rattle.std.specs.Prelude.{Some, None, is_none, option_to_list, slice_get}
use Rattle.std.specs.List.{list_all, last_or}
use Rattle.vhdl_units.specs.declared.entry.Entry.{Entry}
use Rattle.vhdl_units.specs.Entries.{is_literal}
use Rattle.vhdl_names_overloads.specs.Literals.{first_other}
use Rattle.vhdl_names_overloads.specs.Hiding.{met, overloaded}
use Rattle.vhdl_names_overloads.proofs.Lists.{met_other, met_literals, all_literals, filter_both, filter_twice, filter_all, all_both, all_filter}
use Rattle.vhdl_names_scope.specs.Declarations.{Named, own}
use Rattle.vhdl_names_scope.specs.Hiding.{seen}

-- what two regions in one say of a name
pub own_append : (name : List ℕ) (xs ys : List Named) → own name (xs ++ ys) ≡ own name xs ++ own name ys
own_append name [] ys = refl
own_append name (x ∷ xs) ys = grind (arith, own_append name xs ys)

-- regions behind regions
pub seen_append : (name : List ℕ) (xs ys : List (List Named)) (found : List Entry) → seen name (xs ++ ys) found ≡ seen name xs (seen name ys found)
seen_append name [] ys found = refl
seen_append name (x ∷ xs) ys found = ap (met (own name x)) (seen_append name xs ys found)

-- one entry, or literals alone
abbrev pub Alone : List Entry → Type 0
Alone entries = (list_all is_literal entries ≡ true) ⊎ (length entries ≡ 1)

pub overloaded_some : (x : Entry) (xs found : List Entry) → overloaded (x ∷ xs) found ≡ (x ∷ xs) ++ filter is_literal found
overloaded_some x xs found = grind arith

overloaded_alone : (entries found : List Entry) → list_all is_literal entries ≡ true → Alone found → Alone (overloaded entries found)
overloaded_alone [] found h f = f
overloaded_alone (x ∷ xs) found h f = inl (ap (list_all is_literal) (overloaded_some x xs found) ∙ all_both is_literal (x ∷ xs) (filter is_literal found) h (all_filter is_literal found))

met_alone_at : (entries found : List Entry) (o : Option Entry) → first_other entries ≡ o → Alone found → Alone (met entries found)
met_alone_at entries found None h f = rw (met_literals entries found h) (overloaded_alone entries found (all_literals entries h) f)
met_alone_at entries found (Some e) h f = rw (met_other entries found e h) (inr refl)

pub seen_alone : (name : List ℕ) (regions : List (List Named)) → Alone (seen name regions [])
seen_alone name [] = inl refl
seen_alone name (region ∷ around) = met_alone_at (own name region) (seen name around []) _ refl (seen_alone name around)

overloaded_literals : (entries found : List Entry) → list_all is_literal entries ≡ true → filter is_literal (overloaded entries found) ≡ entries ++ filter is_literal found
overloaded_literals [] found h = refl
overloaded_literals (x ∷ xs) found h =
    ap (filter is_literal) (overloaded_some x xs found) ∙ filter_both is_literal (x ∷ xs) (filter is_literal found)
    ∙ ap (λ ys. ys ++ filter is_literal (filter is_literal found)) (filter_all is_literal (x ∷ xs) h)
    ∙ ap (λ ys. (x ∷ xs) ++ ys) (filter_twice is_literal found)

-- literals hide no literal
pub met_keeps_literals : (entries found : List Entry) → first_other entries ≡ None → filter is_literal (met entries found) ≡ entries ++ filter is_literal found
met_keeps_literals entries found h = rw (met_literals entries found h) (overloaded_literals entries found (all_literals entries h))

pub met_undeclared : (entries found : List Entry) → entries ≡ [] → met entries found ≡ found
met_undeclared entries found h = rw h refl

-- the last of a list
pub last_here : {X : Type 0} (o : Option X) (x : X) (xs : List X) → slice_get (x ∷ xs) (length xs) ≡ last_or o (x ∷ xs)
last_here o x [] = refl
last_here o x (y ∷ ys) = last_here (Some x) y ys

pub last_some : {X : Type 0} (o : Option X) (xs : List X) (x : X) → Some x ≡ slice_get xs (length xs - 1) → Some x ≡ last_or o xs
last_some o [] x h = cc
last_some o (y ∷ ys) x h = grind (arith, last_here o y ys)

pub last_append : {X : Type 0} (o : Option X) (xs ys : List X) → last_or (last_or o xs) ys ≡ last_or o (xs ++ ys)
last_append o [] ys = refl
last_append o (x ∷ xs) ys = last_append (Some x) xs ys
