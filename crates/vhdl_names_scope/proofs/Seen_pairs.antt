-- Lemmas on two names in regions.
use Rattle.std.proofs.Common.{◌≡◌, ℕ, ◌<◌, ◌≤◌, ◌+◌, Bool, true, false, List, [], ◌∷◌, ◌++◌, refl, sym, ◌∙◌, ap, subst, length, take, get_or, filter, Option, if◌then◌else◌, arith, append-nil}
use Rattle.std.specs.Prelude.{Some, None, is_some, map, reverse}
use Rattle.std.specs.List.{list_any, flat_map}
use Rattle.std.proofs.lemmas.List.{reverse-append, take_all, append_assoc}
use Rattle.std.proofs.lemmas.Grind.{take_at_read}
use Rattle.vhdl_units.specs.declared.base_type.BaseType.{BaseType}
use Rattle.vhdl_units.specs.declared.entry.Entry.{Entry}
use Rattle.vhdl_units.specs.declared.entry.Entry.TheVariants as entry
use Rattle.vhdl_units.specs.Entries.{is_literal}
use Rattle.vhdl_names_overloads.specs.Hiding.{met, overloaded}
use Rattle.vhdl_names_overloads.specs.Literals.{literal_type, literal_types, is_other, first_other}
use Rattle.vhdl_names_overloads.specs.Sharing.{TypesOfTwo}
use Rattle.vhdl_names_overloads.proofs.Both.{types_append, same_types}
use Rattle.vhdl_names_overloads.proofs.Lists.{met_other, met_literals, some_other}
use Rattle.vhdl_names_scope.specs.Declarations.{Named, own}
use Rattle.vhdl_names_scope.specs.Hiding.{seen}
use Rattle.vhdl_names_scope.specs.Nesting.{OpenRegion, Nested, single, regions_in, regions}
use Rattle.vhdl_names_scope.specs.Pairs.{Sees, BothSeen}
use Rattle.vhdl_names_scope.proofs.Lists.{own_append, seen_append, overloaded_some}

-- ---- the types of literals in one region

literals_alone : (entries : List Entry) → literal_types (filter is_literal entries) ≡ literal_types entries
unfolding literal_types literal_type
literals_alone [] = refl
literals_alone (entry.Literal t n ∷ entries) = ap (λ ts. t ∷ ts) (literals_alone entries)
literals_alone (entry.Subtype mark ∷ entries) = literals_alone entries
literals_alone (entry.Object o ∷ entries) = literals_alone entries
literals_alone (entry.Function f ∷ entries) = literals_alone entries
literals_alone (entry.Unit u ∷ entries) = literals_alone entries
literals_alone (entry.Label l ∷ entries) = literals_alone entries

overloaded_types : (entries found : List Entry) → literal_types (overloaded entries found) ≡ literal_types entries ++ literal_types found
unfolding literal_types
overloaded_types [] found = refl
overloaded_types (x ∷ xs) found = ap literal_types (overloaded_some x xs found) ∙ types_append (x ∷ xs) (filter is_literal found) ∙ ap (λ ts. literal_types (x ∷ xs) ++ ts) (literals_alone found)

no_type : (b : Bool) (e : Entry) → is_literal e ≡ b → b ≡ false → literal_types (e ∷ []) ≡ []
unfolding literal_types literal_type
no_type b (entry.Literal t p) h k = absurd (let n : true ≡ false = h ∙ k in cc)
no_type b (entry.Subtype mark) h k = refl
no_type b (entry.Object o) h k = refl
no_type b (entry.Function f) h k = refl
no_type b (entry.Unit u) h k = refl
no_type b (entry.Label l) h k = refl

found_other : (entries : List Entry) (e : Entry) → first_other entries ≡ Some e → is_literal e ≡ false
found_other [] e h = absurd cc
found_other (x ∷ xs) e h = grind (arith, found_other xs e)

met_types_at : (entries found : List Entry) (o : Option Entry) → first_other entries ≡ o
    → literal_types (met entries found) ≡ (if is_some o then [] else literal_types entries ++ literal_types found)
met_types_at entries found None h = ap literal_types (met_literals entries found h) ∙ overloaded_types entries found
met_types_at entries found (Some e) h = ap literal_types (met_other entries found e h) ∙ no_type (is_literal e) e refl (found_other entries e h)

met_types : (entries found : List Entry) → literal_types (met entries found) ≡ (if list_any is_other entries then [] else literal_types entries ++ literal_types found)
met_types entries found =
    met_types_at entries found (first_other entries) refl
    ∙ ap (λ b. if b then [] else literal_types entries ++ literal_types found) (some_other entries)

pub one_sees : (name : List ℕ) (region : List Named) (around within : List BaseType) (entries : List Entry) (b : Bool)
    → entries ≡ own name region → b ≡ list_any is_other entries → within ≡ (if b then [] else literal_types entries ++ around) → Sees name (region ∷ []) around within
one_sees name region around within entries b e o w found h =
    w ∙ ap (λ ts. if b then [] else literal_types entries ++ ts) h
    ∙ ap (λ x. if x then [] else literal_types entries ++ literal_types found) o
    ∙ sym (met_types entries found) ∙ ap (λ xs. literal_types (met xs found)) e

-- a region that goes on another
pub two_see : (name : List ℕ) (base more : List Named) (around within : List BaseType) (first second : List Entry) (b : Bool)
    → first ≡ own name base → second ≡ own name more → b ≡ list_any is_other (own name (base ++ more))
    → within ≡ (if b then [] else literal_types first ++ (literal_types second ++ around)) → Sees name ((base ++ more) ∷ []) around within
two_see name base more around within first second b f s o w =
    one_sees name (base ++ more) around within (own name (base ++ more)) b refl o
    (w ∙ ap (λ ts. if b then [] else ts)
    (sym (append_assoc (literal_types first) (literal_types second) around)
    ∙ ap (λ ts. ts ++ around) (sym (types_append first second)
    ∙ ap (λ xs. literal_types (xs ++ second)) f ∙ ap (λ xs. literal_types (own name base ++ xs)) s ∙ ap literal_types (sym (own_append name base more)))))

-- ---- regions in regions

sees_in : (name : List ℕ) (xs ys : List (List Named)) (a b c : List BaseType) → Sees name xs b c → Sees name ys a b → Sees name (xs ++ ys) a c
sees_in name xs ys a b c inner outer found h = inner (seen name ys found) (outer found h) ∙ ap literal_types (sym (seen_append name xs ys found))

both_in : (left right : List ℕ) (xs ys : List (List Named)) (a b c : TypesOfTwo) → BothSeen left right xs b c → BothSeen left right ys a b → BothSeen left right (xs ++ ys) a c
both_in left right xs ys a b c inner outer = record {
  left_seen = sees_in left xs ys a.left b.left c.left inner.left_seen outer.left_seen;
  right_seen = sees_in right xs ys a.right b.right c.right inner.right_seen outer.right_seen;
}

pub none_between : (left right : List ℕ) (a : TypesOfTwo) → BothSeen left right [] a a
none_between left right a = record { left_seen = λ found h. h; right_seen = λ found h. h }

pub loop_more : (left right : List ℕ) (items : List Named) (i : ℕ) (x : Named) (a b c : TypesOfTwo) → i < length items → x ≡ get_or items i x
    → BothSeen left right (map single (reverse (take i items))) a b → BothSeen left right ((x ∷ []) ∷ []) b c → BothSeen left right (map single (reverse (take (i + 1) items))) a c
loop_more left right items i x a b c h is outer inner =
    let t : take (i + 1) items ≡ take i items ++ x ∷ [] = (take_at_read items i x h).1 ∙ ap (λ (y : Named). take i items ++ y ∷ []) (sym is) in
    rw (t, reverse-append) (both_in left right ((x ∷ []) ∷ []) (map single (reverse (take i items))) a b c inner outer)

pub loops_all : (left right : List ℕ) (items : List Named) (i : ℕ) (r : List Named) (a b c : TypesOfTwo) → length items ≤ i
    → BothSeen left right (r ∷ []) a b → BothSeen left right (map single (reverse (take i items))) b c → BothSeen left right (map single (reverse items) ++ r ∷ []) a c
loops_all left right items i r a b c h outer inner =
    both_in left right (map single (reverse items)) (r ∷ []) a b c (subst (λ xs. BothSeen left right (map single (reverse xs)) b c) (take_all i items h) inner) outer

pub region_more : (left right : List ℕ) (items : List OpenRegion) (i : ℕ) (x : OpenRegion) (a b c : TypesOfTwo) → i < length items → x ≡ get_or items i x
    → BothSeen left right (flat_map regions_in (reverse (take i items))) a b → BothSeen left right (regions_in x) b c
    → BothSeen left right (flat_map regions_in (reverse (take (i + 1) items))) a c
region_more left right items i x a b c h is outer inner =
    let t : take (i + 1) items ≡ take i items ++ x ∷ [] = (take_at_read items i x h).1 ∙ ap (λ (y : OpenRegion). take i items ++ y ∷ []) (sym is) in
    rw (t, reverse-append) (both_in left right (regions_in x) (flat_map regions_in (reverse (take i items))) a b c inner outer)

pub regions_all : (left right : List ℕ) (items : List OpenRegion) (i : ℕ) (inner : OpenRegion) (a b c : TypesOfTwo) → length items ≤ i
    → a ≡ record { left = []; right = [] } → BothSeen left right (flat_map regions_in (reverse (take i items))) a b → BothSeen left right (regions_in inner) b c
    → c ≡ record { left = literal_types (seen left (flat_map regions_in (inner ∷ reverse items)) []); right = literal_types (seen right (flat_map regions_in (inner ∷ reverse items)) []) }
unfolding literal_types
regions_all left right items i inner a b c h none outer within =
    let all : BothSeen left right (flat_map regions_in (reverse items)) a b = subst (λ xs. BothSeen left right (flat_map regions_in (reverse xs)) a b) (take_all i items h) outer in
    let both : BothSeen left right (regions_in inner ++ flat_map regions_in (reverse items)) a c = both_in left right (regions_in inner) (flat_map regions_in (reverse items)) a b c within all in
    same_types c.left _ c.right _ (both.left_seen [] (ap (λ t. t.left) none)) (both.right_seen [] (ap (λ t. t.right) none))
