-- What is told of the types that two lists share, whatever their order.
use Rattle.std.proofs.Common.{◌≡◌, ◌<◌, ◌≤◌, ◌+◌, ◌==◌, length, take, get_or, ◌&&◌, ◌||◌, ℕ, Bool, true, false, List, [], ◌∷◌, ◌++◌, refl, sym, ap, subst, ◌∙◌, inl, inr, filter, Option, if◌then◌else◌, arith}
use Rattle.std.specs.Prelude.{Some, None, is_some}
use Rattle.std.specs.List.{list_any}
use Rattle.std.proofs.lemmas.List.{take_all}
use Rattle.std.proofs.lemmas.Grind.{take_at_read}
use Rattle.std.proofs.lemmas.List.Elements.{filter_map-append}
use Rattle.std.proofs.lemmas.Bool.{or_left, or_right, or_cases, eqb-true}
use Rattle.vhdl_units.specs.declared.base_type.BaseType.{BaseType}
use Rattle.vhdl_units.specs.declared.base_type.BaseType.TheVariants as base
use Rattle.vhdl_units.specs.declared.entry.Entry.{Entry}
use Rattle.vhdl_units.specs.Types.{is_discrete, same}
use Rattle.vhdl_names_overloads.specs.declared.shared.Shared.{Shared}
use Rattle.vhdl_names_overloads.specs.declared.shared.Shared.TheVariants as met
use Rattle.vhdl_names_overloads.specs.Finds.{flat}
use Rattle.vhdl_names_overloads.specs.Literals.{literal_type, literal_types, position_of}
use Rattle.vhdl_names_overloads.specs.Sharing.{one_more, all_more, is_shared, shared, together, TypesOfTwo, Below, VisibleApart}
use Rattle.vhdl_names_overloads.specs.Tables.{own_number, is_visible}
use Rattle.vhdl_names_overloads.proofs.Lists.{flat_push, has_literal, visible_position}
use Rattle.vhdl_names_overloads.proofs.Same.{same_self, same_is, any_filter, any_append}

-- what is told of the types that pass a test
abbrev Tells : (BaseType → Bool) → Shared → Type 0
Tells p met.Nothing = (u : BaseType) → p u ≡ false
Tells p (met.One t) = (p t ≡ true) × ((u : BaseType) → p u ≡ true → u ≡ t)
Tells p met.Several = (t : BaseType) × (u : BaseType) × (p t ≡ true) × (p u ≡ true) × (same t u ≡ false)

never : (b : Bool) → b ≡ true → b ≡ false → ⊥
never true h k = cc
never false h k = cc

-- it is told in one way alone
told_once : (p : BaseType → Bool) (s k : Shared) → Tells p s → Tells p k → s ≡ k
told_once p met.Nothing met.Nothing a b = refl
told_once p met.Nothing (met.One t) a b = absurd (never (p t) b.0 (a t))
told_once p met.Nothing met.Several a b = absurd (never (p b.0) b.2 (a b.0))
told_once p (met.One t) met.Nothing a b = absurd (never (p t) a.0 (b t))
told_once p (met.One t) (met.One u) a b = ap met.One (b.1 t a.0)
told_once p (met.One t) met.Several a b =
    absurd (never (same b.0 b.1) (ap (same b.0) (a.1 b.1 b.3 ∙ sym (a.1 b.0 b.2)) ∙ same_self b.0) b.4)
told_once p met.Several met.Nothing a b = absurd (never (p a.0) a.2 (b a.0))
told_once p met.Several (met.One t) a b =
    absurd (never (same a.0 a.1) (ap (same a.0) (b.1 a.1 a.3 ∙ sym (b.1 a.0 a.2)) ∙ same_self a.0) a.4)
told_once p met.Several met.Several a b = refl

told_as : (p q : BaseType → Bool) (s : Shared) → ((u : BaseType) → q u ≡ p u) → Tells p s → Tells q s
told_as p q met.Nothing e a = λ u. e u ∙ a u
told_as p q (met.One t) e a = (e t ∙ a.0, λ u h. a.1 u (sym (e u) ∙ h))
told_as p q met.Several e a = (a.0, a.1, e a.0 ∙ a.2, e a.1 ∙ a.3, a.4)

-- ---- of these and of those

or_false : (b : Bool) → (b || false) ≡ b
or_false true = refl
or_false false = refl

one_of_two : (p q : BaseType → Bool) (t u : BaseType) (b : Bool) → same t u ≡ b → Tells p (met.One t) → Tells q (met.One u)
    → Tells (λ v. p v || q v) (if b then met.One t else met.Several)
one_of_two p q t u true e a c = (
  or_left (p t) (q t) a.0,
  λ v h. elim (or_cases (p v) (q v) h) [
    | inl x ↦ a.1 v x
    | inr y ↦ c.1 v y ∙ sym (same_is t u e)
  ],
)
one_of_two p q t u false e a c = (t, u, or_left (p t) (q t) a.0, or_right (p u) (q u) c.0, e)

told_together : (p q : BaseType → Bool) (s k : Shared) → Tells p s → Tells q k → Tells (λ v. p v || q v) (together s k)
unfolding together
told_together p q met.Nothing k a c = told_as q (λ v. p v || q v) k (λ v. ap (λ b. b || q v) (a v)) c
told_together p q (met.One t) met.Nothing a c = told_as p (λ v. p v || q v) (met.One t) (λ v. ap (λ b. p v || b) (c v) ∙ or_false (p v)) a
told_together p q (met.One t) (met.One u) a c = one_of_two p q t u (same t u) refl a c
told_together p q (met.One t) met.Several a c = (c.0, c.1, or_right (p c.0) (q c.0) c.2, or_right (p c.1) (q c.1) c.3, c.4)
told_together p q met.Several k a c = (a.0, a.1, or_left (p a.0) (q a.0) a.2, or_left (p a.1) (q a.1) a.3, a.4)

-- ---- of a list

one_told : (t : BaseType) → Tells (λ u. same u t) (met.One t)
one_told t = (same_self t, λ u h. same_is u t h)

more_is_together : (s : Shared) (t : BaseType) → one_more s t ≡ together s (met.One t)
unfolding one_more together
more_is_together met.Nothing t = refl
more_is_together (met.One u) t = refl
more_is_together met.Several t = refl

or_assoc : (a b c : Bool) → (a || (b || c)) ≡ ((a || b) || c)
or_assoc true b c = refl
or_assoc false b c = refl

told_more : (p : BaseType → Bool) (s : Shared) (types : List BaseType) → Tells p s → Tells (λ u. p u || list_any (same u) types) (all_more s types)
unfolding all_more
told_more p s [] a = told_as p (λ u. p u || false) s (λ u. or_false (p u)) a
told_more p s (t ∷ types) a =
    told_as (λ u. (p u || same u t) || list_any (same u) types) (λ u. p u || (same u t || list_any (same u) types)) (all_more (one_more s t) types)
    (λ u. or_assoc (p u) (same u t) (list_any (same u) types))
    (told_more (λ u. p u || same u t) (one_more s t) types
    (subst (λ k. Tells (λ u. p u || same u t) k) (sym (more_is_together s t)) (told_together p (λ u. same u t) s (met.One t) a (one_told t))))

-- ---- of two lists

in_both : List BaseType → List BaseType → BaseType → Bool
in_both ls rs u = is_discrete u && (list_any (same u) ls && list_any (same u) rs)

turned : (a d b : Bool) → (d && (a && b)) ≡ (a && (d && b))
turned true d b = refl
turned false true b = refl
turned false false b = refl

told_shared : (ls rs : List BaseType) → Tells (in_both ls rs) (shared ls rs)
unfolding shared is_shared in_both
told_shared ls rs =
    told_as (λ u. false || list_any (same u) (filter (is_shared rs) ls)) (in_both ls rs) (all_more met.Nothing (filter (is_shared rs) ls))
    (λ u. turned (list_any (same u) ls) (is_discrete u) (list_any (same u) rs) ∙ sym (any_filter (is_shared rs) ls u))
    (told_more (λ u. false) met.Nothing (filter (is_shared rs) ls) (λ u. refl))

swapped : (d a b : Bool) → (d && (a && b)) ≡ (d && (b && a))
swapped false a b = refl
swapped true true true = refl
swapped true true false = refl
swapped true false true = refl
swapped true false false = refl

-- in either order
pub shared_turned : (ls rs : List BaseType) → shared rs ls ≡ shared ls rs
unfolding in_both
shared_turned ls rs =
    told_once (in_both ls rs) (shared rs ls) (shared ls rs)
    (told_as (in_both rs ls) (in_both ls rs) (shared rs ls) (λ u. swapped (is_discrete u) (list_any (same u) ls) (list_any (same u) rs)) (told_shared rs ls))
    (told_shared ls rs)

parted : (d a b c : Bool) → (d && ((a || b) && c)) ≡ ((d && (a && c)) || (d && (b && c)))
parted false a b c = refl
parted true true b true = refl
parted true true true false = refl
parted true true false false = refl
parted true false b c = refl

-- of lists in a row
pub shared_left : (xs ys rs : List BaseType) → shared (xs ++ ys) rs ≡ together (shared xs rs) (shared ys rs)
unfolding in_both
shared_left xs ys rs =
    told_once (in_both (xs ++ ys) rs) (shared (xs ++ ys) rs) (together (shared xs rs) (shared ys rs)) (told_shared (xs ++ ys) rs)
    (told_as (λ u. in_both xs rs u || in_both ys rs u) (in_both (xs ++ ys) rs) (together (shared xs rs) (shared ys rs))
    (λ u. ap (λ b. is_discrete u && (b && list_any (same u) rs)) (any_append u xs ys) ∙ parted (is_discrete u) (list_any (same u) xs) (list_any (same u) ys) (list_any (same u) rs))
    (told_together (in_both xs rs) (in_both ys rs) (shared xs rs) (shared ys rs) (told_shared xs rs) (told_shared ys rs)))

pub shared_right : (ls xs ys : List BaseType) → shared ls (xs ++ ys) ≡ together (shared ls xs) (shared ls ys)
shared_right ls xs ys =
    sym (shared_turned ls (xs ++ ys)) ∙ shared_left xs ys ls ∙ ap (λ s. together s (shared ys ls)) (shared_turned ls xs) ∙ ap (together (shared ls xs)) (shared_turned ls ys)

-- ---- of literals, where all types of the one were declared before those of the other

neither : (d : Bool) (a b : Option ℕ) → ((p q : ℕ) → a ≡ Some p → b ≡ Some q → ⊥) → (d && (is_some a && is_some b)) ≡ false
neither false a b h = refl
neither true None b h = refl
neither true (Some p) None h = refl
neither true (Some p) (Some q) h = absurd (h p q refl refl)

neither_has : (xs ys : List Entry) (u : BaseType) → ((p q : ℕ) → position_of u xs ≡ Some p → position_of u ys ≡ Some q → ⊥) → in_both (literal_types xs) (literal_types ys) u ≡ false
unfolding in_both
neither_has xs ys u h =
    ap (λ b. is_discrete u && (b && list_any (same u) (literal_types ys))) (sym (has_literal u xs))
    ∙ ap (λ b. is_discrete u && (is_some (position_of u xs) && b)) (sym (has_literal u ys))
    ∙ neither (is_discrete u) (position_of u xs) (position_of u ys) h

none_at : (u : BaseType) (entries : List Entry) (p : ℕ) → own_number u ≡ None → filter is_visible entries ≡ [] → position_of u entries ≡ Some p → ⊥
unfolding position_of
none_at u entries p o v h = let e : None ≡ Some p = ap (position_of u) (sym v) ∙ visible_position u entries o ∙ h in cc

pub first_unseen : (xs ys : List Entry) → filter is_visible xs ≡ [] → VisibleApart xs ys
first_unseen xs ys v = λ u o p q h k. none_at u xs p o v h

pub second_unseen : (xs ys : List Entry) → filter is_visible ys ≡ [] → VisibleApart xs ys
second_unseen xs ys v = λ u o p q h k. none_at u ys q o v k

apart_at : (xs ys : List Entry) → ((n p q : ℕ) → position_of (base.Own n) xs ≡ Some p → position_of (base.Own n) ys ≡ Some q → ⊥) → VisibleApart xs ys
    → (u : BaseType) (p q : ℕ) → position_of u xs ≡ Some p → position_of u ys ≡ Some q → ⊥
unfolding own_number
apart_at xs ys o v (base.Own n) p q h k = o n p q h k
apart_at xs ys o v base.Boolean p q h k = v base.Boolean refl p q h k
apart_at xs ys o v base.Bit p q h k = v base.Bit refl p q h k
apart_at xs ys o v base.Character p q h k = v base.Character refl p q h k
apart_at xs ys o v base.StdUlogic p q h k = v base.StdUlogic refl p q h k
apart_at xs ys o v base.Integer p q h k = v base.Integer refl p q h k
apart_at xs ys o v base.Time p q h k = v base.Time refl p q h k
apart_at xs ys o v base.BitVector p q h k = v base.BitVector refl p q h k
apart_at xs ys o v base.StdUlogicVector p q h k = v base.StdUlogicVector refl p q h k
apart_at xs ys o v base.String p q h k = v base.String refl p q h k
apart_at xs ys o v base.IntegerVector p q h k = v base.IntegerVector refl p q h k

nothing_apart : (xs ys : List Entry) → ((n p q : ℕ) → position_of (base.Own n) xs ≡ Some p → position_of (base.Own n) ys ≡ Some q → ⊥) → VisibleApart xs ys
    → shared (literal_types xs) (literal_types ys) ≡ met.Nothing
nothing_apart xs ys o v =
    told_once (in_both (literal_types xs) (literal_types ys)) (shared (literal_types xs) (literal_types ys)) met.Nothing (told_shared (literal_types xs) (literal_types ys))
    (λ u. neither_has xs ys u (apart_at xs ys o v u))

pub below_apart : (xs ys : List Entry) → Below xs ys → VisibleApart xs ys → shared (literal_types xs) (literal_types ys) ≡ met.Nothing
below_apart xs ys b v = nothing_apart xs ys (λ n p q h k. let l : n < n = b n n p q h k in omega (arith, l)) v

pub above_apart : (xs ys : List Entry) → Below ys xs → VisibleApart xs ys → shared (literal_types xs) (literal_types ys) ≡ met.Nothing
above_apart xs ys b v = nothing_apart xs ys (λ n p q h k. let l : n < n = b n n q p k h in omega (arith, l)) v

no_items : {X : Type 0} (xs ys : List X) → xs ≡ ys → (length xs == 0) ≡ true → ys ≡ []
no_items [] ys e h = sym e
no_items (x ∷ xs) ys e h = absurd (omega (arith, eqb-true (length (x ∷ xs)) 0 h))

pub none_visible : (visible entries : List Entry) (b : Bool) → visible ≡ filter is_visible entries → b ≡ (length visible == 0) → b ≡ true → filter is_visible entries ≡ []
none_visible visible entries b e l h = no_items visible (filter is_visible entries) e (sym l ∙ h)

-- ---- literals in a row

pub types_append : (xs ys : List Entry) → literal_types (xs ++ ys) ≡ literal_types xs ++ literal_types ys
unfolding literal_types
types_append xs ys = filter_map-append literal_type xs ys

-- four lists
pub shared_parts : (ls ls2 rs rs2 : List BaseType) (own inner turned outer : Shared) → own ≡ shared ls rs → inner ≡ shared ls rs2 → turned ≡ shared rs ls2 → outer ≡ shared ls2 rs2
    → together (together own inner) (together turned outer) ≡ shared (ls ++ ls2) (rs ++ rs2)
shared_parts ls ls2 rs rs2 own inner turned outer o i t e =
    ap (λ s. together (together s inner) (together turned outer)) o
    ∙ ap (λ s. together (together (shared ls rs) s) (together turned outer)) i
    ∙ ap (λ s. together (together (shared ls rs) (shared ls rs2)) (together s outer)) (t ∙ shared_turned ls2 rs)
    ∙ ap (λ s. together (together (shared ls rs) (shared ls rs2)) (together (shared ls2 rs) s)) e
    ∙ ap (λ s. together s (together (shared ls2 rs) (shared ls2 rs2))) (sym (shared_right ls rs rs2))
    ∙ ap (together (shared ls (rs ++ rs2))) (sym (shared_right ls2 rs rs2))
    ∙ sym (shared_left ls ls2 (rs ++ rs2))

-- ---- the other literals in turn

pub nothing_shared : (rs : List BaseType) → shared [] rs ≡ met.Nothing
unfolding shared all_more
nothing_shared rs = refl

pub shared_none : (ls : List BaseType) → shared ls [] ≡ met.Nothing
shared_none ls = sym (shared_turned ls []) ∙ nothing_shared ls

pub one_more_list : (ls : List BaseType) (others : List (List Entry)) (i : ℕ) (other d : List Entry) (now next k : Shared) → i < length others → other ≡ get_or others i d
    → now ≡ shared ls (literal_types (flat (take i others))) → k ≡ shared ls (literal_types other) → next ≡ together now k
    → next ≡ shared ls (literal_types (flat (take (i + 1) others)))
one_more_list ls others i other d now next k h is inv one n =
    n ∙ ap (λ s. together s k) inv ∙ ap (together (shared ls (literal_types (flat (take i others))))) one
    ∙ sym (shared_right ls (literal_types (flat (take i others))) (literal_types other))
    ∙ ap (shared ls) (sym (types_append (flat (take i others)) other))
    ∙ ap (λ xs. shared ls (literal_types xs)) (sym (flat_push (take i others) other))
    ∙ ap (λ x. shared ls (literal_types (flat (take i others ++ x ∷ [])))) is
    ∙ ap (λ xs. shared ls (literal_types (flat xs))) (sym (take_at_read others i d h).1)

pub all_lists : (ls : List BaseType) (others : List (List Entry)) (i : ℕ) (now : Shared) → length others ≤ i
    → now ≡ shared ls (literal_types (flat (take i others))) → now ≡ shared ls (literal_types (flat others))
all_lists ls others i now h inv = inv ∙ ap (λ xs. shared ls (literal_types (flat xs))) (take_all i others h)

pub no_lists : (ls : List BaseType) (others : List (List Entry)) → met.Nothing ≡ shared ls (literal_types (flat (take 0 others)))
unfolding literal_types
no_lists ls others = sym (shared_none ls)

-- ---- of two names

abbrev types_of : List BaseType → List BaseType → TypesOfTwo
types_of ls rs = record { left = ls; right = rs }

pub same_types : (ls ls2 rs rs2 : List BaseType) → ls ≡ ls2 → rs ≡ rs2 → types_of ls rs ≡ types_of ls2 rs2
same_types ls ls2 rs rs2 l r = ap (λ ts. types_of ts rs) l ∙ ap (types_of ls2) r

pub no_types : (lists : List (List Entry)) → lists ≡ [] → literal_types (flat lists) ≡ []
unfolding literal_types
no_types lists h = ap (λ xs. literal_types (flat xs)) h

pub none_left : (lists : List (List Entry)) (rs : List BaseType) → lists ≡ [] → met.Nothing ≡ shared (literal_types (flat lists)) rs
none_left lists rs h = sym (ap (λ ts. shared ts rs) (no_types lists h) ∙ nothing_shared rs)

pub none_right : (ls : List BaseType) (lists : List (List Entry)) → lists ≡ [] → met.Nothing ≡ shared ls (literal_types (flat lists))
none_right ls lists h = sym (ap (shared ls) (no_types lists h) ∙ shared_none ls)

pub types_before : (own all rest : List Entry) (types : List BaseType) → all ≡ own ++ rest → literal_types rest ≡ types → literal_types all ≡ literal_types own ++ types
types_before own all rest types e h = ap literal_types e ∙ types_append own rest ∙ ap (λ ts. literal_types own ++ ts) h

pub shared_within : (left right lefts rights all_left all_right : List Entry) (own crossed turned old inner outer now : Shared)
    → own ≡ shared (literal_types left) (literal_types right) → crossed ≡ shared (literal_types left) (literal_types rights)
    → turned ≡ shared (literal_types right) (literal_types lefts) → old ≡ shared (literal_types lefts) (literal_types rights)
    → inner ≡ together own crossed → outer ≡ together turned old → now ≡ together inner outer
    → all_left ≡ left ++ lefts → all_right ≡ right ++ rights → now ≡ shared (literal_types all_left) (literal_types all_right)
shared_within left right lefts rights all_left all_right own crossed turned old inner outer now o c t d i e n l r =
    n ∙ ap (λ s. together s outer) i ∙ ap (together (together own crossed)) e
    ∙ shared_parts (literal_types left) (literal_types lefts) (literal_types right) (literal_types rights) own crossed turned old o c t d
    ∙ ap (λ ts. shared ts (literal_types right ++ literal_types rights)) (sym (types_append left lefts) ∙ ap literal_types (sym l))
    ∙ ap (shared (literal_types all_left)) (sym (types_append right rights) ∙ ap literal_types (sym r))
