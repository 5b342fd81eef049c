-- Lemmas on the types that two lists of entries share.
use Rattle.std.proofs.Common.{◌≡◌, ◌<◌, ◌≤◌, ◌+◌, ◌-◌, ℕ, zero, suc, ◌&&◌, Bool, true, false, List, [], ◌∷◌, ◌++◌, refl, sym, ◌∙◌, ap, subst, arith, length, drop, get_or, filter, cond, Option, if◌then◌else◌}
use Rattle.std.specs.Prelude.{Some, None, is_some, slice_get}
use Rattle.std.proofs.lemmas.List.{drop_more, at_drop_more, at_drop_all}
use Rattle.std.proofs.lemmas.Option.{slice_get-get_or}
use Rattle.vhdl_units.specs.declared.base_type.BaseType.{BaseType}
use Rattle.vhdl_units.specs.declared.base_type.BaseType.TheVariants as base
use Rattle.vhdl_units.specs.declared.entry.Entry.{Entry}
use Rattle.vhdl_units.specs.declared.entry.Entry.TheVariants as entry
use Rattle.vhdl_units.specs.Types.{is_discrete}
use Rattle.vhdl_names_overloads.specs.declared.blocks.Block.{Block}
use Rattle.vhdl_names_overloads.specs.declared.blocks.Run.{Run}
use Rattle.vhdl_names_overloads.specs.declared.shared.Shared.{Shared}
use Rattle.vhdl_names_overloads.specs.declared.shared.Shared.TheVariants as met
use Rattle.vhdl_names_overloads.specs.Blocks.{own_of, Within, Inside, Covers, Apart}
use Rattle.vhdl_names_overloads.specs.Finds.{flat}
use Rattle.vhdl_names_overloads.specs.Literals.{literal_type, literal_types, position_of, or_else}
use Rattle.vhdl_names_overloads.specs.Sharing.{one_more, all_more, is_shared, shared, if_passes, is_literal_of, with_entry, with_entries, PassesOver}
use Rattle.vhdl_names_overloads.proofs.Covered.{begins_within}
use Rattle.vhdl_names_overloads.proofs.Lists.{position_append, own_type, has_literal}

-- ---- blocks that no list has

both_apart : (b : Block) (xs ys : List Entry) → Apart b xs → Apart b ys → Apart b (xs ++ ys)
unfolding or_else
both_apart b xs ys l r = λ n h. position_append (base.Own n) xs ys ∙ ap (λ o. or_else o (position_of (base.Own n) ys)) (l n h) ∙ r n h

pub apart_more : (b : Block) (segments : List (List Entry)) (i : ℕ) (segment d : List Entry) → i < length segments → segment ≡ get_or segments i d → Apart b segment
    → (Apart b (flat (drop i segments)) → Apart b (flat segments)) → Apart b (flat (drop (i + 1) segments)) → Apart b (flat segments)
apart_more b segments i segment d h is a inv rest =
    inv (subst (λ entries. Apart b entries) (ap (λ s. s ++ flat (drop (i + 1) segments)) is ∙ sym (at_drop_more (λ xs. flat xs) segments i d h)) (both_apart b segment (flat (drop (i + 1) segments)) a rest))

none_stand : (b : Block) → Apart b []
unfolding position_of
none_stand b = λ n h. refl

pub apart_all : (b : Block) (segments : List (List Entry)) (i : ℕ) → length segments ≤ i → (Apart b (flat (drop i segments)) → Apart b (flat segments)) → Apart b (flat segments)
apart_all b segments i h inv = inv (subst (λ entries. Apart b entries) (sym (at_drop_all (λ xs. flat xs) segments i h)) (none_stand b))

-- ---- entries in turn

pub each_more : (others : List Entry) (s next x : Shared) (entries : List Entry) (i : ℕ) (d : Entry) → i < length entries → next ≡ with_entry others s (get_or entries i d)
    → with_entries others s (drop i entries) ≡ x → with_entries others next (drop (i + 1) entries) ≡ x
unfolding with_entries
each_more others s next x entries i d h n inv =
    ap (λ k. with_entries others k (drop (i + 1) entries)) n ∙ sym (at_drop_more (with_entries others s) entries i d h) ∙ inv

if_several : (b : Bool) (t : BaseType) → (if b then one_more met.Several t else met.Several) ≡ met.Several
unfolding one_more
if_several true t = refl
if_several false t = refl

several_passes : (p : BaseType → Bool) (o : Option BaseType) → if_passes p met.Several o ≡ met.Several
unfolding if_passes
several_passes p None = refl
several_passes p (Some t) = if_several (p t) t

several_stay : (others entries : List Entry) → with_entries others met.Several entries ≡ met.Several
unfolding with_entries with_entry
several_stay others [] = refl
several_stay others (e ∷ entries) =
    ap (λ s. with_entries others s entries) (several_passes (is_literal_of others) (literal_type e)) ∙ several_stay others entries

literal_own : (e : Entry) (n : ℕ) → own_of e ≡ Some n → literal_type e ≡ Some (base.Own n)
unfolding own_of literal_type
literal_own (entry.Literal t p) n h = ap Some (own_type t n h)
literal_own (entry.Subtype mark) n h = absurd cc
literal_own (entry.Object o) n h = absurd cc
literal_own (entry.Function f) n h = absurd cc
literal_own (entry.Unit u) n h = absurd cc
literal_own (entry.Label l) n h = absurd cc

kept_entry : (others : List Entry) (s : Shared) (e : Entry) (n : ℕ) → own_of e ≡ Some n → position_of (base.Own n) others ≡ None → with_entry others s e ≡ s
unfolding with_entry if_passes is_literal_of
kept_entry others s e n h a =
    ap (if_passes (is_literal_of others) s) (literal_own e n h) ∙ ap (λ o. if is_some o then one_more s (base.Own n) else s) a

kept_within : (others : List Entry) (s : Shared) (b : Block) (e : Entry) → Apart b others → Within (Some b) e → with_entry others s e ≡ s
kept_within others s b e a w = kept_entry others s e w.0 w.1 (a w.0 w.2)

plus_zero : (n : ℕ) → n + 0 ≡ n
plus_zero n = omega arith

plus_one : (n k : ℕ) → n + suc k ≡ n + k + 1
plus_one n k = omega arith

passed_some : (others : List Entry) (s : Shared) (b : Block) (start : ℕ) (entries : List Entry) → Apart b others → (k : ℕ) → start + k ≤ length entries → Inside (Some b) start (start + k) entries
    → with_entries others s (drop (start + k) entries) ≡ with_entries others s (drop start entries)
unfolding with_entries
passed_some others s b start entries a zero h i = ap (λ p. with_entries others s (drop p entries)) (plus_zero start)
passed_some others s b start entries a (suc k) h i =
    let here : start + k < length entries = omega arith in
    let d : Entry = entry.Label 0 in
    ap (λ p. with_entries others s (drop p entries)) (plus_one start k)
    ∙ ap (λ m. with_entries others m (drop (start + k + 1) entries))
    (sym (kept_within others s b (get_or entries (start + k) d) a (i (start + k) (get_or entries (start + k) d) (omega arith) (omega arith) (slice_get-get_or entries (start + k) d here))))
    ∙ sym (at_drop_more (with_entries others s) entries (start + k) d here)
    ∙ passed_some others s b start entries a k (omega arith) (λ p x l r is. i p x l (omega arith) is)

passed_block : (others : List Entry) (s : Shared) (b : Block) (start end : ℕ) (entries : List Entry) → start ≤ end → end ≤ length entries → Inside (Some b) start end entries → Apart b others
    → with_entries others s (drop end entries) ≡ with_entries others s (drop start entries)
passed_block others s b start end entries h k i a =
    let e : start + (end - start) ≡ end = omega arith in
    ap (λ p. with_entries others s (drop p entries)) (sym e)
    ∙ passed_some others s b start entries a (end - start) (omega arith) (λ p x l r is. i p x l (omega arith) is)

pub passed : (others : List Entry) (s : Shared) (b : Option Block) (start end : ℕ) (entries : List Entry) → start ≤ end → end ≤ length entries → Inside b start end entries → PassesOver others s b
    → with_entries others s (drop end entries) ≡ with_entries others s (drop start entries)
passed others met.Several b start end entries h k i p = several_stay others (drop end entries) ∙ sym (several_stay others (drop start entries))
passed others met.Nothing None start end entries h k i p = absurd p
passed others met.Nothing (Some b) start end entries h k i p = passed_block others met.Nothing b start end entries h k i p
passed others (met.One t) None start end entries h k i p = absurd p
passed others (met.One t) (Some b) start end entries h k i p = passed_block others (met.One t) b start end entries h k i p

-- ---- runs

pub run_ends : (start : ℕ) (runs items : List Run) (i : ℕ) (d : Run) (b : Option Block) (entries : List Entry) → items ≡ runs → i < length items → Covers start (drop i runs) b entries
    → (get_or items i d).end ≤ length entries
run_ends start runs items i d b entries e h c =
    subst (λ xs. (get_or xs i d).end ≤ length entries) (sym e)
    (begins_within (get_or runs i d).end (drop (i + 1) runs) b entries (subst (λ xs. Covers start xs b entries) (drop_more runs i d (subst (λ xs. i < length xs) e h)) c).2)

pub all_run : (others : List Entry) (r x : Shared) (entries : List Entry) → with_entries others r (drop (length entries) entries) ≡ x → r ≡ x
unfolding with_entries
all_run others r x entries h = sym (at_drop_all (with_entries others r) entries (length entries) (omega arith)) ∙ h

-- ---- lists in a row

entries_append : (others : List Entry) (s : Shared) (xs ys : List Entry) → with_entries others s (xs ++ ys) ≡ with_entries others (with_entries others s xs) ys
unfolding with_entries
entries_append others s [] ys = refl
entries_append others s (x ∷ xs) ys = entries_append others (with_entry others s x) xs ys

pub segment_more : (others : List Entry) (s next x : Shared) (segments : List (List Entry)) (i : ℕ) (segment d : List Entry) → i < length segments → segment ≡ get_or segments i d
    → next ≡ with_entries others s segment → with_entries others s (flat (drop i segments)) ≡ x → with_entries others next (flat (drop (i + 1) segments)) ≡ x
segment_more others s next x segments i segment d h is n inv =
    ap (λ k. with_entries others k (flat (drop (i + 1) segments))) n
    ∙ sym (entries_append others s segment (flat (drop (i + 1) segments)))
    ∙ ap (λ k. with_entries others s (k ++ flat (drop (i + 1) segments))) is
    ∙ sym (at_drop_more (λ xs. with_entries others s (flat xs)) segments i d h) ∙ inv

pub segments_all : (others : List Entry) (s x : Shared) (segments : List (List Entry)) (i : ℕ) → length segments ≤ i → with_entries others s (flat (drop i segments)) ≡ x → s ≡ x
unfolding with_entries
segments_all others s x segments i h inv = sym (at_drop_all (λ xs. with_entries others s (flat xs)) segments i h) ∙ inv

-- ---- their types

same_test : (others : List Entry) (t : BaseType) → is_literal_of others t ≡ is_shared (literal_types others) t
unfolding is_literal_of is_shared
same_test others t = ap (λ b. is_discrete t && b) (has_literal t others)

if_there : (b : Bool) (s : Shared) (t : BaseType) (rest : List BaseType) → all_more (if b then one_more s t else s) rest ≡ all_more s (cond b (t ∷ rest) rest)
unfolding all_more
if_there true s t rest = refl
if_there false s t rest = refl

one_type : (others : List Entry) (s : Shared) (t : BaseType) (types : List BaseType)
    → all_more (if_passes (is_literal_of others) s (Some t)) (filter (is_shared (literal_types others)) types) ≡ all_more s (filter (is_shared (literal_types others)) (t ∷ types))
unfolding if_passes
one_type others s t types =
    ap (λ b. all_more (if b then one_more s t else s) (filter (is_shared (literal_types others)) types)) (same_test others t)
    ∙ if_there (is_shared (literal_types others) t) s t (filter (is_shared (literal_types others)) types)

pub shared_types : (others : List Entry) (s : Shared) (entries : List Entry) → with_entries others s entries ≡ all_more s (filter (is_shared (literal_types others)) (literal_types entries))
unfolding with_entries with_entry literal_types literal_type if_passes all_more
shared_types others s [] = refl
shared_types others s (entry.Literal t n ∷ entries) =
    shared_types others (if_passes (is_literal_of others) s (Some t)) entries ∙ one_type others s t (literal_types entries)
shared_types others s (entry.Subtype mark ∷ entries) = shared_types others s entries
shared_types others s (entry.Object o ∷ entries) = shared_types others s entries
shared_types others s (entry.Function f ∷ entries) = shared_types others s entries
shared_types others s (entry.Unit u ∷ entries) = shared_types others s entries
shared_types others s (entry.Label l ∷ entries) = shared_types others s entries

-- ---- types in turn

pub type_more : (p : BaseType → Bool) (s x next : Shared) (types : List BaseType) (i : ℕ) → i < length types → next ≡ if_passes p s (slice_get types i)
    → all_more s (filter p (drop i types)) ≡ x → all_more next (filter p (drop (i + 1) types)) ≡ x
unfolding if_passes
type_more p s x next types i h n inv =
    let t : BaseType = get_or types i base.Integer in
    ap (λ k. all_more k (filter p (drop (i + 1) types))) (n ∙ ap (if_passes p s) (slice_get-get_or types i base.Integer h))
    ∙ if_there (p t) s t (filter p (drop (i + 1) types))
    ∙ sym (at_drop_more (λ ts. all_more s (filter p ts)) types i base.Integer h) ∙ inv

pub types_all : (p : BaseType → Bool) (s x : Shared) (types : List BaseType) (i : ℕ) → length types ≤ i → all_more s (filter p (drop i types)) ≡ x → s ≡ x
unfolding all_more
types_all p s x types i h inv = sym (at_drop_all (λ ts. all_more s (filter p ts)) types i h) ∙ inv

-- types of literals
pub shared_among : (r : Shared) (types types2 : List BaseType) (own others : List Entry) → literal_types own ≡ types → literal_types others ≡ types2
    → r ≡ with_entries others met.Nothing own → r ≡ shared types types2
unfolding shared
shared_among r types types2 own others e e2 h =
    h ∙ shared_types others met.Nothing own ∙ ap (λ ts. all_more met.Nothing (filter (is_shared (literal_types others)) ts)) e ∙ ap (λ ts. all_more met.Nothing (filter (is_shared ts) types)) e2
