-- Operators side by side, from left to right.
use Rattle.std.proofs.Common.{◌≡◌, ◌&&◌, if◌then◌else◌, ℕ, Bool, true, false, Some, None, List, [], ◌∷◌, map, refl, ap, sym, ◌∙◌}
use Rattle.std.proofs.Math.Bool.{and-true, and_assoc}
use Rattle.std.specs.Prelude.{is_some}
use Rattle.std.proofs.lemmas.Bool.{and_from}
use Rattle.std.specs.List.{list_all}
use Rattle.vhdl_names_laws.proofs.Free.{own_typing, step_free}
use Rattle.vhdl_names_laws.proofs.Knows.{known_chain, known_link_of}
use Rattle.vhdl_names_laws.proofs.OfType.{same_types, some_of, type_chain, type_link_of}
use Rattle.vhdl_names_laws.proofs.Operands.{is_typed, operand_has, some_type, typed, typed_operands}
use Rattle.vhdl_names_laws.proofs.Related.{Both, own_type, related_both}
use Rattle.vhdl_names_laws.proofs.Settles.{link_settled, open_chain, settled_own, settled_types, static_with, types_with}
use Rattle.vhdl_names_laws.specs.Known.{all_known, known_link, known_value}
use Rattle.vhdl_names_laws.proofs.ListsTell.{LinksTell}
use Rattle.vhdl_names_laws.specs.Tells.{Agrees, Tells}
use Rattle.vhdl_names_laws.specs.Typed.{HasType, are_same, has_type, sides_fit, type_of, type_of_link}
use Rattle.vhdl_names_meaning.specs.Operators.{chain, chain_by, chain_types, link_is_static, related, relation_of}
use Rattle.vhdl_names_meaning.specs.Settling.{chain_at, link_at, operand_at, operand_type, settled, settled_candidate, settled_link, shared}
use Rattle.vhdl_names_meaning.specs.declared.candidates.Candidate.{Candidate, out-Candidate}
use Rattle.vhdl_names_meaning.specs.declared.candidates.CandidateLink.{CandidateLink, out-CandidateLink}
use Rattle.vhdl_names_operators.specs.Sets.{has}
use Rattle.vhdl_tree.specs.declared.expressions.Operator.{Operator}
use Rattle.vhdl_units.specs.declared.base_type.BaseType.{BaseType}
use Rattle.vhdl_units.specs.declared.base_type.BaseType.TheVariants as base
use Rattle.vhdl_names_typing.specs.Expressions.{beside, is_relation, is_unrelated, joined, joined_by, operand, operated}
use Rattle.vhdl_names_typing.specs.declared.told.LinkTold.{LinkTold}
use Rattle.vhdl_names_typing.specs.declared.told.Told.{Told}
use Rattle.vhdl_names_meaning.specs.declared.candidates.Open.TheVariants as pending

-- ---- an operand means something at the type that is asked of it, whichever that is

operand_known : (u : BaseType) (told : Told) (c : Candidate) → Agrees told c → is_typed told.types ≡ true → known_value (operand_at u (settled_candidate c)) ≡ true
unfolding operand_at
operand_known u told c a h =
    ap (λ types. known_value ((settled_candidate c).at (operand_type u types))) (settled_types c ∙ a.types) ∙ a.known (operand_type u told.types) (operand_has u told.types h)

link_known : (u : BaseType) (right : Told) (c : CandidateLink) → Agrees right (out-CandidateLink c).right → is_typed right.types ≡ true → known_link (link_at u (settled_link c)) ≡ true
unfolding link_at
link_known u right c a h =
    ap (λ k. known_link (link_at u k)) (link_settled c)
    ∙ known_link_of (out-CandidateLink c).operator (operand_at u (settled_candidate (out-CandidateLink c).right))
    ∙ operand_known u right (out-CandidateLink c).right a h

-- and that is of this type
operand_typed : (u : BaseType) (told : Told) (c : Candidate) → Agrees told c → is_typed told.types ≡ true → is_some (type_of (operand_at u (settled_candidate c))) ≡ true
unfolding operand_at
operand_typed u told c a h =
    ap (λ types. is_some (type_of ((settled_candidate c).at (operand_type u types)))) (settled_types c ∙ a.types)
    ∙ some_of (type_of (settled c (operand_type u told.types))) (operand_type u told.types) (a.typed (operand_type u told.types) (operand_has u told.types h))

link_is : (u : BaseType) (c : CandidateLink)
    → type_of_link (link_at u (settled_link c)) ≡ record { operator = (out-CandidateLink c).operator; type = type_of (operand_at u (settled_candidate (out-CandidateLink c).right)) }
unfolding link_at
link_is u c = ap (λ k. type_of_link (link_at u k)) (link_settled c) ∙ type_link_of (out-CandidateLink c).operator (operand_at u (settled_candidate (out-CandidateLink c).right))

link_typed : (u : BaseType) (right : Told) (c : CandidateLink) → Agrees right (out-CandidateLink c).right → is_typed right.types ≡ true → has_type (type_of_link (link_at u (settled_link c))) ≡ true
link_typed u right c a h = ap has_type (link_is u c) ∙ operand_typed u right (out-CandidateLink c).right a h

-- of the type that is asked, where it has that
operand_of : (u : BaseType) (told : Told) (c : Candidate) → Agrees told c → has told.types u ≡ true → HasType (operand_at u (settled_candidate c)) u
unfolding operand_at
operand_of u told c a h =
    ap (λ types. type_of ((settled_candidate c).at (operand_type u types))) (settled_types c ∙ a.types)
    ∙ ap (λ t. type_of (settled c t)) (own_type u told.types h)
    ∙ a.typed u h

sides_of : (b : Bool) (t u : BaseType) (left right : Told) (c d : Candidate) → Agrees left c → Agrees right d → (b ≡ true → Both left.types right.types (related left.types right.types))
    → u ≡ shared (if b then Some (related left.types right.types) else None) t
    → (if b then are_same (type_of (operand_at u (settled_candidate c))) (type_of (operand_at u (settled_candidate d))) else true) ≡ true
unfolding shared
sides_of true t u left right c d a e both is =
    let h : Both left.types right.types u = rw is (both refl) in
    same_types (type_of (operand_at u (settled_candidate c))) (type_of (operand_at u (settled_candidate d))) u (operand_of u left c a h.0) (operand_of u right d e h.1)
sides_of false t u left right c d a e both is = refl

-- the sides of a relation are of one type
sides_typed : (t u : BaseType) (left right : Told) (op : Operator) (c : Candidate) (k : CandidateLink) (links : List CandidateLink) → Agrees left c → Agrees right (out-CandidateLink k).right
    → (out-CandidateLink k).operator ≡ op → is_unrelated op left.types right.types ≡ false → u ≡ shared (relation_of (out-CandidateLink k).operator left.types right.types) t
    → sides_fit (type_of (operand_at u (settled_candidate c))) (map type_of_link (map (link_at u) (map settled_link (k ∷ links)))) ≡ true
unfolding relation_of
sides_typed t u left right op c k links a e same free is =
    let own : is_unrelated (out-CandidateLink k).operator left.types right.types ≡ false = rw same free in
    ap (λ head. sides_fit (type_of (operand_at u (settled_candidate c))) (head ∷ map type_of_link (map (link_at u) (map settled_link links)))) (link_is u k)
    ∙ sides_of (is_relation (out-CandidateLink k).operator) t u left right c (out-CandidateLink k).right a e (λ r. related_both (out-CandidateLink k).operator left.types right.types r own) is

-- where it has a type, it is globally static as it tells
operand_static : (told : Told) (c : Candidate) → Agrees told c → is_typed told.types ≡ true → (out-Candidate c).is_static ≡ told.is_static
operand_static told c a h = let some = some_type told.types h in a.static some.0 some.1

-- ---- along the operators

types_along : (so_far : Told) (tolds : List LinkTold) (links : List CandidateLink) → LinksTell tolds links → (joined_by so_far tolds).names ≡ [] → (joined_by so_far tolds).typing ≡ []
    → chain_types so_far.types links ≡ (joined_by so_far tolds).types
unfolding LinksTell chain_types joined_by joined operated
types_along so_far [] [] tell n t = refl
types_along so_far (l ∷ tolds) (c ∷ links) tell n t =
    let here = step_free so_far l tolds n t in
    rw (tell.0.operator, (tell.0.right here.right_names here.right_typing).types) (types_along (joined so_far l.operator l.right) tolds links tell.1 n t)
types_along so_far [] (c ∷ links) tell n t = absurd tell
types_along so_far (l ∷ tolds) [] tell n t = absurd tell

abbrev all_at : BaseType → List CandidateLink → Type 0
all_at u links = all_known (map known_link (map (link_at u) (map settled_link links))) ≡ true

-- Where the whole has a type, each operand has one.
known_along : (u : BaseType) (so_far : Told) (tolds : List LinkTold) (links : List CandidateLink) → LinksTell tolds links → (joined_by so_far tolds).names ≡ [] → (joined_by so_far tolds).typing ≡ []
    → is_typed (joined_by so_far tolds).types ≡ true → (is_typed so_far.types ≡ true) × all_at u links
unfolding LinksTell joined_by joined operated
known_along u so_far [] [] tell n t h = (h, refl)
known_along u so_far (l ∷ tolds) (c ∷ links) tell n t h =
    let here = step_free so_far l tolds n t in
    let after = known_along u (joined so_far l.operator l.right) tolds links tell.1 n t h in
    let sides = typed_operands l.operator so_far.types l.right.types here.is_related after.0 in (
      sides.0,
      and_from (known_link (link_at u (settled_link c))) (all_known (map known_link (map (link_at u) (map settled_link links))))
          (link_known u l.right c (tell.0.right here.right_names here.right_typing) sides.1) after.1,
    )
known_along u so_far [] (c ∷ links) tell n t h = absurd tell
known_along u so_far (l ∷ tolds) [] tell n t h = absurd tell

abbrev all_typed_at : BaseType → List CandidateLink → Type 0
all_typed_at u links = list_all has_type (map type_of_link (map (link_at u) (map settled_link links))) ≡ true

typed_along : (u : BaseType) (so_far : Told) (tolds : List LinkTold) (links : List CandidateLink) → LinksTell tolds links → (joined_by so_far tolds).names ≡ [] → (joined_by so_far tolds).typing ≡ []
    → is_typed (joined_by so_far tolds).types ≡ true → (is_typed so_far.types ≡ true) × all_typed_at u links
unfolding LinksTell joined_by joined operated
typed_along u so_far [] [] tell n t h = (h, refl)
typed_along u so_far (l ∷ tolds) (c ∷ links) tell n t h =
    let here = step_free so_far l tolds n t in
    let after = typed_along u (joined so_far l.operator l.right) tolds links tell.1 n t h in
    let sides = typed_operands l.operator so_far.types l.right.types here.is_related after.0 in (
      sides.0,
      and_from (has_type (type_of_link (link_at u (settled_link c)))) (list_all has_type (map type_of_link (map (link_at u) (map settled_link links))))
          (link_typed u l.right c (tell.0.right here.right_names here.right_typing) sides.1) after.1,
    )
typed_along u so_far [] (c ∷ links) tell n t h = absurd tell
typed_along u so_far (l ∷ tolds) [] tell n t h = absurd tell

-- All is globally static where each operand is.
static_along : (so_far : Told) (tolds : List LinkTold) (links : List CandidateLink) → LinksTell tolds links → (joined_by so_far tolds).names ≡ [] → (joined_by so_far tolds).typing ≡ []
    → is_typed (joined_by so_far tolds).types ≡ true → (so_far.is_static && list_all link_is_static links) ≡ (joined_by so_far tolds).is_static
unfolding LinksTell joined_by joined operated beside link_is_static
static_along so_far [] [] tell n t h = and-true so_far.is_static
static_along so_far (l ∷ tolds) (c ∷ links) tell n t h =
    let here = step_free so_far l tolds n t in
    let after = typed_along base.Integer (joined so_far l.operator l.right) tolds links tell.1 n t h in
    let sides = typed_operands l.operator so_far.types l.right.types here.is_related after.0 in
    let own = operand_static l.right (out-CandidateLink c).right (tell.0.right here.right_names here.right_typing) sides.1 in
    ap (λ b. so_far.is_static && (b && list_all link_is_static links)) own
    ∙ sym (and_assoc so_far.is_static l.right.is_static (list_all link_is_static links))
    ∙ static_along (joined so_far l.operator l.right) tolds links tell.1 n t h
static_along so_far [] (c ∷ links) tell n t h = absurd tell
static_along so_far (l ∷ tolds) [] tell n t h = absurd tell

-- ---- whole chains

chain_has : (c : Candidate) (k : CandidateLink) (links : List CandidateLink) → (out-Candidate (chain_by c k links)).types ≡ chain_types (out-Candidate c).types links
unfolding chain_by
chain_has c k links = types_with (chain_types (out-Candidate c).types links) ((out-Candidate c).is_static && list_all link_is_static links)
    (pending.Chain (relation_of (out-CandidateLink k).operator (out-Candidate c).types (out-Candidate (out-CandidateLink k).right).types) c links)

chain_known : (c : Candidate) (k : CandidateLink) (links : List CandidateLink) (t : BaseType) → has (chain_types (out-Candidate c).types links) t ≡ true
    → ((u : BaseType) → (known_value (operand_at u (settled_candidate c)) ≡ true) × all_at u links) → known_value (settled (chain_by c k links) t) ≡ true
unfolding chain_by chain_at
chain_known c k links t h operands =
    let relation = relation_of (out-CandidateLink k).operator (out-Candidate c).types (out-Candidate (out-CandidateLink k).right).types in
    let u = shared relation t in
    let first = operand_at u (settled_candidate c) in
    let rest = map (link_at u) (map settled_link links) in
    ap known_value (settled_own (chain_types (out-Candidate c).types links) ((out-Candidate c).is_static && list_all link_is_static links) (pending.Chain relation c links) t h
    ∙ open_chain relation c links t)
    ∙ known_chain t first rest
    ∙ and_from (known_value first) (all_known (map known_link rest)) (operands u).0 (operands u).1

chain_typed : (c : Candidate) (k : CandidateLink) (links : List CandidateLink) (t : BaseType) → has (chain_types (out-Candidate c).types links) t ≡ true
    → ((u : BaseType) → (is_some (type_of (operand_at u (settled_candidate c))) ≡ true) × all_typed_at u links)
    → sides_fit (type_of (operand_at (shared (relation_of (out-CandidateLink k).operator (out-Candidate c).types (out-Candidate (out-CandidateLink k).right).types) t) (settled_candidate c)))
    (map type_of_link (map (link_at (shared (relation_of (out-CandidateLink k).operator (out-Candidate c).types (out-Candidate (out-CandidateLink k).right).types) t)) (map settled_link links))) ≡ true
    → HasType (settled (chain_by c k links) t) t
unfolding chain_by chain_at
chain_typed c k links t h operands sides =
    let relation = relation_of (out-CandidateLink k).operator (out-Candidate c).types (out-Candidate (out-CandidateLink k).right).types in
    let u = shared relation t in
    ap type_of (settled_own (chain_types (out-Candidate c).types links) ((out-Candidate c).is_static && list_all link_is_static links) (pending.Chain relation c links) t h
    ∙ open_chain relation c links t)
    ∙ type_chain t (operand_at u (settled_candidate c)) (map (link_at u) (map settled_link links)) (operands u).0 (operands u).1 sides

chain_static : (c : Candidate) (k : CandidateLink) (links : List CandidateLink) → (out-Candidate (chain_by c k links)).is_static ≡ ((out-Candidate c).is_static && list_all link_is_static links)
unfolding chain_by
chain_static c k links = static_with (chain_types (out-Candidate c).types links) ((out-Candidate c).is_static && list_all link_is_static links)
    (pending.Chain (relation_of (out-CandidateLink k).operator (out-Candidate c).types (out-Candidate (out-CandidateLink k).right).types) c links)

-- an operand with nothing behind it
operand_tells : (place : ℕ) (first : Told) (c : Candidate) → Tells first c → Tells (operand place first) c
unfolding operand
operand_tells place first c tells = λ n t. let a = tells n (own_typing first t) in record { types = a.types; known = a.known; typed = a.typed; static = a.static }

linked_tells : (place : ℕ) (first : Told) (c : Candidate) (l : LinkTold) (tolds : List LinkTold) (k : CandidateLink) (links : List CandidateLink) → Tells first c → LinksTell (l ∷ tolds) (k ∷ links)
    → Tells (joined_by (operand place first) (l ∷ tolds)) (chain_by c k (k ∷ links))
unfolding operand LinksTell
linked_tells place first c l tolds k links tells tell = λ n t.
    let so_far = operand place first in
    let here = step_free so_far l tolds n t in
    let a : Agrees first c = tells here.left_names (own_typing first here.left_typing) in
    let types : chain_types (out-Candidate c).types (k ∷ links) ≡ (joined_by so_far (l ∷ tolds)).types =
    ap (λ types. chain_types types (k ∷ links)) a.types ∙ types_along so_far (l ∷ tolds) (k ∷ links) tell n t in
    record {
      types = chain_has c k (k ∷ links) ∙ types;
      known = λ u h. chain_known c k (k ∷ links) u (ap (λ types. has types u) types ∙ h) (λ v.
          let all = known_along v so_far (l ∷ tolds) (k ∷ links) tell n t (typed (joined_by so_far (l ∷ tolds)).types u h) in
          (operand_known v first c a all.0, all.1));
      typed = λ u h. chain_typed c k (k ∷ links) u (ap (λ types. has types u) types ∙ h) (λ v.
          let all = typed_along v so_far (l ∷ tolds) (k ∷ links) tell n t (typed (joined_by so_far (l ∷ tolds)).types u h) in
          (operand_typed v first c a all.0, all.1))
          (let e = tell.0.right here.right_names here.right_typing in
          sides_typed u (shared (relation_of (out-CandidateLink k).operator (out-Candidate c).types (out-Candidate (out-CandidateLink k).right).types) u) first l.right l.operator c k links a e
          tell.0.operator here.is_related (ap (λ ls. shared (relation_of (out-CandidateLink k).operator ls (out-Candidate (out-CandidateLink k).right).types) u) a.types
          ∙ ap (λ rs. shared (relation_of (out-CandidateLink k).operator first.types rs) u) e.types));
      static = λ u h.
          let some = typed (joined_by so_far (l ∷ tolds)).types u h in
          let all = typed_along u so_far (l ∷ tolds) (k ∷ links) tell n t some in
          chain_static c k (k ∷ links)
          ∙ ap (λ b. b && list_all link_is_static (k ∷ links)) (operand_static first c a all.0)
          ∙ static_along so_far (l ∷ tolds) (k ∷ links) tell n t some;
    }

-- operators side by side mean what they tell
pub chain_tells : (place : ℕ) (first : Told) (c : Candidate) (tolds : List LinkTold) (links : List CandidateLink) → Tells first c → LinksTell tolds links
    → Tells (joined_by (operand place first) tolds) (chain c links)
unfolding chain joined_by LinksTell
chain_tells place first c [] [] tells tell = operand_tells place first c tells
chain_tells place first c (l ∷ tolds) (k ∷ links) tells tell = linked_tells place first c l tolds k links tells tell
chain_tells place first c [] (k ∷ links) tells tell = absurd tell
chain_tells place first c (l ∷ tolds) [] tells tell = absurd tell
