-- Lemmas on the lists of declarations.
use Rattle.std.proofs.Common.{rules, ◌≡◌, ◌<◌, ◌≤◌, ◌+◌, ◌-◌, ◌||◌, ℕ, zero, suc, Bool, true, false, List, [], ◌∷◌, ◌++◌, refl, sym, ◌∙◌, ap, arith, length, take, drop, get_or, not, filter, find, cond, Option, ◌⊎◌, inl, inr, if◌then◌else◌, append-nil}
use Rattle.std.specs.Prelude.{Some, None, is_none, is_some, option_to_list, slice_get}
use Rattle.std.specs.List.{list_all, list_any}
use Rattle.std.specs.BTreeMap.{BTreeMap}
use Rattle.std.proofs.lemmas.List.{at_drop_more, at_drop_all, append_assoc, length-append}
use Rattle.std.proofs.Math.Nat.{add_assoc}
use Rattle.vhdl_units.specs.declared.base_type.BaseType.{BaseType}
use Rattle.vhdl_units.specs.declared.base_type.BaseType.TheVariants as base
use Rattle.vhdl_units.specs.declared.entry.Entry.{Entry}
use Rattle.vhdl_units.specs.declared.entry.Entry.TheVariants as entry
use Rattle.vhdl_units.specs.Entries.{is_literal}
use Rattle.vhdl_units.specs.Types.{same}
use Rattle.vhdl_names_overloads.specs.Literals.{literal_type, literal_types, position_in, or_else, position_of, is_other, first_other}
use Rattle.vhdl_names_overloads.specs.Finds.{flat, BeginsWith}
use Rattle.vhdl_names_overloads.specs.Hiding.{met, overloaded}
use Rattle.vhdl_names_overloads.specs.Kinds.{type_of, WhetherLiterals}
use Rattle.vhdl_names_overloads.specs.Tables.{Indexed, Notes, own_number, is_visible, first_of}

-- ---- positions

pub or_else_assoc : (a b c : Option ℕ) → or_else a (or_else b c) ≡ or_else (or_else a b) c
unfolding or_else
or_else_assoc (Some n) b c = refl
or_else_assoc None b c = refl

pub or_else_none : (a : Option ℕ) → or_else a None ≡ a
unfolding or_else
or_else_none (Some n) = refl
or_else_none None = refl

pub position_append : (t : BaseType) (xs ys : List Entry) → position_of t (xs ++ ys) ≡ or_else (position_of t xs) (position_of t ys)
unfolding position_of or_else
position_append t [] ys = refl
position_append t (x ∷ xs) ys = ap (or_else (position_in t x)) (position_append t xs ys) ∙ or_else_assoc (position_in t x) (position_of t xs) (position_of t ys)

-- ---- the first that is no literal

pub find_append : {X : Type 0} (p : X → Bool) (xs ys : List X) → find p xs ≡ None → find p (xs ++ ys) ≡ find p ys
find_append p [] ys h = refl
find_append p (x ∷ xs) ys h = grind (arith, find_append p xs ys)

pub find_front : {X : Type 0} (p : X → Bool) (xs ys : List X) (x : X) → find p xs ≡ Some x → find p (xs ++ ys) ≡ Some x
find_front p [] ys z h = grind arith
find_front p (x ∷ xs) ys z h = grind (arith, find_front p xs ys z)

take_first : {X : Type 0} (p : X → Bool) (xs : List X) → take 1 (filter p xs) ≡ option_to_list (find p xs)
take_first p [] = refl
take_first p (x ∷ xs) = grind (arith, take_first p xs)

all_but : {X : Type 0} (p : X → Bool) (xs : List X) → list_all p xs ≡ is_none (find (λ x. not (p x)) xs)
all_but p [] = refl
all_but p (x ∷ xs) = grind (arith, all_but p xs)

-- a declaration that is no literal
pub met_other : (entries found : List Entry) (e : Entry) → first_other entries ≡ Some e → met entries found ≡ e ∷ []
met_other [] found e h = grind arith
met_other (x ∷ xs) found e h = grind (arith, take_first is_other (x ∷ xs), all_but is_literal (x ∷ xs))

-- literals alone
pub met_literals : (entries found : List Entry) → first_other entries ≡ None → met entries found ≡ overloaded entries found
met_literals [] found h = refl
met_literals (x ∷ xs) found h = grind (arith, all_but is_literal (x ∷ xs))

pub all_literals : (entries : List Entry) → first_other entries ≡ None → list_all is_literal entries ≡ true
all_literals entries h = grind (arith, all_but is_literal entries)

pub filter_both : {X : Type 0} (p : X → Bool) (xs ys : List X) → filter p (xs ++ ys) ≡ filter p xs ++ filter p ys
filter_both p [] ys = refl
filter_both p (x ∷ xs) ys = grind (arith, filter_both p xs ys)

pub filter_twice : {X : Type 0} (p : X → Bool) (xs : List X) → filter p (filter p xs) ≡ filter p xs
filter_twice p [] = refl
filter_twice p (x ∷ xs) = grind (arith, filter_twice p xs)

pub filter_all : {X : Type 0} (p : X → Bool) (xs : List X) → list_all p xs ≡ true → filter p xs ≡ xs
filter_all p [] h = refl
filter_all p (x ∷ xs) h = grind (arith, filter_all p xs)

pub all_both : {X : Type 0} (p : X → Bool) (xs ys : List X) → list_all p xs ≡ true → list_all p ys ≡ true → list_all p (xs ++ ys) ≡ true
all_both p [] ys h k = k
all_both p (x ∷ xs) ys h k = grind (arith, all_both p xs ys)

pub all_filter : {X : Type 0} (p : X → Bool) (xs : List X) → list_all p (filter p xs) ≡ true
all_filter p [] = refl
all_filter p (x ∷ xs) = grind (arith, all_filter p xs)

-- ---- lists in a row

pub flat_push : {X : Type 0} (segments : List (List X)) (segment : List X) → flat (segments ++ segment ∷ []) ≡ flat segments ++ segment
flat_push [] segment = append-nil segment
flat_push (s ∷ segments) segment = ap (λ xs. s ++ xs) (flat_push segments segment) ∙ sym (append_assoc s (flat segments) segment)

get_front : {X : Type 0} (xs ys : List X) (i : ℕ) → i < length xs → slice_get (xs ++ ys) i ≡ slice_get xs i
get_front [] ys i h = grind arith
get_front (x ∷ xs) ys zero h = refl
get_front (x ∷ xs) ys (suc i) h = get_front xs ys i (grind arith)

get_behind : {X : Type 0} (xs ys : List X) (i : ℕ) → length xs ≤ i → slice_get (xs ++ ys) i ≡ slice_get ys (i - length xs)
get_behind [] ys i h = grind arith
get_behind (x ∷ xs) ys zero h = grind arith
get_behind (x ∷ xs) ys (suc i) h = grind (arith, get_behind xs ys i)

-- an entry of the list that is looked at
pub entry_here : (segments : List (List Entry)) (i rest place : ℕ) (segment d : List Entry) → i < length segments → segment ≡ get_or segments i d → rest < length segment
    → slice_get (flat (drop i segments)) rest ≡ slice_get (flat segments) place → slice_get segment rest ≡ slice_get (flat segments) place
entry_here segments i rest place segment d h is within inv =
    sym (get_front segment (flat (drop (i + 1) segments)) rest within)
    ∙ ap (λ s. slice_get (s ++ flat (drop (i + 1) segments)) rest) is
    ∙ sym (at_drop_more (λ xs. slice_get (flat xs) rest) segments i d h) ∙ inv

-- an entry behind it
pub entry_behind : (segments : List (List Entry)) (i rest place : ℕ) (segment d : List Entry) → i < length segments → segment ≡ get_or segments i d → length segment ≤ rest
    → slice_get (flat (drop i segments)) rest ≡ slice_get (flat segments) place → slice_get (flat (drop (i + 1) segments)) (rest - length segment) ≡ slice_get (flat segments) place
entry_behind segments i rest place segment d h is past inv =
    sym (get_behind segment (flat (drop (i + 1) segments)) rest past)
    ∙ ap (λ s. slice_get (s ++ flat (drop (i + 1) segments)) rest) is
    ∙ sym (at_drop_more (λ xs. slice_get (flat xs) rest) segments i d h) ∙ inv

-- the position of a literal in the lists that are left
pub position_left : (t : BaseType) (segments : List (List Entry)) (i : ℕ) (segment d : List Entry) → i < length segments → segment ≡ get_or segments i d
    → position_of t (flat (drop i segments)) ≡ position_of t (flat segments)
    → or_else (position_of t segment) (position_of t (flat (drop (i + 1) segments))) ≡ position_of t (flat segments)
position_left t segments i segment d h is inv =
    sym (position_append t segment (flat (drop (i + 1) segments)))
    ∙ ap (λ s. position_of t (s ++ flat (drop (i + 1) segments))) is
    ∙ sym (at_drop_more (λ xs. position_of t (flat xs)) segments i d h) ∙ inv

pub position_here : (t : BaseType) (segments : List (List Entry)) (i n : ℕ) (segment d : List Entry) → i < length segments → segment ≡ get_or segments i d
    → position_of t (flat (drop i segments)) ≡ position_of t (flat segments) → Some n ≡ position_of t segment → Some n ≡ position_of t (flat segments)
unfolding or_else
position_here t segments i n segment d h is inv e =
    ap (λ o. or_else o (position_of t (flat (drop (i + 1) segments)))) e ∙ position_left t segments i segment d h is inv

pub position_behind : (t : BaseType) (segments : List (List Entry)) (i : ℕ) (segment d : List Entry) → i < length segments → segment ≡ get_or segments i d
    → position_of t (flat (drop i segments)) ≡ position_of t (flat segments) → None ≡ position_of t segment
    → position_of t (flat (drop (i + 1) segments)) ≡ position_of t (flat segments)
unfolding or_else
position_behind t segments i segment d h is inv e =
    ap (λ o. or_else o (position_of t (flat (drop (i + 1) segments)))) e ∙ position_left t segments i segment d h is inv

pub position_nowhere : (t : BaseType) (segments : List (List Entry)) (i : ℕ) → length segments ≤ i
    → position_of t (flat (drop i segments)) ≡ position_of t (flat segments) → None ≡ position_of t (flat segments)
unfolding position_of
position_nowhere t segments i h inv = sym (at_drop_all (λ xs. position_of t (flat xs)) segments i h) ∙ inv

-- one more list is shared
pub shared_more : {X : Type 0} (segments more begun now : List (List X)) (i : ℕ) (segment d : List X) → i < length more → segment ≡ get_or more i d → now ≡ segments ++ segment ∷ []
    → flat segments ++ flat (drop i more) ≡ flat begun ++ flat more → flat now ++ flat (drop (i + 1) more) ≡ flat begun ++ flat more
shared_more segments more begun now i segment d h is n inv =
    ap (λ xs. flat xs ++ flat (drop (i + 1) more)) n
    ∙ ap (λ xs. xs ++ flat (drop (i + 1) more)) (flat_push segments segment)
    ∙ append_assoc (flat segments) segment (flat (drop (i + 1) more))
    ∙ ap (λ s. flat segments ++ (s ++ flat (drop (i + 1) more))) is
    ∙ sym (at_drop_more (λ xs. flat segments ++ flat xs) more i d h) ∙ inv

-- ---- what is looked up

first_behind : (entries : List Entry) (e : Entry) (o : Option Entry) → first_other entries ≡ o → first_of o e ≡ first_other (entries ++ e ∷ [])
unfolding first_of
first_behind entries e (Some x) h = sym (find_front is_other entries (e ∷ []) x h)
first_behind entries e None h = sym (find_append is_other entries (e ∷ []) h)

pub own_type : (t : BaseType) (n : ℕ) → own_number t ≡ Some n → t ≡ base.Own n
unfolding own_number
own_type (base.Own m) n h = search rules
own_type base.Boolean n h = absurd cc
own_type base.Bit n h = absurd cc
own_type base.Character n h = absurd cc
own_type base.StdUlogic n h = absurd cc
own_type base.Integer n h = absurd cc
own_type base.Time n h = absurd cc
own_type base.BitVector n h = absurd cc
own_type base.StdUlogicVector n h = absurd cc
own_type base.String n h = absurd cc
own_type base.IntegerVector n h = absurd cc

-- literals of types that are always visible stand among the visible ones
same_own : (t : BaseType) (n : ℕ) → own_number t ≡ None → same t (base.Own n) ≡ false
unfolding own_number
same_own (base.Own m) n h = absurd cc
same_own base.Boolean n h = refl
same_own base.Bit n h = refl
same_own base.Character n h = refl
same_own base.StdUlogic n h = refl
same_own base.Integer n h = refl
same_own base.Time n h = refl
same_own base.BitVector n h = refl
same_own base.StdUlogicVector n h = refl
same_own base.String n h = refl
same_own base.IntegerVector n h = refl

no_position : (t : BaseType) (e : Entry) → own_number t ≡ None → is_visible e ≡ false → position_in t e ≡ None
unfolding position_in is_visible
no_position t (entry.Literal (base.Own n) p) h v = rw (same_own t n h) refl
no_position t (entry.Literal base.Boolean p) h v = absurd cc
no_position t (entry.Literal base.Bit p) h v = absurd cc
no_position t (entry.Literal base.Character p) h v = absurd cc
no_position t (entry.Literal base.StdUlogic p) h v = absurd cc
no_position t (entry.Literal base.Integer p) h v = absurd cc
no_position t (entry.Literal base.Time p) h v = absurd cc
no_position t (entry.Literal base.BitVector p) h v = absurd cc
no_position t (entry.Literal base.StdUlogicVector p) h v = absurd cc
no_position t (entry.Literal base.String p) h v = absurd cc
no_position t (entry.Literal base.IntegerVector p) h v = absurd cc
no_position t (entry.Subtype mark) h v = refl
no_position t (entry.Object o) h v = refl
no_position t (entry.Function f) h v = refl
no_position t (entry.Unit u) h v = refl
no_position t (entry.Label n) h v = refl

kept_position : (t : BaseType) (e : Entry) (rest : List Entry) (b : Bool) → own_number t ≡ None → is_visible e ≡ b
    → position_of t (cond b (e ∷ rest) rest) ≡ or_else (position_in t e) (position_of t rest)
unfolding position_of or_else
kept_position t e rest true h v = refl
kept_position t e rest false h v = ap (λ o. or_else o (position_of t rest)) (sym (no_position t e h v))

pub visible_position : (t : BaseType) (entries : List Entry) → own_number t ≡ None → position_of t (filter is_visible entries) ≡ position_of t entries
unfolding position_of
visible_position t [] h = refl
visible_position t (e ∷ entries) h = kept_position t e (filter is_visible entries) (is_visible e) h refl ∙ ap (or_else (position_in t e)) (visible_position t entries h)

-- one more declaration
pub one_noted : (e : Entry) (own own2 : BTreeMap ℕ ℕ) (visible visible2 : List Entry) (other other2 : Option Entry) (entries entries2 : List Entry)
    → Indexed own visible other entries → Notes e own visible other own2 visible2 other2 → entries2 ≡ entries ++ e ∷ [] → Indexed own2 visible2 other2 entries2
unfolding position_of
one_noted e own own2 visible visible2 other other2 entries entries2 x n eq = record {
  own_is = λ k.
      n.own_is k ∙ ap (λ o. or_else o (position_in (base.Own k) e)) (x.own_is k)
      ∙ ap (or_else (position_of (base.Own k) entries)) (sym (or_else_none (position_in (base.Own k) e)))
      ∙ sym (position_append (base.Own k) entries (e ∷ [])) ∙ ap (position_of (base.Own k)) (sym eq);
  visible_is = n.visible_is ∙ ap (λ xs. xs ++ filter is_visible (e ∷ [])) x.visible_is ∙ sym (filter_both is_visible entries (e ∷ [])) ∙ ap (filter is_visible) (sym eq);
  other_is = n.other_is ∙ ap (λ o. first_of o e) x.other_is ∙ first_behind entries e (first_other entries) refl ∙ ap first_other (sym eq);
}

-- ---- the types of literals

some_first : (b : Bool) (n : ℕ) (o : Option ℕ) → is_some (or_else (if b then Some n else None) o) ≡ (b || is_some o)
unfolding or_else
some_first true n o = refl
some_first false n o = refl

pub has_literal : (t : BaseType) (entries : List Entry) → is_some (position_of t entries) ≡ list_any (same t) (literal_types entries)
unfolding position_of literal_types literal_type position_in or_else
has_literal t [] = refl
has_literal t (entry.Literal u n ∷ entries) = some_first (same t u) n (position_of t entries) ∙ ap (λ b. same t u || b) (has_literal t entries)
has_literal t (entry.Subtype mark ∷ entries) = has_literal t entries
has_literal t (entry.Object o ∷ entries) = has_literal t entries
has_literal t (entry.Function f ∷ entries) = has_literal t entries
has_literal t (entry.Unit u ∷ entries) = has_literal t entries
has_literal t (entry.Label n ∷ entries) = has_literal t entries

-- the type at a place, where all are literals or there is one entry
type_at_literals : (entries : List Entry) (i : ℕ) → list_all is_literal entries ≡ true → slice_get (literal_types entries) i ≡ type_of (slice_get entries i)
unfolding literal_types literal_type
type_at_literals [] i h = refl
type_at_literals (entry.Literal t n ∷ entries) zero h = refl
type_at_literals (entry.Literal t n ∷ entries) (suc i) h = type_at_literals entries i h
type_at_literals (entry.Subtype mark ∷ entries) i h = absurd cc
type_at_literals (entry.Object o ∷ entries) i h = absurd cc
type_at_literals (entry.Function f ∷ entries) i h = absurd cc
type_at_literals (entry.Unit u ∷ entries) i h = absurd cc
type_at_literals (entry.Label n ∷ entries) i h = absurd cc

pub type_at : (entries : List Entry) (i : ℕ) → list_all is_literal entries ≡ true → type_of (slice_get entries i) ≡ slice_get (literal_types entries) i
type_at entries i h = sym (type_at_literals entries i h)

pub types_counted : (entries : List Entry) → list_all is_literal entries ≡ true → length entries ≡ length (literal_types entries)
unfolding literal_types literal_type
types_counted [] h = refl
types_counted (entry.Literal t n ∷ entries) h = ap (λ n. suc n) (types_counted entries h)
types_counted (entry.Subtype mark ∷ entries) h = absurd cc
types_counted (entry.Object o ∷ entries) h = absurd cc
types_counted (entry.Function f ∷ entries) h = absurd cc
types_counted (entry.Unit u ∷ entries) h = absurd cc
types_counted (entry.Label n ∷ entries) h = absurd cc

-- one entry is a literal or none
pub whether_first : (entries : List Entry) (e : Entry) (b : Bool) → slice_get entries 0 ≡ Some e → is_literal e ≡ b → (list_all is_literal entries ≡ true) ⊎ (length entries ≡ 1) → WhetherLiterals b entries
unfolding literal_types literal_type
whether_first entries e true h l (inl a) = a
whether_first [] e b h l a = absurd cc
whether_first (x ∷ []) e true h l (inr a) = grind arith
whether_first (x ∷ y ∷ entries) e b h l (inr a) = absurd (grind arith)
whether_first (entry.Literal t n ∷ entries) e false h l a = absurd (grind arith)
whether_first (entry.Subtype mark ∷ []) e false h l a = refl
whether_first (entry.Object o ∷ []) e false h l a = refl
whether_first (entry.Function f ∷ []) e false h l a = refl
whether_first (entry.Unit u ∷ []) e false h l a = refl
whether_first (entry.Label n ∷ []) e false h l a = refl
whether_first (x ∷ y ∷ entries) e false h l (inl a) = absurd (grind arith)

pub no_literals : (entries : List Entry) → slice_get entries 0 ≡ None → list_all is_literal entries ≡ true
no_literals [] h = refl
no_literals (x ∷ entries) h = absurd cc

-- how many there are
pub counted_more : {X : Type 0} (segments : List (List X)) (i len now : ℕ) (segment d : List X) → i < length segments → segment ≡ get_or segments i d → now ≡ len + length segment
    → len + length (flat (drop i segments)) ≡ length (flat segments) → now + length (flat (drop (i + 1) segments)) ≡ length (flat segments)
counted_more segments i len now segment d h is n inv =
    ap (λ k. k + length (flat (drop (i + 1) segments))) n
    ∙ add_assoc len (length segment) (length (flat (drop (i + 1) segments)))
    ∙ ap (λ k. len + k) (sym (length-append segment (flat (drop (i + 1) segments))) ∙ ap (λ s. length (s ++ flat (drop (i + 1) segments))) is ∙ sym (at_drop_more (λ xs. length (flat xs)) segments i d h))
    ∙ inv

-- a list of one literal
pub literal_pushed : (segments now : List (List Entry)) (one : List Entry) (e : Entry) → is_literal e ≡ true → one ≡ [] ++ e ∷ [] → now ≡ segments ++ one ∷ []
    → flat now ≡ flat segments ++ filter is_literal (e ∷ [])
literal_pushed segments now one e h o n =
    ap flat n ∙ flat_push segments one ∙ ap (λ xs. flat segments ++ xs) (o ∙ sym (filter_all is_literal (e ∷ []) (rw h refl)))

-- literals that are shared are literals alone, and are what the definition says
pub shared_literals : (base more found : List Entry) (first second now : List (List Entry)) → list_all is_literal (base ++ more) ≡ true → first ≡ [] ++ base ∷ [] → second ≡ first ++ more ∷ []
    → flat now ≡ flat second ++ filter is_literal found → flat now ≡ base ++ more ++ filter is_literal found
shared_literals base more found first second now h f s n =
    n ∙ ap (λ xs. flat xs ++ filter is_literal found) (s ∙ ap (λ xs. xs ++ more ∷ []) f) ∙ ap (λ xs. base ++ xs ++ filter is_literal found) (append-nil more)

pub all_shared : (base more found now : List Entry) → list_all is_literal (base ++ more) ≡ true → now ≡ base ++ more ++ filter is_literal found → list_all is_literal now ≡ true
all_shared base more found now h n = ap (list_all is_literal) n ∙ all_both is_literal (base ++ more) (filter is_literal found) h (all_filter is_literal found)

any_found : (b : Bool) (e : Entry) (o : Option Entry) (rest : Bool) → is_some o ≡ rest → is_some (if b then Some e else o) ≡ (b || rest)
any_found true e o rest h = refl
any_found false e o rest h = h

pub some_other : (entries : List Entry) → is_some (first_other entries) ≡ list_any is_other entries
some_other [] = refl
some_other (e ∷ entries) = any_found (is_other e) e (first_other entries) (list_any is_other entries) (some_other entries)

pub begins_with : {X : Type 0} (o : Option X) (xs : List X) → o ≡ slice_get xs 0 → BeginsWith o xs
begins_with None [] h = refl
begins_with None (x ∷ xs) h = absurd cc
begins_with (Some x) [] h = absurd cc
begins_with (Some x) (y ∷ xs) h = (xs, search rules)
