-- Lemmas on types by blocks.
use Rattle.std.proofs.Common.{rules, ◌≡◌, ◌<◌, ◌≤◌, ◌+◌, ◌/◌, ◌%◌, ◌^◌, ◌==◌, ℕ, Bool, true, false, List, [], ◌∷◌, ◌++◌, refl, sym, ◌∙◌, ap, subst, arith, length, Option, inl, inr, if◌then◌else◌, bit_and, bit_or}
use Rattle.std.specs.Prelude.{Some, None, slice_get}
use Rattle.std.specs.BTreeMap.{BTreeMap}
use Rattle.std.proofs.lemmas.Bool.{cases_eq, cases_order, eqb-true, eq-eqb, ne_eqb}
use Rattle.std.proofs.lemmas.Nat.{pow_pos, pow_apart, and_le_l, and_assoc, and_or_self, and_or_apart}
use Rattle.std.proofs.lemmas.List.{length-append, get_or_append_left}
use Rattle.std.proofs.lemmas.Option.{slice_get_within, slice_get-get_or, get_or_from_slice_get}
use Rattle.vhdl_units.specs.declared.base_type.BaseType.TheVariants as base
use Rattle.vhdl_units.specs.declared.entry.Entry.{Entry}
use Rattle.vhdl_units.specs.declared.entry.Entry.TheVariants as entry
use Rattle.vhdl_names_overloads.specs.declared.blocks.Block.{Block}
use Rattle.vhdl_names_overloads.specs.declared.blocks.Run.{Run}
use Rattle.vhdl_names_overloads.specs.declared.blocks.Blocks.{Blocks}
use Rattle.vhdl_names_overloads.specs.Literals.{position_in, or_else, position_of}
use Rattle.vhdl_names_overloads.specs.Tables.{own_number}
use Rattle.vhdl_names_overloads.specs.Blocks.{own_of, with_type, HasBit, Holds, Within, Inside, Covers, bits_at, Marked, Summary, Takes, Ready, Apart}
use Rattle.vhdl_names_overloads.proofs.Lists.{position_append}

-- ---- bits

more_bits : (bits i j : ℕ) → bit_and bits (2 ^ j) ≡ 2 ^ j → bit_and (bit_or bits (2 ^ i)) (2 ^ j) ≡ 2 ^ j
more_bits bits i j h = elim (cases_eq i j) [
  | inl e ↦ subst (λ k. bit_and (bit_or bits (2 ^ k)) (2 ^ j) ≡ 2 ^ j) (sym e) (and_or_self (2 ^ j) bits)
  | inr ne ↦ and_or_apart (2 ^ j) bits (2 ^ i) (pow_apart i j ne) ∙ h
]

both_bits : (a b j : ℕ) → bit_and a (2 ^ j) ≡ 2 ^ j → bit_and b (2 ^ j) ≡ 2 ^ j → bit_and a b ≡ 0 → ⊥
both_bits a b j h k z =
    let e : bit_and (bit_and a b) (2 ^ j) ≡ 2 ^ j = and_assoc (2 ^ j) a b ∙ ap (bit_and a) k ∙ h in
    omega (arith, pow_pos j, and_le_l (bit_and a b) (2 ^ j))

pub now_marked : (old new : ℕ → ℕ) (number : ℕ) → ((n : ℕ) → new n ≡ (if number / 128 == n then bit_or (old (number / 128)) (2 ^ (number % 128)) else old n))
    → HasBit (new (number / 128)) number
now_marked old new number h =
    subst (λ bits. bit_and bits (2 ^ (number % 128)) ≡ 2 ^ (number % 128))
    (sym (h (number / 128) ∙ ap (λ b. if b then bit_or (old (number / 128)) (2 ^ (number % 128)) else old (number / 128)) (eq-eqb (number / 128) (number / 128) refl)))
    (and_or_self (2 ^ (number % 128)) (old (number / 128)))

pub still_marked : (old new : ℕ → ℕ) (number : ℕ) → ((n : ℕ) → new n ≡ (if number / 128 == n then bit_or (old (number / 128)) (2 ^ (number % 128)) else old n))
    → (n : ℕ) → HasBit (old (n / 128)) n → HasBit (new (n / 128)) n
still_marked old new number h n m = elim (cases_eq (number / 128) (n / 128)) [
  | inl e ↦
      subst (λ bits. bit_and bits (2 ^ (n % 128)) ≡ 2 ^ (n % 128))
      (sym (h (n / 128) ∙ ap (λ b. if b then bit_or (old (number / 128)) (2 ^ (number % 128)) else old (n / 128)) (eq-eqb (number / 128) (n / 128) e) ∙ ap (λ k. bit_or (old k) (2 ^ (number % 128))) e))
      (more_bits (old (n / 128)) (number % 128) (n % 128) m)
  | inr ne ↦
      subst (λ bits. bit_and bits (2 ^ (n % 128)) ≡ 2 ^ (n % 128))
      (sym (h (n / 128) ∙ ap (λ b. if b then bit_or (old (number / 128)) (2 ^ (number % 128)) else old (n / 128)) (ne_eqb (number / 128) (n / 128) ne)))
      m
]

-- ---- the type of a literal

own_here : (b : Bool) (n m p q : ℕ) → (n == m) ≡ b → (if b then Some q else None) ≡ Some p → Some m ≡ Some n
own_here true n m p q e h = ap Some (sym (eqb-true n m e))
own_here false n m p q e h = absurd cc

pub own_position : (e : Entry) (n p : ℕ) → position_in (base.Own n) e ≡ Some p → own_of e ≡ Some n
unfolding position_in own_of own_number
own_position (entry.Literal (base.Own m) q) n p h = own_here (n == m) n m p q refl h
own_position (entry.Literal base.Boolean q) n p h = absurd cc
own_position (entry.Literal base.Bit q) n p h = absurd cc
own_position (entry.Literal base.Character q) n p h = absurd cc
own_position (entry.Literal base.StdUlogic q) n p h = absurd cc
own_position (entry.Literal base.Integer q) n p h = absurd cc
own_position (entry.Literal base.Time q) n p h = absurd cc
own_position (entry.Literal base.BitVector q) n p h = absurd cc
own_position (entry.Literal base.StdUlogicVector q) n p h = absurd cc
own_position (entry.Literal base.String q) n p h = absurd cc
own_position (entry.Literal base.IntegerVector q) n p h = absurd cc
own_position (entry.Subtype mark) n p h = absurd cc
own_position (entry.Object o) n p h = absurd cc
own_position (entry.Function f) n p h = absurd cc
own_position (entry.Unit u) n p h = absurd cc
own_position (entry.Label l) n p h = absurd cc

-- ---- one more entry

at_front : (entries : List Entry) (e x : Entry) (p : ℕ) → p < length entries → slice_get (entries ++ e ∷ []) p ≡ Some x → slice_get entries p ≡ Some x
at_front entries e x p h is =
    slice_get-get_or entries p e h
    ∙ ap Some (sym (get_or_append_left entries (e ∷ []) e p h) ∙ get_or_from_slice_get (entries ++ e ∷ []) p x e is)

at_back : (entries : List Entry) (e x : Entry) → slice_get (entries ++ e ∷ []) (length entries) ≡ Some x → x ≡ e
at_back [] e x is = search rules
at_back (y ∷ entries) e x is = at_back entries e x is

inside_more : (b : Option Block) (start end : ℕ) (entries : List Entry) (e : Entry) → end ≤ length entries → Inside b start end entries → Inside b start end (entries ++ e ∷ [])
inside_more b start end entries e h i = λ p x s t is. i p x s t (at_front entries e x p (omega arith) is)

longer : (entries : List Entry) (e : Entry) → length (entries ++ e ∷ []) ≡ length entries + 1
longer entries e = length-append entries (e ∷ [])

inside_one : (b c : Option Block) (start : ℕ) (entries : List Entry) (e : Entry) → ((x : Entry) → Within b x → Within c x) → Within c e → Inside b start (length entries) entries
    → Inside c start (length (entries ++ e ∷ [])) (entries ++ e ∷ [])
inside_one b c start entries e old new i = λ p x s t is. elim (cases_order p (length entries)) [
  | inl q ↦ subst (λ y. Within c y) (sym (at_back entries e x (subst (λ k. slice_get (entries ++ e ∷ []) k ≡ Some x) q is))) new
  | inr (inl q) ↦ old x (i p x s q (at_front entries e x p q is))
  | inr (inr q) ↦ absurd (omega (arith, longer entries e))
]

pub begins_within : (start : ℕ) (runs : List Run) (b : Option Block) (entries : List Entry) → Covers start runs b entries → start ≤ length entries
begins_within start [] b entries c = c.0
begins_within start (r ∷ runs) b entries c = let h : r.end ≤ length entries = begins_within r.end runs b entries c.2 in let k : start ≤ r.end = c.0 in omega arith

covers_one : (start : ℕ) (runs : List Run) (b c : Option Block) (entries : List Entry) (e : Entry) → ((x : Entry) → Within b x → Within c x) → Within c e → Covers start runs b entries
    → Covers start runs c (entries ++ e ∷ [])
covers_one start [] b c entries e old new h =
    let k : start ≤ length entries = h.0 in
    (omega (arith, longer entries e), inside_one b c start entries e old new h.1)
covers_one start (r ∷ runs) b c entries e old new h =
    (h.0, inside_more r.block start r.end entries e (begins_within r.end runs b entries h.2) h.1, covers_one r.end runs b c entries e old new h.2)

-- a run ends
covers_turned : (start : ℕ) (runs : List Run) (b c : Option Block) (entries : List Entry) (r : Run) → r.end ≡ length entries → r.block ≡ b → Covers start runs b entries
    → Covers start (runs ++ r ∷ []) c entries
covers_turned start [] b c entries r e is h =
    let k : start ≤ length entries = h.0 in
    (omega arith, λ p x s t i. subst (λ d. Within d x) (sym is) (h.1 p x s (omega arith) i), (omega arith, λ p x s t i. absurd (omega (arith, slice_get_within entries p x i))))
covers_turned start (q ∷ runs) b c entries r e is h = (h.0, h.1, covers_turned q.end runs b c entries r e is h.2)

-- of no entries
covers_none : (start : ℕ) (runs : List Run) (b c : Option Block) (entries : List Entry) → length entries ≡ 0 → Covers start runs b entries → Covers start runs c entries
covers_none start [] b c entries e h = (h.0, λ p x s t i. absurd (omega (arith, slice_get_within entries p x i)))
covers_none start (r ∷ runs) b c entries e h = (h.0, h.1, covers_none r.end runs b c entries e h.2)

-- ---- what is told of entries

pub turned : (b c : Blocks) (entries : List Entry) (r : Run) → c.bits ≡ b.bits → c.closed.items ≡ b.closed.items ++ r ∷ [] → r.end ≡ length entries → r.block ≡ b.current
    → Summary b entries → Summary c entries
turned b c entries r same_bits closed end block s = record {
  marked = subst (λ m. Marked m entries) (sym same_bits) s.marked;
  covers = subst (λ runs. Covers 0 runs c.current entries) (sym closed) (covers_turned 0 b.closed.items b.current c.current entries r end block s.covers);
}

pub begun : (b c : Blocks) (entries : List Entry) → c.bits ≡ b.bits → c.closed ≡ b.closed → length entries ≡ 0 → Summary b entries → Summary c entries
begun b c entries same_bits closed e s = record {
  marked = subst (λ m. Marked m entries) (sym same_bits) s.marked;
  covers = subst (λ v. Covers 0 v.items c.current entries) (sym closed) (covers_none 0 b.closed.items b.current c.current entries e s.covers);
}

some_number : (n m : ℕ) → Some n ≡ Some m → n ≡ m
some_number n m h = search rules

type_held : (b c : Option Block) (o : Option ℕ) (e : Entry) → own_of e ≡ o → Takes b o → c ≡ with_type b o → Within c e
unfolding with_type
type_held b c None e is t eq = subst (λ d. Within d e) (sym (eq ∙ ap (λ d. with_type d None) t)) tt
type_held None c (Some n) e is t eq = absurd t
type_held (Some b) c (Some n) e is t eq =
    subst (λ d. Within d e) (sym eq) (n, is, record { number_is = t; bit_is = and_or_self (2 ^ (n % 128)) b.bits })

types_kept : (b c : Option Block) (o : Option ℕ) (x : Entry) → c ≡ with_type b o → Within b x → Within c x
unfolding with_type
types_kept None c None x eq w = subst (λ d. Within d x) (sym eq) tt
types_kept None c (Some n) x eq w = subst (λ d. Within d x) (sym eq) tt
types_kept (Some b) c None x eq w = subst (λ d. Within d x) (sym eq) w
types_kept (Some b) c (Some n) x eq w =
    subst (λ d. Within d x) (sym eq) (w.0, w.1, record { number_is = w.2.number_is; bit_is = more_bits b.bits (n % 128) (w.0 % 128) w.2.bit_is })

marked_one : (bits : BTreeMap ℕ ℕ) (entries : List Entry) (e : Entry) (n p : ℕ) (o : Option ℕ) → position_of (base.Own n) entries ≡ o → Marked bits entries
    → ((m : ℕ) → own_of e ≡ Some m → HasBit (bits_at bits (m / 128)) m) → position_of (base.Own n) (entries ++ e ∷ []) ≡ Some p → HasBit (bits_at bits (n / 128)) n
unfolding position_of or_else
marked_one bits entries e n p (Some q) is m new h = m n q is
marked_one bits entries e n p None is m new h =
    new n (own_position e n p (only_else (position_in (base.Own n) e) p (ap (λ o. or_else o (or_else (position_in (base.Own n) e) None)) (sym is) ∙ sym (position_append (base.Own n) entries (e ∷ [])) ∙ h)))
  where
    only_else : (o : Option ℕ) (p : ℕ) → or_else o None ≡ Some p → o ≡ Some p
    only_else (Some q) p h = h
    only_else None p h = h

pub added : (b c : Blocks) (entries : List Entry) (e : Entry) → c.bits ≡ b.bits → c.closed ≡ b.closed → c.current ≡ with_type b.current (own_of e) → Ready b e → Summary b entries
    → Summary c (entries ++ e ∷ [])
added b c entries e same_bits closed current r s = record {
  marked = subst (λ m. Marked m (entries ++ e ∷ [])) (sym same_bits)
      (λ n p h. marked_one b.bits entries e n p (position_of (base.Own n) entries) refl s.marked r.marked h);
  covers = subst (λ v. Covers 0 v.items c.current (entries ++ e ∷ [])) (sym closed)
      (covers_one 0 b.closed.items b.current c.current entries e (λ x w. types_kept b.current c.current (own_of e) x current w)
      (type_held b.current c.current (own_of e) e refl r.takes current) s.covers);
}

-- ---- blocks that share no type

apart_here : (bits : BTreeMap ℕ ℕ) (b : Block) (entries : List Entry) (n : ℕ) (o : Option ℕ) → position_of (base.Own n) entries ≡ o → Marked bits entries
    → bit_and (bits_at bits b.number) b.bits ≡ 0 → Holds b n → o ≡ None
apart_here bits b entries n None is m z h = refl
apart_here bits b entries n (Some p) is m z h =
    absurd (both_bits (bits_at bits b.number) b.bits (n % 128) (subst (λ k. HasBit (bits_at bits k) n) (sym h.number_is) (m n p is)) h.bit_is z)

pub apart : (bits : BTreeMap ℕ ℕ) (b : Block) (entries : List Entry) → Marked bits entries → bit_and (bits_at bits b.number) b.bits ≡ 0 → Apart b entries
apart bits b entries m z = λ n h. apart_here bits b entries n (position_of (base.Own n) entries) refl m z h

-- ---- no entries

none_marked : (bits : BTreeMap ℕ ℕ) → Marked bits []
unfolding position_of
none_marked bits n p h = absurd cc

pub fresh : (b : Blocks) → b.closed.items ≡ [] → Summary b []
fresh b e = record {
  marked = none_marked b.bits;
  covers = subst (λ runs. Covers 0 runs b.current []) (sym e) (omega arith, λ p x s t i. absurd (omega (arith, slice_get_within [] p x i)));
}
