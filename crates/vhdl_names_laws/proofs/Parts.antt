-- What follows an identifier keeps what its name tells and what it denotes together.
use Rattle.std.proofs.Common.{◌≡◌, ℕ, Bool, true, false, ◌&&◌, if◌then◌else◌, Option, Some, None, List, [], ◌∷◌, ◌++◌, map, inr, refl, ap, sym, ◌∙◌}
use Rattle.std.proofs.Math.Bool.{and-true, and_assoc}
use Rattle.std.proofs.lemmas.Bool.{and_from, and_parts}
use Rattle.std.specs.List.{list_all}
use Rattle.vhdl_names_laws.specs.Known.{all_known, known_part, known_value}
use Rattle.vhdl_names_laws.proofs.NamesTell.{Begins, IsOne, IsRange, IsValueOf, Means, PartTells, PartsTell}
use Rattle.vhdl_names_laws.specs.Meanings.{IsObject, bounds_are_static, flag_of, part_is_static}
use Rattle.vhdl_names_laws.specs.Tells.{Tells}
use Rattle.vhdl_names_laws.specs.Typed.{HasType, given_by, type_with}
use Rattle.vhdl_names_laws.proofs.Faults.{Fine, asked, asked_static, asked_type}
use Rattle.vhdl_names_laws.proofs.Free.{both_empty}
use Rattle.vhdl_names_laws.proofs.Knows.{known_at, known_attribute, known_call, known_index, known_parts, known_position, known_slice}
use Rattle.vhdl_names_laws.proofs.OfType.{leads_on, type_at, type_attribute, type_call, type_index, type_parts, type_position, type_slice}
use Rattle.vhdl_names_meaning.specs.Attributes.{attribute_type, is_bound}
use Rattle.vhdl_names_meaning.specs.Names as meaning
use Rattle.vhdl_names_meaning.specs.Settling.{settled}
use Rattle.vhdl_names_meaning.specs.declared.candidates.Candidate.{Candidate, out-Candidate}
use Rattle.vhdl_names_meaning.specs.declared.candidates.Denoted.{Denoted}
use Rattle.vhdl_names_meaning.specs.declared.candidates.PartCandidate.{PartCandidate}
use Rattle.vhdl_tokens.specs.declared.token.Token.{Token}
use Rattle.vhdl_tree.specs.declared.expressions.Direction.{Direction}
use Rattle.vhdl_units.specs.Faults.{at}
use Rattle.vhdl_units.specs.Types.{element, is_array, is_enumeration}
use Rattle.vhdl_units.specs.declared.base_type.BaseType.{BaseType}
use Rattle.vhdl_units.specs.declared.entry.Function.{Function}
use Rattle.vhdl_names_typing.specs.Attributes.{attribute_of, has_bounds, is_array_type, is_signal, is_static_class}
use Rattle.vhdl_names_typing.specs.Faults.{asks, typing_of}
use Rattle.vhdl_names_typing.specs.Names as typing
use Rattle.vhdl_names_typing.specs.declared.told.Attribute.{Attribute}
use Rattle.vhdl_names_typing.specs.declared.told.Denotes.{Denotes}
use Rattle.vhdl_names_typing.specs.declared.told.NameTold.{NameTold}
use Rattle.vhdl_names_typing.specs.declared.told.ObjectName.{ObjectName}
use Rattle.vhdl_names_typing.specs.declared.told.PartTold.{PartTold}
use Rattle.vhdl_names_typing.specs.declared.told.Told.{Told}
use Rattle.vhdl_names_typing.specs.declared.told.TypeAttribute.{TypeAttribute}
use Rattle.vhdl_units.specs.declared.values.ObjectAttribute.{ObjectAttribute}
use Rattle.vhdl_units.specs.declared.values.PartValue.{PartValue, out-PartValue, out-roll-PartValue}
use Rattle.vhdl_units.specs.declared.values.Value.{Value}
use Rattle.vhdl_units.specs.declared.base_type.BaseType.TheVariants as base
use Rattle.vhdl_names_typing.specs.declared.told.Attribute.TheVariants as attribute
use Rattle.vhdl_names_meaning.specs.declared.candidates.Denoted.TheVariants as denoted
use Rattle.vhdl_names_typing.specs.declared.told.Denotes.TheVariants as denotes
use Rattle.vhdl_units.specs.declared.entry.Function.TheVariants as function
use Rattle.vhdl_names_meaning.specs.declared.candidates.PartCandidate.TheVariants as part_candidate
use Rattle.vhdl_names_typing.specs.declared.told.PartTold.TheVariants as part_told
use Rattle.vhdl_units.specs.declared.fault.Rule.TheVariants as rule
use Rattle.vhdl_names_typing.specs.declared.told.TypeAttribute.TheVariants as type_attribute
use Rattle.vhdl_units.specs.declared.values.ObjectAttribute.TheVariants as object_attribute
use Rattle.vhdl_units.specs.declared.values.PartValue.TheVariants as part
use Rattle.vhdl_units.specs.declared.values.ChoiceValue.TheOpen.{PartValue-F}
use Rattle.vhdl_units.specs.declared.values.Value.TheVariants as value

-- ---- where a rule is broken, nothing is owed

wrong_begins : (n : NameTold) (d : Denoted) → Begins (typing.wrong_kind n) d
unfolding typing.wrong_kind
wrong_begins n d = λ names typed fits. let both = both_empty n.names (at n.place rule.WrongKind) names in absurd cc

misfit_begins : (x : Denotes) (n : NameTold) (d : Denoted) → Begins (typing.misfits x n) d
unfolding typing.misfits
misfit_begins x n d = λ names typed fits. absurd cc

no_such_begins : (place : ℕ) (n : NameTold) (d : Denoted) → Begins (typing.has_no_such place n) d
unfolding typing.has_no_such
no_such_begins place n d = λ names typed fits. let both = both_empty n.names (at place rule.Attribute) names in absurd cc

or_no_such : (b : Bool) (good : NameTold) (place : ℕ) (n : NameTold) (d : Denoted) → Begins good d → Begins (if b then good else typing.has_no_such place n) d
or_no_such true good place n d h = h
or_no_such false good place n d h = no_such_begins place n d

-- ---- what a name has taken

-- where no rule is broken so far, this holds as well, and it denotes what it denoted
abbrev pub Took : Denotes → NameTold → Bool → Type 0 → Denoted → Type 0
Took x n static A d = n.names ≡ [] → n.typing ≡ [] → n.is_misfit ≡ false → A × Means x n.types static d

pub took_one : (n : NameTold) (told : Told) (d : Denoted) → Begins n d → Took n.denotes (typing.takes n told) n.is_static (Fine told) d
unfolding typing.takes
took_one n told d h = λ names typed fits.
    let ns = both_empty n.names told.names names in
    let ts = both_empty n.typing (typing_of told) typed in
    ((ns.1, ts.1), h ns.0 ts.0 fits)

abbrev pub BothFine : Told → Told → Type 0
BothFine left right = Fine left × Fine right

pub took_two : (n : NameTold) (left right : Told) (d : Denoted) → Begins n d → Took n.denotes (typing.takes (typing.takes n left) right) n.is_static (BothFine left right) d
unfolding typing.takes
took_two n left right d h = λ names typed fits.
    let ns = both_empty (n.names ++ left.names) right.names names in
    let ts = both_empty (n.typing ++ typing_of left) (typing_of right) typed in
    let t = took_one n left d h ns.0 ts.0 fits in
    ((t.0, (ns.1, ts.1)), t.1)

-- ---- an element

more_known : (parts : List PartValue) (p : PartValue) → all_known (map known_part parts) ≡ true → known_part p ≡ true → all_known (map known_part (parts ++ p ∷ [])) ≡ true
more_known [] p h k = and_from (known_part p) true k refl
more_known (q ∷ parts) p h k = let both = and_parts (known_part q) (all_known (map known_part parts)) h in
    and_from (known_part q) (all_known (map known_part (parts ++ p ∷ []))) both.0 (more_known parts p both.1 k)

-- ---- the flags of what follows the name of an object

more_static : (parts : List PartValue) (p : PartValue) → list_all part_is_static (parts ++ p ∷ []) ≡ (list_all part_is_static parts && part_is_static p)
more_static [] p = and-true (part_is_static p)
more_static (q ∷ parts) p = ap (λ b. part_is_static q && b) (more_static parts p) ∙ sym (and_assoc (part_is_static q) (list_all part_is_static parts) (part_is_static p))

last_static : (parts : List PartValue) (p : PartValue) → bounds_are_static (parts ++ p ∷ []) ≡ part_is_static p
unfolding bounds_are_static
last_static [] p = refl
last_static (q ∷ []) p = refl
last_static (q ∷ r ∷ parts) p = last_static (r ∷ parts) p

pub index_flag : (v : Value) (is_static : Bool) → part_is_static (part.Index v is_static) ≡ is_static
unfolding part_is_static
index_flag v is_static = ap (λ p. flag_of (out-PartValue p)) (sym (part.rolls-Index v is_static)) ∙ ap flag_of (out-roll-PartValue (PartValue-F.Index v is_static))

slice_flag : (left : Value) (direction : Direction) (right : Value) (are_static : Bool) → part_is_static (part.Slice left direction right are_static) ≡ are_static
unfolding part_is_static
slice_flag left direction right are_static =
    ap (λ p. flag_of (out-PartValue p)) (sym (part.rolls-Slice left direction right are_static)) ∙ ap flag_of (out-roll-PartValue (PartValue-F.Slice left direction right are_static))

-- with one more part the flags are those of the longer name
both_static : (a b c d : Bool) → a ≡ b → c ≡ d → (a && c) ≡ (b && d)
both_static a b c d h k = rw (h, k) refl

element_is : (o : ObjectName) (e : BaseType) (told : Told) (c : Candidate) (d : Denoted) → Some e ≡ typing.element_of o.base → known_value (settled c base.Integer) ≡ true
    → HasType (settled c base.Integer) base.Integer → (out-Candidate c).is_static ≡ told.is_static → IsObject o d
    → IsObject (typing.part_of o (Some e) told.is_static) (meaning.indexed d c)
unfolding meaning.indexed meaning.element_denoted typing.part_of typing.element_of
element_is o e told c d same known integer flag h = let is : Some e ≡ element h.base = rw h.typed at same in record {
  base = e;
  parts = h.parts ++ part.Index (settled c base.Integer) (out-Candidate c).is_static ∷ [];
  is_static = h.is_static && (out-Candidate c).is_static;
  is = ap (λ x. meaning.indexed x c) h.is ∙ ap (λ u. meaning.element_denoted o.object h.parts u h.is_static c) (sym is);
  typed = refl;
  known = more_known h.parts (part.Index (settled c base.Integer) (out-Candidate c).is_static) h.known (known_index _ _ ∙ known);
  leads = leads_on (Some o.object.base) h.parts (part.Index (settled c base.Integer) (out-Candidate c).is_static) h.base e h.leads
      (type_index (settled c base.Integer) (out-Candidate c).is_static h.base integer ∙ sym is);
  static = both_static h.is_static o.is_static (out-Candidate c).is_static told.is_static h.static flag;
  parts_static = more_static h.parts (part.Index (settled c base.Integer) (out-Candidate c).is_static)
      ∙ both_static (list_all part_is_static h.parts) o.is_static _ told.is_static h.parts_static (index_flag (settled c base.Integer) (out-Candidate c).is_static ∙ flag);
  bounds_static = last_static h.parts (part.Index (settled c base.Integer) (out-Candidate c).is_static) ∙ index_flag (settled c base.Integer) (out-Candidate c).is_static ∙ flag;
}

-- a longer name is globally static as a value where the shorter one is, and what is added
longer_static : (o : ObjectName) (n s added : Bool) (d : Denoted) → n ≡ (s && added) → IsValueOf o s d → n ≡ (is_static_class o.object.class && (o.is_static && added))
longer_static o n s added d is h = is ∙ ap (λ b. b && added) h.told ∙ and_assoc (is_static_class o.object.class) o.is_static added

element_begins : (o : ObjectName) (e : Option BaseType) (told : Told) (n : NameTold) (s : Bool) (c : Candidate) (d : Denoted) → e ≡ typing.element_of o.base → n.is_static ≡ (s && told.is_static) → Tells told c
    → Took (denotes.Object o) n s (Fine told) d
    → Begins (typing.element_named o e told n) (meaning.indexed d c)
unfolding typing.element_named typing.with_typing typing.with_denoted typing.part_of
element_begins o (Some e) told n s c d same static tells took = λ names typed fits.
    let ts = both_empty n.typing (asks base.Integer told) typed in
    let t = took names ts.0 fits in
    record {
      object = element_is o e told c d same (asked base.Integer told c tells t.0 ts.1) (asked_type base.Integer told c tells t.0 ts.1) (asked_static base.Integer told c tells t.0 ts.1) t.1.object;
      told = longer_static o n.is_static s told.is_static d static t.1;
    }
element_begins o None told n s c d same static tells took = misfit_begins (denotes.Object (typing.part_of o None told.is_static)) n (meaning.indexed d c)

-- ---- a function or an attribute of a type with its argument

call_is : (f : Function) (t : BaseType) (c : Candidate) (d : Denoted) → d ≡ denoted.Function f
    → meaning.called f (settled c base.StdUlogic) ≡ denoted.Value (value.Call f (settled c base.StdUlogic)) t false
    → known_value (settled c base.StdUlogic) ≡ true → given_by f ≡ Some t → HasType (settled c base.StdUlogic) base.StdUlogic → IsOne (t ∷ []) false (meaning.indexed d c)
unfolding meaning.indexed
call_is f t c d same gives known given argument = record {
  type = t;
  value = value.Call f (settled c base.StdUlogic);
  is_static = false;
  is = ap (λ x. meaning.indexed x c) same ∙ gives;
  typed = refl;
  known = known_call f (settled c base.StdUlogic) ∙ known;
  has_type = type_call f (settled c base.StdUlogic) t given argument;
  told = refl;
}

edge_begins : (f : Function) (told : Told) (n : NameTold) (s : Bool) (c : Candidate) (d : Denoted)
    → meaning.called f (settled c base.StdUlogic) ≡ denoted.Value (value.Call f (settled c base.StdUlogic)) base.Boolean false
    → given_by f ≡ Some base.Boolean → Tells told c → Took (denotes.Function f) n s (Fine told) d → Begins (typing.edge_of told n) (meaning.indexed d c)
unfolding typing.edge_of typing.becomes_value typing.with_typing typing.with_names
edge_begins f told n s c d gives given tells took = λ names typed fits.
    let ns = both_empty n.names (typing.signal_wanted told) names in
    let ts = both_empty n.typing (asks base.StdUlogic told) typed in
    let t = took ns.0 ts.0 fits in
    inr (call_is f base.Boolean c d t.1 gives (asked base.StdUlogic told c tells t.0 ts.1) given (asked_type base.StdUlogic told c tells t.0 ts.1))

called_begins : (f : Function) (told : Told) (n : NameTold) (s : Bool) (c : Candidate) (d : Denoted) → Tells told c → Took (denotes.Function f) n s (Fine told) d
    → Begins (typing.called f told n) (meaning.indexed d c)
unfolding typing.called typing.becomes_value typing.with_typing meaning.called
called_begins function.RisingEdge told n s c d tells took = edge_begins function.RisingEdge told n s c d refl refl tells took
called_begins function.FallingEdge told n s c d tells took = edge_begins function.FallingEdge told n s c d refl refl tells took
called_begins function.ToX01 told n s c d tells took = λ names typed fits.
    let ts = both_empty n.typing (asks base.StdUlogic told) typed in
    let t = took names ts.0 fits in
    inr (call_is function.ToX01 base.StdUlogic c d t.1 refl (asked base.StdUlogic told c tells t.0 ts.1) refl (asked_type base.StdUlogic told c tells t.0 ts.1))
called_begins function.Now told n s c d tells took = wrong_begins n (meaning.indexed d c)

of_type_begins : (a : TypeAttribute) (u : BaseType) (told : Told) (n : NameTold) (s : Bool) (c : Candidate) (d : Denoted) → Tells told c → Took (denotes.TypeAttribute a u) n s (Fine told) d
    → Begins (typing.of_type a u told n) (meaning.indexed d c)
unfolding typing.of_type typing.becomes_value typing.with_typing meaning.indexed meaning.of_type
of_type_begins type_attribute.Pos u told n s c d tells took = λ names typed fits.
    let ts = both_empty n.typing (asks u told) typed in
    let t = took names ts.0 fits in
    inr (record {
      type = base.Integer;
      value = value.Position u (settled c u);
      is_static = false;
      is = ap (λ x. meaning.indexed x c) t.1;
      typed = refl;
      known = known_position u (settled c u) ∙ asked u told c tells t.0 ts.1;
      has_type = type_position u (settled c u) (asked_type u told c tells t.0 ts.1);
      told = refl;
    })
of_type_begins type_attribute.Val u told n s c d tells took = λ names typed fits.
    let ts = both_empty n.typing (asks base.Integer told) typed in
    let t = took names ts.0 fits in
    inr (record {
      type = u;
      value = value.At u (settled c base.Integer);
      is_static = false;
      is = ap (λ x. meaning.indexed x c) t.1;
      typed = refl;
      known = known_at u (settled c base.Integer) ∙ asked base.Integer told c tells t.0 ts.1;
      has_type = type_at u (settled c base.Integer) (asked_type base.Integer told c tells t.0 ts.1);
      told = refl;
    })

-- ---- ( expr )

indexed_as_begins : (x : Denotes) (told : Told) (n : NameTold) (s : Bool) (c : Candidate) (d : Denoted) → n.is_static ≡ (s && told.is_static) → Tells told c → Took x n s (Fine told) d
    → Begins (typing.indexed_as x told n) (meaning.indexed d c)
unfolding typing.indexed_as
indexed_as_begins denotes.Unknown told n s c d static tells took = λ names typed fits. absurd (took names typed fits).1
indexed_as_begins (denotes.Object o) told n s c d static tells took = element_begins o (typing.element_of o.base) told n s c d refl static tells took
indexed_as_begins denotes.Value told n s c d static tells took = misfit_begins denotes.Value n (meaning.indexed d c)
indexed_as_begins (denotes.Function f) told n s c d static tells took = called_begins f told n s c d tells took
indexed_as_begins (denotes.TypeAttribute a t) told n s c d static tells took = of_type_begins a t told n s c d tells took
indexed_as_begins _ told n s c d static tells took = wrong_begins n (meaning.indexed d c)

indexed_begins : (n : NameTold) (told : Told) (c : Candidate) (d : Denoted) → Tells told c → Begins n d → Begins (typing.indexed n told) (meaning.indexed d c)
unfolding typing.indexed typing.takes
indexed_begins n told c d tells h = indexed_as_begins n.denotes told (typing.takes n told) n.is_static c d refl tells (took_one n told d h)

-- ---- ( simple dir simple )

slice_is : (o : ObjectName) (s are_static : Bool) (p : PartValue) (d : Denoted) → true ≡ is_array_type o.base → known_part p ≡ true
    → ((t : BaseType) → is_array t ≡ true → type_with p t ≡ Some t) → part_is_static p ≡ are_static → are_static ≡ s → IsObject o d
    → IsObject (typing.part_of o o.base s) (meaning.sliced d are_static p)
unfolding meaning.sliced meaning.slice_denoted typing.part_of is_array_type
slice_is o s are_static p d array known keeps flag same h = let is : true ≡ is_array h.base = rw h.typed at array in record {
  base = h.base;
  parts = h.parts ++ p ∷ [];
  is_static = h.is_static && are_static;
  is = ap (λ x. meaning.sliced x are_static p) h.is ∙ ap (λ b. meaning.slice_denoted b o.object h.parts h.base (h.is_static && are_static) p) (sym is);
  typed = h.typed;
  known = more_known h.parts p h.known known;
  leads = leads_on (Some o.object.base) h.parts p h.base h.base h.leads (keeps h.base (sym is));
  static = both_static h.is_static o.is_static are_static s h.static same;
  parts_static = more_static h.parts p ∙ both_static (list_all part_is_static h.parts) o.is_static (part_is_static p) s h.parts_static (flag ∙ same);
  bounds_static = last_static h.parts p ∙ flag ∙ same;
}

slice_known : (left : Candidate) (direction : Direction) (right : Candidate) → known_value (settled left base.Integer) ≡ true → known_value (settled right base.Integer) ≡ true
    → known_part (meaning.slice_part left direction right) ≡ true
unfolding meaning.slice_part
slice_known left direction right h k = known_slice (settled left base.Integer) direction (settled right base.Integer) (meaning.both_static left right) ∙ and_from _ _ h k

slice_keeps : (left : Candidate) (direction : Direction) (right : Candidate) → HasType (settled left base.Integer) base.Integer → HasType (settled right base.Integer) base.Integer
    → (t : BaseType) → is_array t ≡ true → type_with (meaning.slice_part left direction right) t ≡ Some t
unfolding meaning.slice_part
slice_keeps left direction right h k t array = type_slice (settled left base.Integer) direction (settled right base.Integer) (meaning.both_static left right) t array h k

pub slice_static : (left : Candidate) (direction : Direction) (right : Candidate) → part_is_static (meaning.slice_part left direction right) ≡ meaning.both_static left right
unfolding meaning.slice_part
slice_static left direction right = slice_flag (settled left base.Integer) direction (settled right base.Integer) (meaning.both_static left right)

pub bounds_same : (low high : Told) (left right : Candidate) → (out-Candidate left).is_static ≡ low.is_static → (out-Candidate right).is_static ≡ high.is_static
    → meaning.both_static left right ≡ (low.is_static && high.is_static)
unfolding meaning.both_static
bounds_same low high left right h k = both_static (out-Candidate left).is_static low.is_static (out-Candidate right).is_static high.is_static h k

slice_begins : (o : ObjectName) (b : Bool) (low high : Told) (n : NameTold) (s : Bool) (left : Candidate) (direction : Direction) (right : Candidate) (d : Denoted) → b ≡ is_array_type o.base
    → n.is_static ≡ (s && (low.is_static && high.is_static)) → Tells low left → Tells high right → Took (denotes.Object o) n s (BothFine low high) d
    → Begins (typing.slice_named o b low high n) (meaning.sliced d (meaning.both_static left right) (meaning.slice_part left direction right))
unfolding typing.slice_named typing.with_typing typing.with_denoted typing.part_of
slice_begins o true low high n s left direction right d array static from to took = λ names typed fits.
    let ts = both_empty n.typing (asks base.Integer low ++ asks base.Integer high) typed in
    let us = both_empty (asks base.Integer low) (asks base.Integer high) ts.1 in
    let t = took names ts.0 fits in
    record {
      object = slice_is o (low.is_static && high.is_static) (meaning.both_static left right) (meaning.slice_part left direction right) d array
          (slice_known left direction right (asked base.Integer low left from t.0.0 us.0) (asked base.Integer high right to t.0.1 us.1))
          (slice_keeps left direction right (asked_type base.Integer low left from t.0.0 us.0) (asked_type base.Integer high right to t.0.1 us.1))
          (slice_static left direction right)
          (bounds_same low high left right (asked_static base.Integer low left from t.0.0 us.0) (asked_static base.Integer high right to t.0.1 us.1)) t.1.object;
      told = longer_static o n.is_static s (low.is_static && high.is_static) d static t.1;
    }
slice_begins o false low high n s left direction right d array static from to took =
    misfit_begins (denotes.Object (typing.part_of o None (low.is_static && high.is_static))) n (meaning.sliced d (meaning.both_static left right) (meaning.slice_part left direction right))

sliced_as_begins : (x : Denotes) (low high : Told) (n : NameTold) (s : Bool) (left : Candidate) (direction : Direction) (right : Candidate) (d : Denoted)
    → n.is_static ≡ (s && (low.is_static && high.is_static)) → Tells low left → Tells high right → Took x n s (BothFine low high) d
    → Begins (typing.sliced_as x low high n) (meaning.sliced d (meaning.both_static left right) (meaning.slice_part left direction right))
unfolding typing.sliced_as
sliced_as_begins denotes.Unknown low high n s left direction right d static from to took = λ names typed fits. absurd (took names typed fits).1
sliced_as_begins (denotes.Object o) low high n s left direction right d static from to took = slice_begins o (is_array_type o.base) low high n s left direction right d refl static from to took
sliced_as_begins denotes.Value low high n s left direction right d static from to took =
    misfit_begins denotes.Value n (meaning.sliced d (meaning.both_static left right) (meaning.slice_part left direction right))
sliced_as_begins denotes.Now low high n s left direction right d static from to took =
    misfit_begins denotes.Value n (meaning.sliced d (meaning.both_static left right) (meaning.slice_part left direction right))
sliced_as_begins _ low high n s left direction right d static from to took = wrong_begins n (meaning.sliced d (meaning.both_static left right) (meaning.slice_part left direction right))

sliced_begins : (n : NameTold) (low high : Told) (left : Candidate) (direction : Direction) (right : Candidate) (d : Denoted) → Tells low left → Tells high right → Begins n d
    → Begins (typing.sliced n low high) (meaning.sliced d (meaning.both_static left right) (meaning.slice_part left direction right))
unfolding typing.sliced typing.takes
sliced_begins n low high left direction right d from to h =
    sliced_as_begins n.denotes low high (typing.takes (typing.takes n low) high) n.is_static left direction right d (and_assoc n.is_static low.is_static high.is_static) from to (took_two n low high d h)

-- ---- ' id and ' range

attribute_is : (a : ObjectAttribute) (o : ObjectName) (d : Denoted) (types : List BaseType) (static : Bool) (h : IsObject o d) → types ≡ attribute_type a h.base ∷ [] → static ≡ is_bound a
    → IsOne types static (meaning.attributed d (Some (attribute.Object a)))
unfolding meaning.attributed meaning.object_attributed
attribute_is a o d types static h typed told = record {
  type = attribute_type a h.base;
  value = value.Attribute (meaning.reference o.object h.parts h.base) a;
  is_static = is_bound a;
  is = ap (λ x. meaning.attributed x (Some (attribute.Object a))) h.is;
  typed = typed;
  known = known_attribute (meaning.reference o.object h.parts h.base) a ∙ (known_parts o.object h.parts h.base ∙ h.known);
  has_type = type_attribute (meaning.reference o.object h.parts h.base) a h.base (type_parts o.object h.parts h.base h.leads);
  told = told;
}

-- where no rule is broken so far, this is denoted
abbrev Was : Denotes → NameTold → Denoted → Type 0
Was x n d = n.names ≡ [] → n.typing ≡ [] → n.is_misfit ≡ false → Means x n.types n.is_static d

change_begins : (a : ObjectAttribute) (o : ObjectName) (place : ℕ) (n : NameTold) (d : Denoted) → ((t : BaseType) → attribute_type a t ≡ base.Boolean) → false ≡ is_bound a → Was (denotes.Object o) n d
    → Begins (typing.change_of o place n) (meaning.attributed d (Some (attribute.Object a)))
unfolding typing.change_of typing.becomes_value
change_begins a o place n d gives static was = or_no_such (is_signal o) (typing.becomes_value (base.Boolean ∷ []) n) place n (meaning.attributed d (Some (attribute.Object a)))
    (λ names typed fits. let h = (was names typed fits).object in inr (attribute_is a o d (base.Boolean ∷ []) false h (ap (λ t. t ∷ []) (sym (gives h.base))) static))

last_begins : (o : ObjectName) (place : ℕ) (n : NameTold) (d : Denoted) → Was (denotes.Object o) n d
    → Begins (typing.last_value_of o place n) (meaning.attributed d (Some (attribute.Object object_attribute.LastValue)))
unfolding typing.last_value_of typing.becomes_value typing.option_types attribute_type is_bound
last_begins o place n d was = or_no_such _ (typing.becomes_value (typing.option_types o.base) n) place n (meaning.attributed d (Some (attribute.Object object_attribute.LastValue)))
    (λ names typed fits. let h = (was names typed fits).object in inr (attribute_is object_attribute.LastValue o d (typing.option_types o.base) false h (ap typing.option_types h.typed) refl))

bound_begins : (a : ObjectAttribute) (o : ObjectName) (place : ℕ) (n : NameTold) (d : Denoted) → ((t : BaseType) → attribute_type a t ≡ base.Integer) → true ≡ is_bound a → Was (denotes.Object o) n d
    → Begins (if has_bounds o then typing.bound_of n else typing.has_no_such place n) (meaning.attributed d (Some (attribute.Object a)))
unfolding typing.bound_of
bound_begins a o place n d gives static was = or_no_such (has_bounds o) (typing.bound_of n) place n (meaning.attributed d (Some (attribute.Object a)))
    (λ names typed fits. let h = (was names typed fits).object in inr (attribute_is a o d (base.Integer ∷ []) true h (ap (λ t. t ∷ []) (sym (gives h.base))) static))

range_is : (o : ObjectName) (d : Denoted) → IsObject o d → IsRange (meaning.attributed d (Some attribute.Range))
unfolding meaning.attributed meaning.object_attributed
range_is o d h = record {
  reference = meaning.reference o.object h.parts h.base;
  is = ap (λ x. meaning.attributed x (Some attribute.Range)) h.is;
  known = known_parts o.object h.parts h.base ∙ h.known;
}

range_begins : (o : ObjectName) (place : ℕ) (n : NameTold) (d : Denoted) → Was (denotes.Object o) n d
    → Begins (if has_bounds o then typing.range_of n else typing.has_no_such place n) (meaning.attributed d (Some attribute.Range))
unfolding typing.range_of
range_begins o place n d was = or_no_such (has_bounds o) (typing.range_of n) place n (meaning.attributed d (Some attribute.Range))
    (λ names typed fits. range_is o d (was names typed fits).object)

own_begins : (a : ObjectAttribute) (o : ObjectName) (place : ℕ) (n : NameTold) (d : Denoted) → Was (denotes.Object o) n d
    → Begins (typing.object_attribute a o place n) (meaning.attributed d (Some (attribute.Object a)))
unfolding typing.object_attribute attribute_type is_bound
own_begins object_attribute.Event o place n d was = change_begins object_attribute.Event o place n d (λ t. refl) refl was
own_begins object_attribute.Active o place n d was = change_begins object_attribute.Active o place n d (λ t. refl) refl was
own_begins object_attribute.LastValue o place n d was = last_begins o place n d was
own_begins object_attribute.Left o place n d was = bound_begins object_attribute.Left o place n d (λ t. refl) refl was
own_begins object_attribute.Right o place n d was = bound_begins object_attribute.Right o place n d (λ t. refl) refl was
own_begins object_attribute.High o place n d was = bound_begins object_attribute.High o place n d (λ t. refl) refl was
own_begins object_attribute.Low o place n d was = bound_begins object_attribute.Low o place n d (λ t. refl) refl was
own_begins object_attribute.Length o place n d was = bound_begins object_attribute.Length o place n d (λ t. refl) refl was

object_begins : (a : Attribute) (o : ObjectName) (place : ℕ) (n : NameTold) (d : Denoted) → Was (denotes.Object o) n d
    → Begins (typing.object_attributed a o place n) (meaning.attributed d (Some a))
unfolding typing.object_attributed
object_begins (attribute.Object a) o place n d was = own_begins a o place n d was
object_begins attribute.Range o place n d was = range_begins o place n d was
object_begins (attribute.Type a) o place n d was = no_such_begins place n _

type_begins : (a : Attribute) (t : BaseType) (place : ℕ) (n : NameTold) (d : Denoted) → (n.names ≡ [] → n.typing ≡ [] → n.is_misfit ≡ false → d ≡ denoted.Subtype t)
    → Begins (typing.type_attributed a t place n) (meaning.attributed d (Some a))
unfolding typing.type_attributed typing.with_argument typing.with_denoted meaning.attributed meaning.type_attributed
type_begins (attribute.Type a) t place n d was = or_no_such (is_enumeration t) (typing.with_denoted (denotes.TypeAttribute a t) n) place n _
    (λ names typed fits. ap (λ x. meaning.attributed x (Some (attribute.Type a))) (was names typed fits))
type_begins attribute.Range t place n d was = no_such_begins place n _
type_begins (attribute.Object a) t place n d was = no_such_begins place n _

attributed_as_begins : (x : Denotes) (a : Option Attribute) (place : ℕ) (n : NameTold) (d : Denoted) → Was x n d
    → Begins (typing.attributed_as x a place n) (meaning.attributed d a)
unfolding typing.attributed_as
attributed_as_begins denotes.Unknown (Some a) place n d was = λ names typed fits. absurd (was names typed fits)
attributed_as_begins denotes.Unknown None place n d was = λ names typed fits. absurd (was names typed fits)
attributed_as_begins (denotes.Object o) (Some a) place n d was = object_begins a o place n d was
attributed_as_begins (denotes.Subtype mark) (Some a) place n d was = type_begins a mark.base place n d was
attributed_as_begins _ (Some a) place n d was = no_such_begins place n _
attributed_as_begins _ None place n d was = no_such_begins place n _

attributed_begins : (text : List ℕ) (n : NameTold) (word : Token) (d : Denoted) → Begins n d → Begins (typing.attributed text n word) (meaning.attributed d (attribute_of text word))
unfolding typing.attributed
attributed_begins text n word d h = attributed_as_begins n.denotes (attribute_of text word) word.start n d h

-- ---- all that follows

pub extended_begins : (text : List ℕ) (n : NameTold) (d : Denoted) (told : PartTold) (c : PartCandidate) → PartTells told c → Begins n d → Begins (typing.extended text n told) (meaning.extended text d c)
unfolding typing.extended meaning.extended
extended_begins text n d (part_told.Index told) (part_candidate.Index c) tells h = indexed_begins n told c d tells h
extended_begins text n d (part_told.Slice low high) (part_candidate.Slice left direction right) tells h = sliced_begins n low high left direction right d tells.0 tells.1 h
extended_begins text n d (part_told.Attribute word) (part_candidate.Attribute other) same h = rw (sym same) (attributed_begins text n word d h)
extended_begins text n d _ _ tells h = absurd tells

pub parts_begin : (text : List ℕ) (n : NameTold) (d : Denoted) (tolds : List PartTold) (parts : List PartCandidate) → PartsTell tolds parts → Begins n d
    → Begins (typing.extended_by text n tolds) (meaning.extended_by text d parts)
unfolding typing.extended_by meaning.extended_by
parts_begin text n d [] [] tell h = h
parts_begin text n d (told ∷ tolds) (c ∷ parts) tell h = parts_begin text (typing.extended text n told) (meaning.extended text d c) tolds parts tell.1 (extended_begins text n d told c tell.0 h)
parts_begin text n d _ _ tell h = absurd tell
