-- Values of one type, and what has none.
use Rattle.std.proofs.Common.{◌≡◌, Bool, Some, true, [], ◌∷◌, ap, sym, ◌∙◌}
use Rattle.vhdl_names_laws.specs.Known.{known_value}
use Rattle.vhdl_names_laws.specs.Tells.{Agrees}
use Rattle.vhdl_names_laws.specs.Typed.{HasType, type_of}
use Rattle.vhdl_names_laws.proofs.OfType.{has_one}
use Rattle.vhdl_names_laws.proofs.Settles.{open_value, settled_own, static_with, types_with}
use Rattle.vhdl_names_meaning.specs.Names.{candidate_with, only_value}
use Rattle.vhdl_names_meaning.specs.Settling.{settled}
use Rattle.vhdl_names_meaning.specs.declared.candidates.Candidate.{Candidate, out-Candidate}
use Rattle.vhdl_names_operators.specs.Sets.{has}
use Rattle.vhdl_units.specs.Types.{same}
use Rattle.vhdl_units.specs.declared.base_type.BaseType.{BaseType}
use Rattle.vhdl_names_typing.specs.declared.told.Told.{Told}
use Rattle.vhdl_units.specs.declared.values.Value.{Value}
use Rattle.vhdl_names_meaning.specs.declared.candidates.Open.TheVariants as pending

-- it is asked of one type only, and means this value there
only_means : (v : Value) (t : BaseType) (s : Bool) (u : BaseType) → has (t ∷ []) u ≡ true → settled (candidate_with (t ∷ []) s (pending.Value v)) u ≡ v
only_means v t s u h = settled_own (t ∷ []) s (pending.Value v) u h ∙ open_value v u

pub only_agrees : (told : Told) (v : Value) (t : BaseType) (s : Bool) → told.types ≡ t ∷ [] → told.is_static ≡ s → known_value v ≡ true → HasType v t → Agrees told (only_value v t s)
unfolding only_value
only_agrees told v t s types static known typed = record {
  types = types_with (t ∷ []) s (pending.Value v) ∙ sym types;
  known = λ u h. ap known_value (only_means v t s u (rw (sym types) h)) ∙ known;
  typed = λ u h. let own : has (t ∷ []) u ≡ true = (rw types at h) in ap type_of (only_means v t s u own) ∙ typed ∙ ap (λ x. Some x) (sym (has_one t u own));
  static = λ u h. static_with (t ∷ []) s (pending.Value v) ∙ sym static;
}

-- where there is no type, nothing is asked
pub none_agrees : (told : Told) (c : Candidate) → told.types ≡ [] → (out-Candidate c).types ≡ [] → Agrees told c
unfolding has
none_agrees told c types same = record {
  types = same ∙ sym types;
  known = λ t h. let g : has [] t ≡ true = (rw types at h) in absurd cc;
  typed = λ t h. let g : has [] t ≡ true = (rw types at h) in absurd cc;
  static = λ t h. let g : has [] t ≡ true = (rw types at h) in absurd cc;
}
