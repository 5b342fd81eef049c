-- An operator before one operand.
use Rattle.std.proofs.Common.{◌≡◌, ℕ, true, List, ap, sym, ◌∙◌}
use Rattle.std.proofs.lemmas.Bool.{and_parts}
use Rattle.vhdl_names_laws.proofs.Free.{own_typing}
use Rattle.vhdl_names_laws.proofs.Knows.{known_unary}
use Rattle.vhdl_names_laws.proofs.OfType.{type_unary}
use Rattle.vhdl_names_laws.proofs.Settles.{open_unary, settled_own, static_with, types_with}
use Rattle.vhdl_names_laws.specs.Known.{known_value}
use Rattle.vhdl_names_laws.specs.Tells.{Agrees, Tells}
use Rattle.vhdl_names_laws.specs.Typed.{HasType, type_of}
use Rattle.vhdl_names_meaning.specs.Operators.{unary}
use Rattle.vhdl_names_meaning.specs.Settling.{settled}
use Rattle.vhdl_names_meaning.specs.declared.candidates.Candidate.{Candidate, out-Candidate}
use Rattle.vhdl_names_operators.proofs.Given.{has_results_from}
use Rattle.vhdl_names_operators.specs.Operators.{can_be_from, is_defined_on, results_from}
use Rattle.vhdl_names_operators.specs.Sets.{has}
use Rattle.vhdl_tree.specs.declared.expressions.Unary.{Unary}
use Rattle.vhdl_units.specs.declared.base_type.BaseType.{BaseType}
use Rattle.vhdl_names_typing.specs.Expressions.{unary_told}
use Rattle.vhdl_names_typing.specs.declared.told.Told.{Told}
use Rattle.vhdl_names_meaning.specs.declared.candidates.Open.TheVariants as pending

operand_has : (op : Unary) (types : List BaseType) (t : BaseType) → has (results_from op types) t ≡ true → has types t ≡ true
unfolding can_be_from
operand_has op types t h = (and_parts (is_defined_on op t) (has types t) (sym (has_results_from op types t) ∙ h)).1

is_defined : (op : Unary) (types : List BaseType) (t : BaseType) → has (results_from op types) t ≡ true → is_defined_on op t ≡ true
unfolding can_be_from
is_defined op types t h = (and_parts (is_defined_on op t) (has types t) (sym (has_results_from op types t) ∙ h)).0

unary_types : (op : Unary) (c : Candidate) → (out-Candidate (unary op c)).types ≡ results_from op (out-Candidate c).types
unfolding unary
unary_types op c = types_with (results_from op (out-Candidate c).types) (out-Candidate c).is_static (pending.Unary op c)

unary_known : (op : Unary) (c : Candidate) (t : BaseType) → has (results_from op (out-Candidate c).types) t ≡ true → known_value (settled c t) ≡ true → known_value (settled (unary op c) t) ≡ true
unfolding unary
unary_known op c t h k =
    let own = settled_own (results_from op (out-Candidate c).types) (out-Candidate c).is_static (pending.Unary op c) t h in
    ap known_value (own ∙ open_unary op c t) ∙ known_unary op t (settled c t) ∙ k

unary_typed : (op : Unary) (c : Candidate) (t : BaseType) → has (results_from op (out-Candidate c).types) t ≡ true → is_defined_on op t ≡ true → HasType (settled c t) t → HasType (settled (unary op c) t) t
unfolding unary
unary_typed op c t h defined k =
    let own = settled_own (results_from op (out-Candidate c).types) (out-Candidate c).is_static (pending.Unary op c) t h in
    ap type_of (own ∙ open_unary op c t) ∙ type_unary op t (settled c t) defined k

unary_static : (op : Unary) (c : Candidate) → (out-Candidate (unary op c)).is_static ≡ (out-Candidate c).is_static
unfolding unary
unary_static op c = static_with (results_from op (out-Candidate c).types) (out-Candidate c).is_static (pending.Unary op c)

unary_agrees : (place : ℕ) (op : Unary) (told : Told) (c : Candidate) → Agrees told c → Agrees (unary_told place op told) (unary op c)
unfolding unary_told
unary_agrees place op told c a = record {
  types = unary_types op c ∙ ap (results_from op) a.types;
  known = λ t h. unary_known op c t (ap (λ ts. has (results_from op ts) t) a.types ∙ h) (a.known t (operand_has op told.types t h));
  typed = λ t h. unary_typed op c t (ap (λ ts. has (results_from op ts) t) a.types ∙ h) (is_defined op told.types t h) (a.typed t (operand_has op told.types t h));
  static = λ t h. unary_static op c ∙ a.static t (operand_has op told.types t h);
}

pub unary_tells : (place : ℕ) (op : Unary) (told : Told) (c : Candidate) → Tells told c → Tells (unary_told place op told) (unary op c)
unfolding unary_told
unary_tells place op told c tells = λ n t. unary_agrees place op told c (tells n (own_typing told t))
