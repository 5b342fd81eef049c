-- What an expression tells of its types, and what it can mean: where it tells that no rule is broken in it, it has a meaning at
-- each of its types, which is of that type, and it is globally static where it tells so (IEEE Std 1076-2008, clauses 9.4.3 and 12.5).
use Rattle.std.specs.Prelude.{[], true, ◌≡◌}
use Rattle.vhdl_names_meaning.specs.Settling.{settled}
use Rattle.vhdl_names_meaning.specs.declared.candidates.Candidate.{Candidate, out-Candidate}
use Rattle.vhdl_names_operators.specs.Sets.{has}
use Rattle.vhdl_units.specs.declared.base_type.BaseType.{BaseType}
use Rattle.vhdl_names_typing.specs.declared.told.Told.{Told}
use Rattle.vhdl_names_laws.specs.Known.{known_value}
use Rattle.vhdl_names_laws.specs.Typed.{HasType}

-- It can mean something at each type that it tells, and at no other. What it means there is of that type. The flag that says
-- whether it is globally static, which is handed on to where it stands as an index or a bound, is the one that the rules tested.
-- Nothing is said of the flag where it has no type.
pub record Agrees (told : Told) (c : Candidate) : Type 0 where
  pub types : (out-Candidate c).types ≡ told.types
  pub known : (t : BaseType) → has told.types t ≡ true → known_value (settled c t) ≡ true
  pub typed : (t : BaseType) → has told.types t ≡ true → HasType (settled c t) t
  pub static : (t : BaseType) → has told.types t ≡ true → (out-Candidate c).is_static ≡ told.is_static

abbrev pub Tells : Told → Candidate → Type 0
Tells told c = told.names ≡ [] → told.typing ≡ [] → Agrees told c
