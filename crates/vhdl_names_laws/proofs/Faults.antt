-- What follows where a rule isn't broken at a place.
use Rattle.std.proofs.Common.{◌≡◌, true, []}
use Rattle.std.proofs.lemmas.Bool.{not-false}
use Rattle.vhdl_names_laws.specs.Known.{known_value}
use Rattle.vhdl_names_laws.specs.Tells.{Tells}
use Rattle.vhdl_names_laws.specs.Typed.{HasType}
use Rattle.vhdl_names_laws.proofs.Free.{no_break, own_typing}
use Rattle.vhdl_names_meaning.specs.Settling.{settled}
use Rattle.vhdl_names_meaning.specs.declared.candidates.Candidate.{Candidate, out-Candidate}
use Rattle.vhdl_names_operators.specs.Places.{fits_alone}
use Rattle.vhdl_names_operators.specs.Sets.{has}
use Rattle.vhdl_units.specs.declared.base_type.BaseType.{BaseType}
use Rattle.vhdl_names_typing.specs.Faults.{asks, typing_of}
use Rattle.vhdl_names_typing.specs.declared.told.Told.{Told}

-- an operand, an index, a bound or an argument in which no rule is broken
abbrev pub Fine : Told → Type 0
Fine told = (told.names ≡ []) × (typing_of told ≡ [])

has_asked : (t : BaseType) (told : Told) → told.names ≡ [] → asks t told ≡ [] → has told.types t ≡ true
unfolding asks fits_alone
has_asked t told names h = not-false (has told.types t) (no_break _ told.names told.place _ names h)

pub asked : (t : BaseType) (told : Told) (c : Candidate) → Tells told c → Fine told → asks t told ≡ [] → known_value (settled c t) ≡ true
asked t told c tells fine h = (tells fine.0 (own_typing told fine.1)).known t (has_asked t told fine.0 h)

pub asked_type : (t : BaseType) (told : Told) (c : Candidate) → Tells told c → Fine told → asks t told ≡ [] → HasType (settled c t) t
asked_type t told c tells fine h = (tells fine.0 (own_typing told fine.1)).typed t (has_asked t told fine.0 h)

pub asked_static : (t : BaseType) (told : Told) (c : Candidate) → Tells told c → Fine told → asks t told ≡ [] → (out-Candidate c).is_static ≡ told.is_static
asked_static t told c tells fine h = (tells fine.0 (own_typing told fine.1)).static t (has_asked t told fine.0 h)
