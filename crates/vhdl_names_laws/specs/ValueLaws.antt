-- What holds of all expressions, names, choices and ranges: where no rule is broken in them they mean something, of the types that
-- they tell (IEEE Std 1076-2008, clauses 8, 9 and 12.5).
use Rattle.std.specs.Prelude.{List, true, ℕ, ◌≡◌}
use Rattle.vhdl_names_laws.specs.Known.{known_value}
use Rattle.vhdl_names_laws.specs.Meanings.{HasMeanings, IsObject}
use Rattle.vhdl_names_laws.specs.Typed.{type_of}
use Rattle.vhdl_names_meaning.specs.Names.{target_of}
use Rattle.vhdl_names_meaning.specs.declared.candidates.Denoted.{Denoted}
use Rattle.vhdl_tokens.specs.declared.token.Token.{Token}
use Rattle.vhdl_units.specs.declared.entry.Entry.{Entry}
use Rattle.vhdl_names_typing.specs.declared.told.ObjectName.{ObjectName}

abbrev pub EverythingHasMeanings : Type 0
EverythingHasMeanings = (text : List ℕ) (look : Token → List Entry) → HasMeanings text look

-- what is named as a target, or where a signal is named
abbrev pub TargetsAreKnown : Type 0
TargetsAreKnown = (o : ObjectName) (d : Denoted) → IsObject o d → known_value (target_of d) ≡ true

-- and is of the type that the rules gave it
abbrev pub TargetsHaveTypes : Type 0
TargetsHaveTypes = (o : ObjectName) (d : Denoted) → IsObject o d → type_of (target_of d) ≡ o.base
