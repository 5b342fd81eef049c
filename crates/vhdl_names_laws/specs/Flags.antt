-- The flags that stand in the name of an object, index by index and slice by slice (IEEE Std 1076-2008, clauses 8.1 and 9.4.3).
use Rattle.std.specs.Prelude.{Bool, List, [], map, true, ℕ, ◌&&◌, ◌≡◌}
use Rattle.vhdl_names_laws.specs.Meanings.{part_is_static}
use Rattle.vhdl_names_meaning.specs.Trees.{denoted}
use Rattle.vhdl_names_meaning.specs.declared.candidates.Denoted.{Denoted}
use Rattle.vhdl_tokens.specs.declared.token.Token.{Token}
use Rattle.vhdl_tree.specs.declared.expressions.Name.{Name, out-Name}
use Rattle.vhdl_units.specs.declared.entry.Entry.{Entry}
use Rattle.vhdl_names_typing.specs.Trees.{told_name, told_part}
use Rattle.vhdl_names_typing.specs.declared.told.Denotes.{Denotes}
use Rattle.vhdl_names_typing.specs.declared.told.PartTold.{PartTold}
use Rattle.vhdl_names_meaning.specs.declared.candidates.Denoted.TheVariants as denoted_as
use Rattle.vhdl_names_typing.specs.declared.told.Denotes.TheVariants as denotes
use Rattle.vhdl_names_typing.specs.declared.told.PartTold.TheVariants as part_told

-- whether an index or both bounds of a slice are globally static, as the rules tested; no attribute stands in an object's name
unfoldable pub tested_static : PartTold → Bool
tested_static (part_told.Index t) = t.is_static
tested_static (part_told.Slice low high) = low.is_static && high.is_static
tested_static (part_told.Attribute word) = true

-- the flags that are handed on with the name of an object
unfoldable pub flags : Denoted → List Bool
flags (denoted_as.Object o parts t is_static) = map part_is_static parts
flags _ = []

unfoldable pub FlagsAre : Denotes → List Bool → Denoted → Type 0
FlagsAre (denotes.Object o) tested d = flags d ≡ tested
FlagsAre _ tested d = Unit {0}

-- Where no rule is broken in the name of an object, an element of it or a slice, what it means has one flag for each index and
-- slice that is written in it, and each is the one that the rules tested there.
abbrev pub FlagsAreTested : Type 0
FlagsAreTested = (text : List ℕ) (look : Token → List Entry) (n : Name) → (told_name text look n).names ≡ [] → (told_name text look n).typing ≡ []
    → FlagsAre (told_name text look n).denotes (map tested_static (map (told_part text look) (out-Name n).parts)) (denoted text look n)
