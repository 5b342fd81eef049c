use Rattle.std.proofs.Common.{◌∙◌, ◌≡◌, ◌⊎◌, inl, inr, List, [], ◌∷◌, Some, true, length, slice_get, sym, arith}
use Rattle.std.specs.List.{list_all}
use Rattle.vhdl_units.specs.declared.entry.Entry.{Entry}
use Rattle.vhdl_units.specs.Entries.{is_literal}
use Rattle.vhdl_names_typing.specs.Named.{are_literals}
use Rattle.vhdl_names_typing.proofs.named.are_literals.Goals as goal

by_the_first : (entries : List Entry) (e : Entry) → slice_get entries 0 ≡ Some e → (list_all is_literal entries ≡ true) ⊎ (length entries ≡ 1) → is_literal e ≡ are_literals entries
unfolding are_literals
by_the_first [] e h a = absurd cc
by_the_first (x ∷ []) e h a = grind arith
by_the_first (x ∷ y ∷ entries) e h (inl a) = grind arith
by_the_first (x ∷ y ∷ entries) e h (inr a) = absurd (grind arith)

pub returns-in-Some : goal.returns-in-Some
returns-in-Some c = c.is_literal.ensures ∙ by_the_first c.args.entries.now c.in-Some.entry (sym c.in-Some.ensures.entry) c.in-Some.ensures.alone
