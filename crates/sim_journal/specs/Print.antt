use Rattle.std.specs.Prelude.{ℕ, ℤ, pos, List, [], ◌∷◌, ◌++◌, if◌then◌else◌, codes, decimal}
use Rattle.std.specs.Ordering.{int_eq}
use Rattle.sim_design.specs.declared.Design.{Design}
use Rattle.sim_design.specs.Design.{net_name}
use Rattle.sim_journal.specs.declared.Entry.{Entry}
use Rattle.sim_journal.specs.declared.Entry.TheVariants as entries
use Rattle.sim_journal.specs.declared.End.{End}
use Rattle.sim_journal.specs.declared.End.TheVariants as ends

-- the character literal of a position of BIT
abbrev pub bit_literal : ℤ → List ℕ
bit_literal value = if int_eq value (pos 0) then codes "'0'" else codes "'1'"

-- how a run ends, with the time and the cycle
abbrev pub end_line : End → List ℕ
end_line (ends.Quiet now cycle) = codes "# end quiet " ++ (decimal now ++ (codes " " ++ (decimal cycle ++ codes "\n")))
end_line (ends.CycleLimit now cycle) = codes "# end limit " ++ (decimal now ++ (codes " " ++ (decimal cycle ++ codes "\n")))

-- the line of an entry
abbrev pub line : Design → Entry → List ℕ
line d (entries.Time now delta cycle) =
    codes "@ " ++ (decimal now ++ (codes " " ++ (decimal delta ++ (codes " " ++ (decimal cycle ++ codes "\n")))))
line d (entries.Event net value) = codes "! " ++ (net_name d net ++ (codes " " ++ (bit_literal value ++ codes "\n")))
line d (entries.Ended end) = end_line end

-- the lines of a list of entries
abbrev pub Print : Design → List Entry → List ℕ
Print d [] = []
Print d (e ∷ es) = line d e ++ Print d es
