-- The static rules, and where they are broken.
use Rattle.std.specs.Prelude.{ℕ, List, [], ◌∷◌}
use Rattle.vhdl_units.specs.declared.fault.Rule.{Rule}
use Rattle.vhdl_units.specs.declared.fault.Rule.TheVariants as rule
use Rattle.vhdl_units.specs.declared.fault.Fault.{Fault}

-- the number of a rule: the less, the sooner it is answered where two are broken at one place
abbrev pub number_of : Rule → ℕ
number_of rule.UnitTwice = 1
number_of rule.EntityMissing = 2
number_of rule.EndName = 3
number_of rule.DeclaredTwice = 4
number_of rule.Undeclared = 5
number_of rule.WrongKind = 6
number_of rule.UnknownLibrary = 7
number_of rule.Constraint = 8
number_of rule.Unbounded = 9
number_of rule.Type = 10
number_of rule.NotAssignable = 11
number_of rule.WaitNotAllowed = 12
number_of rule.Sensitivity = 13
number_of rule.NoSuchLoop = 14
number_of rule.CaseChoice = 15
number_of rule.Aggregate = 16
number_of rule.Attribute = 17
number_of rule.Association = 18
number_of rule.Actual = 19
number_of rule.UnitMissing = 20
number_of rule.Mode = 21
number_of rule.Foreign = 22
number_of rule.Number = 23
number_of rule.ReadsObject = 24

-- this rule is broken at this place
abbrev pub at : ℕ → Rule → List Fault
at place rule = record { place = place; rule = rule } ∷ []
