-- The first of a list of faults.
use Rattle.std.proofs.Common.{◌≡◌, ℕ, ◌+◌, ◌<◌, Bool, true, false, Option, Some, None, List, [], ◌∷◌, ◌++◌, length, take, get_or, inl, inr, cond, refl, sym, ap, ◌∙◌, subst, arith, append_assoc}
use Rattle.std.proofs.lemmas.Bool.Decides.{nat_tests}
use Rattle.std.proofs.lemmas.List.{append-nil, take_more}
use Rattle.std.proofs.lemmas.List.Elements.{Contains-append_left, Contains-push, Contains-push_cases}
use Rattle.std.specs.List.{Contains}
use Rattle.vhdl_names.specs.First.{IsFirst, earlier}
use Rattle.vhdl_names.specs.Static.{IsBefore, is_before}
use Rattle.vhdl_units.specs.Faults.{number_of}
use Rattle.vhdl_units.specs.declared.fault.Fault.{Fault}
use Rattle.vhdl_units.specs.declared.fault.Rule.{Rule}
use Rattle.vhdl_units.specs.declared.fault.Rule.TheVariants as rule

before_itself : (f : Fault) → IsBefore f f
unfolding is_before
before_itself f = grind (arith, nat_tests)

before_turned : (f g h : Fault) → is_before f g ≡ false → IsBefore f h → IsBefore g h
unfolding is_before
before_turned f g h not_fg fh = grind (arith, nat_tests)

pub none_in : {X : Type 0} (xs : List X) (x : X) → xs ≡ [] → Contains xs x → ⊥
none_in xs x empty c = let e = ap length empty in omega (arith, c.1)

first_kept : (xs : List Fault) (f g : Fault) → IsFirst xs (Some f) → IsBefore f g → IsFirst (xs ++ g ∷ []) (Some f)
first_kept xs f g first before = (
  Contains-append_left xs (g ∷ []) f first.0,
  λ h c.
      elim (Contains-push_cases xs g h c) [ inl in_xs ↦ first.1 h in_xs | inr is ↦ subst (IsBefore f) is before ],
)

first_changed : (xs : List Fault) (f g : Fault) → IsFirst xs (Some f) → is_before f g ≡ false → IsFirst (xs ++ g ∷ []) (Some g)
first_changed xs f g first not_before = (
  Contains-push xs g,
  λ h c.
      elim (Contains-push_cases xs g h c) [ inl in_xs ↦ before_turned f g h not_before (first.1 h in_xs) | inr is ↦ subst (IsBefore g) is (before_itself g) ],
)

first_alone : (xs : List Fault) (g : Fault) → xs ≡ [] → IsFirst (xs ++ g ∷ []) (Some g)
first_alone xs g empty = (
  Contains-push xs g,
  λ h c.
      elim (Contains-push_cases xs g h c) [ inl in_xs ↦ absurd (none_in xs h empty in_xs) | inr is ↦ subst (IsBefore g) is (before_itself g) ],
)

first_more : (xs : List Fault) (first : Option Fault) (g : Fault) → IsFirst xs first → IsFirst (xs ++ g ∷ []) (Some (earlier first g))
unfolding earlier
first_more xs None g is = first_alone xs g is
first_more xs (Some f) g is =
    let P : Bool → Type 0 = λ b. is_before f g ≡ b → IsFirst (xs ++ g ∷ []) (Some (cond b f g)) in
    let cases : (b : Bool) → P b = λ b. elim b as P [ true ↦ first_kept xs f g is | false ↦ first_changed xs f g is ] in
    cases (is_before f g) refl

-- one turn of the loop
pub first_turn : (xs : List Fault) (i : ℕ) (d f : Fault) (first : Option Fault) → i < length xs → IsFirst (take i xs) first → f ≡ earlier first (get_or xs i d)
    → IsFirst (take (i + 1) xs) (Some f)
first_turn xs i d f first below so_far turn =
    let P : List Fault → Type 0 = λ ys. IsFirst ys (Some f) in
    let Q : Fault → Type 0 = λ x. IsFirst (take i xs ++ get_or xs i d ∷ []) (Some x) in
    subst P (sym (take_more xs i d below)) (subst Q (sym turn) (first_more (take i xs) first (get_or xs i d) so_far))

-- ---- some fault of a list is its first

first_after : (xs ys : List Fault) (first : Option Fault) → IsFirst xs first → (other : Option Fault) × IsFirst (xs ++ ys) other
first_after xs [] first is = let P : List Fault → Type 0 = λ zs. IsFirst zs first in (first, subst P (sym (append-nil xs)) is)
first_after xs (y ∷ ys) first is =
    let P : List Fault → Type 0 = λ zs. (other : Option Fault) × IsFirst zs other in
    subst P (append_assoc xs (y ∷ []) ys) (first_after (xs ++ y ∷ []) ys (Some (earlier first y)) (first_more xs first y is))

pub some_first : (faults : List Fault) → (first : Option Fault) × IsFirst faults first
some_first faults = first_after [] faults None refl

-- ---- two faults that come before each other are one

rules : List Rule
rules = rule.UnitTwice ∷ rule.UnitTwice ∷ rule.EntityMissing ∷ rule.EndName ∷ rule.DeclaredTwice ∷ rule.Undeclared ∷ rule.WrongKind ∷ rule.UnknownLibrary ∷ rule.Constraint ∷ rule.Unbounded ∷ rule.Type ∷ rule.NotAssignable ∷ rule.WaitNotAllowed ∷ rule.Sensitivity ∷ rule.NoSuchLoop ∷ rule.CaseChoice ∷ rule.Aggregate ∷ rule.Attribute ∷ rule.Association ∷ rule.Actual ∷ rule.UnitMissing ∷ rule.Mode ∷ rule.Foreign ∷ rule.Number ∷ rule.ReadsObject ∷ []

rule_of : ℕ → Rule
rule_of n = get_or rules n rule.UnitTwice

same_rule : (r : Rule) → rule_of (number_of r) ≡ r
unfolding rule_of rules
same_rule rule.UnitTwice = refl
same_rule rule.EntityMissing = refl
same_rule rule.EndName = refl
same_rule rule.DeclaredTwice = refl
same_rule rule.Undeclared = refl
same_rule rule.WrongKind = refl
same_rule rule.UnknownLibrary = refl
same_rule rule.Constraint = refl
same_rule rule.Unbounded = refl
same_rule rule.Type = refl
same_rule rule.NotAssignable = refl
same_rule rule.WaitNotAllowed = refl
same_rule rule.Sensitivity = refl
same_rule rule.NoSuchLoop = refl
same_rule rule.CaseChoice = refl
same_rule rule.Aggregate = refl
same_rule rule.Attribute = refl
same_rule rule.Association = refl
same_rule rule.Actual = refl
same_rule rule.UnitMissing = refl
same_rule rule.Mode = refl
same_rule rule.Foreign = refl
same_rule rule.Number = refl
same_rule rule.ReadsObject = refl

same_place : (f g : Fault) → IsBefore f g → IsBefore g f → f.place ≡ g.place
unfolding is_before
same_place f g fg gf = grind (arith, nat_tests)

same_number : (f g : Fault) → IsBefore f g → IsBefore g f → number_of f.rule ≡ number_of g.rule
unfolding is_before
same_number f g fg gf = grind (arith, nat_tests)

pub before_both : (f g : Fault) → IsBefore f g → IsBefore g f → f ≡ g
before_both f g fg gf =
    let rule : f.rule ≡ g.rule = sym (same_rule f.rule) ∙ (ap rule_of (same_number f g fg gf) ∙ same_rule g.rule) in
    let by_place : f ≡ record { place = g.place; rule = f.rule } = ap (λ p. record { place = p; rule = f.rule }) (same_place f g fg gf) in
    by_place ∙ ap (λ r. record { place = g.place; rule = r }) rule
