-- Where no rule is broken: lists of faults that are empty.
use Rattle.std.proofs.Common.{◌≡◌, ℕ, Bool, true, false, not, ◌&&◌, Option, Some, None, List, [], ◌∷◌, ◌++◌, is_some, refl}
use Rattle.vhdl_units.specs.declared.fault.Fault.{Fault}
use Rattle.vhdl_units.specs.declared.fault.Rule.{Rule}
use Rattle.vhdl_names_typing.specs.Faults.{break_if, is_known}

pub empty_left : {X : Type 0} (xs ys : List X) → xs ++ ys ≡ [] → xs ≡ []
empty_left [] ys h = refl
empty_left (x ∷ xs) ys h = absurd cc

pub empty_right : {X : Type 0} (xs ys : List X) → xs ++ ys ≡ [] → ys ≡ []
empty_right [] ys h = h
empty_right (x ∷ xs) ys h = absurd cc

pub none_broken : (broken : Bool) (names : List Fault) (place : ℕ) (r : Rule) → names ≡ [] → break_if broken names place r ≡ [] → broken ≡ false
unfolding break_if is_known
none_broken true [] place r e h = absurd cc
none_broken true (f ∷ names) place r e h = absurd cc
none_broken false names place r e h = refl

-- ---- tests

pub from_not : (b : Bool) → not b ≡ false → b ≡ true
from_not true h = refl
from_not false h = absurd cc

pub and_left : (a b : Bool) → (a && b) ≡ true → a ≡ true
and_left true b h = refl
and_left false b h = absurd cc

pub and_right : (a b : Bool) → (a && b) ≡ true → b ≡ true
and_right true b h = h
and_right false b h = absurd cc

pub and_both : (a b : Bool) → a ≡ true → b ≡ true → (a && b) ≡ true
and_both a b p q = rw (p, q) refl

-- what is there
pub record Found {X : Type 0} (x : Option X) : Type 0 where
  pub value : X
  pub is : x ≡ Some value

pub found : {X : Type 0} (x : Option X) → is_some x ≡ true → Found x
found (Some x) h = record { value = x; is = refl }
found None h = absurd cc

pub there : {X : Type 0} (x : Option X) (y : X) → x ≡ Some y → is_some x ≡ true
there x y h = rw h refl
