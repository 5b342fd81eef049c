-- Where an expression breaks no rule, its operands and elements break none.
use Rattle.std.proofs.Common.{◌≡◌, ℕ, Bool, true, false, List, [], ◌∷◌, ◌++◌, refl}
use Rattle.vhdl_tree.specs.declared.expressions.Operator.{Operator}
use Rattle.vhdl_units.specs.declared.fault.Fault.{Fault}
use Rattle.vhdl_units.specs.declared.fault.Rule.{Rule}
use Rattle.vhdl_names_typing.specs.Expressions.{beside, is_unrelated, joined, joined_by, operated}
use Rattle.vhdl_names_typing.specs.Faults.{break_if, is_known, typing_of, without_bounds}
use Rattle.vhdl_names_typing.specs.declared.told.LinkTold.{LinkTold}
use Rattle.vhdl_names_typing.specs.declared.told.Told.{Told}
use Rattle.vhdl_units.specs.declared.fault.Rule.TheVariants as rule

pub both_empty : {A : Type 0} (xs ys : List A) → xs ++ ys ≡ [] → (xs ≡ []) × (ys ≡ [])
both_empty [] ys h = (refl, h)
both_empty (x ∷ xs) ys h = absurd (cc)

pub no_break : (broken : Bool) (names : List Fault) (place : ℕ) (r : Rule) → names ≡ [] → break_if broken names place r ≡ [] → broken ≡ false
unfolding break_if is_known
no_break false names place r none h = refl
no_break true [] place r none h = absurd (cc)
no_break true (n ∷ names) place r none h = absurd (cc)

pub own_typing : (t : Told) → typing_of t ≡ [] → t.typing ≡ []
unfolding typing_of
own_typing t h = (both_empty t.typing (without_bounds t) h).0

-- ---- one more operand

pub record StepFree (left : Told) (op : Operator) (right : Told) : Type 0 where
  pub left_names : left.names ≡ []
  pub left_typing : left.typing ≡ []
  pub right_names : right.names ≡ []
  pub right_typing : right.typing ≡ []
  pub is_related : is_unrelated op left.types right.types ≡ false

joined_free : (left : Told) (op : Operator) (right : Told) → (joined left op right).names ≡ [] → (joined left op right).typing ≡ [] → StepFree left op right
unfolding joined operated beside
joined_free left op right n t =
    let names = both_empty left.names right.names n in
    let broken = break_if (is_unrelated op left.types right.types) (left.names ++ right.names) left.place rule.Type in
    let whole = both_empty (left.typing ++ typing_of right) broken t in
    let sides = both_empty left.typing (typing_of right) whole.0 in
    record {
      left_names = names.0;
      left_typing = sides.0;
      right_names = names.1;
      right_typing = own_typing right sides.1;
      is_related = no_break (is_unrelated op left.types right.types) (left.names ++ right.names) left.place rule.Type n whole.1;
    }

along_free : (so_far : Told) (links : List LinkTold) → (joined_by so_far links).names ≡ [] → (joined_by so_far links).typing ≡ [] → (so_far.names ≡ []) × (so_far.typing ≡ [])
unfolding joined_by
along_free so_far [] n t = (n, t)
along_free so_far (l ∷ links) n t =
    let after = along_free (joined so_far l.operator l.right) links n t in
    let here = joined_free so_far l.operator l.right after.0 after.1 in
    (here.left_names, here.left_typing)

-- the first of several more
pub step_free : (so_far : Told) (l : LinkTold) (links : List LinkTold) → (joined_by so_far (l ∷ links)).names ≡ [] → (joined_by so_far (l ∷ links)).typing ≡ [] → StepFree so_far l.operator l.right
unfolding joined_by
step_free so_far l links n t =
    let after = along_free (joined so_far l.operator l.right) links n t in
    joined_free so_far l.operator l.right after.0 after.1
