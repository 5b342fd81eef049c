-- Which types a set has, and that none stands in it twice.
use Rattle.std.proofs.Common.{◌≡◌, ℕ, ◌&&◌, not, Bool, true, false, cond, List, [], ◌∷◌, refl, ap, sym, ◌∙◌}
use Rattle.std.proofs.lemmas.Bool.{and_parts, not-true}
use Rattle.std.specs.List.{filter}
use Rattle.vhdl_units.specs.declared.base_type.BaseType.{BaseType}
use Rattle.vhdl_units.specs.declared.base_type.BaseType.TheVariants as base
use Rattle.vhdl_names_overloads.proofs.Same.{any_filter}
use Rattle.vhdl_names_operators.specs.Sets.{has, is_set, predefined}

-- ---- what a test leaves of a set

pub has_filter : (p : BaseType → Bool) (types : List BaseType) (t : BaseType) → has (filter p types) t ≡ (has types t && p t)
unfolding has
has_filter p types t = any_filter p types t

is_set_cond : (q : Bool) (x : BaseType) (types : List BaseType) → has types x ≡ false → is_set types ≡ true → is_set (cond q (x ∷ types) types) ≡ true
unfolding is_set
is_set_cond true x types h s = rw (h, s) refl
is_set_cond false x types h s = s

pub is_set_filter : (p : BaseType → Bool) (types : List BaseType) → is_set types ≡ true → is_set (filter p types) ≡ true
unfolding is_set
is_set_filter p [] h = refl
is_set_filter p (x ∷ types) h =
    let parts = and_parts (not (has types x)) (is_set types) h in
    let absent : has types x ≡ false = not-true (has types x) parts.0 in
    is_set_cond (p x) x (filter p types) (has_filter p types x ∙ ap (λ b. b && p x) absent) (is_set_filter p types parts.1)

-- ---- the types that are always visible: all but those of the design

visible : (p : BaseType → Bool) → ((n : ℕ) → p (base.Own n) ≡ false) → (t : BaseType) → (has predefined t && p t) ≡ p t
unfolding has
visible p none base.Boolean = refl
visible p none base.Bit = refl
visible p none base.Character = refl
visible p none base.StdUlogic = refl
visible p none (base.Own n) = sym (none n)
visible p none base.Integer = refl
visible p none base.Time = refl
visible p none base.BitVector = refl
visible p none base.StdUlogicVector = refl
visible p none base.String = refl
visible p none base.IntegerVector = refl

pub exact : (p : BaseType → Bool) → ((n : ℕ) → p (base.Own n) ≡ false) → (t : BaseType) → has (filter p predefined) t ≡ p t
exact p none t = has_filter p predefined t ∙ visible p none t

pub predefined_is_set : is_set predefined ≡ true
unfolding is_set has
predefined_is_set = refl
