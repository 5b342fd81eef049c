-- When types are the same.
use Rattle.std.proofs.Common.{◌≡◌, ◌&&◌, ◌||◌, Bool, true, false, cond, List, [], ◌∷◌, ◌++◌, refl, sym, ap, ◌∙◌}
use Rattle.std.proofs.Math.Bool.{and-false}
use Rattle.std.proofs.lemmas.Bool.{eqb-true, eq-eqb}
use Rattle.std.specs.List.{filter, list_any}
use Rattle.vhdl_units.specs.declared.base_type.BaseType.{BaseType}
use Rattle.vhdl_units.specs.declared.base_type.BaseType.TheVariants as base
use Rattle.vhdl_units.specs.Types.{same}

pub same_self : (t : BaseType) → same t t ≡ true
same_self base.Boolean = refl
same_self base.Bit = refl
same_self base.Character = refl
same_self base.StdUlogic = refl
same_self (base.Own n) = eq-eqb n n refl
same_self base.Integer = refl
same_self base.Time = refl
same_self base.BitVector = refl
same_self base.StdUlogicVector = refl
same_self base.String = refl
same_self base.IntegerVector = refl

pub same_is : (a b : BaseType) → same a b ≡ true → a ≡ b
same_is base.Boolean base.Boolean h = refl
same_is base.Bit base.Bit h = refl
same_is base.Character base.Character h = refl
same_is base.StdUlogic base.StdUlogic h = refl
same_is (base.Own n) (base.Own m) h = ap base.Own (eqb-true n m h)
same_is base.Integer base.Integer h = refl
same_is base.Time base.Time h = refl
same_is base.BitVector base.BitVector h = refl
same_is base.StdUlogicVector base.StdUlogicVector h = refl
same_is base.String base.String h = refl
same_is base.IntegerVector base.IntegerVector h = refl
same_is _ _ h = absurd (cc)

-- ---- what a test leaves of a list

one_more : (q r s kept all : Bool) → kept ≡ (all && r) → (s ≡ true → q ≡ r) → cond q (s || kept) kept ≡ ((s || all) && r)
one_more true true true kept all e eq = refl
one_more false false true kept all e eq = e ∙ and-false all
one_more true false true kept all e eq = absurd (let h : true ≡ false = eq refl in cc)
one_more false true true kept all e eq = absurd (let h : false ≡ true = eq refl in cc)
one_more true r false kept all e eq = e
one_more false r false kept all e eq = e

any_cond : (q : Bool) (x : BaseType) (types : List BaseType) (t : BaseType) → list_any (same t) (cond q (x ∷ types) types) ≡ cond q (same t x || list_any (same t) types) (list_any (same t) types)
any_cond true x types t = refl
any_cond false x types t = refl

pub any_filter : (p : BaseType → Bool) (types : List BaseType) (t : BaseType) → list_any (same t) (filter p types) ≡ (list_any (same t) types && p t)
any_filter p [] t = refl
any_filter p (x ∷ types) t = any_cond (p x) x (filter p types) t
    ∙ one_more (p x) (p t) (same t x) (list_any (same t) (filter p types)) (list_any (same t) types) (any_filter p types t) (λ h. sym (ap p (same_is t x h)))

or_assoc : (a b c : Bool) → (a || (b || c)) ≡ ((a || b) || c)
or_assoc true b c = refl
or_assoc false b c = refl

pub any_append : (t : BaseType) (xs ys : List BaseType) → list_any (same t) (xs ++ ys) ≡ (list_any (same t) xs || list_any (same t) ys)
any_append t [] ys = refl
any_append t (x ∷ xs) ys = ap (λ b. same t x || b) (any_append t xs ys) ∙ or_assoc (same t x) (list_any (same t) xs) (list_any (same t) ys)
