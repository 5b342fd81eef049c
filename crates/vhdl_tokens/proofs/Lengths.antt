-- The loops that look for the end of a piece.
use Rattle.std.proofs.Common.{◌≡◌, ℕ, ◌+◌, ◌<◌, ◌≤◌, Bool, true, false, cond, eqb, Option, Some, None, List, [], ◌∷◌, length, drop, refl, sym, ap, ◌∙◌, subst, arith}
use Rattle.vhdl_tokens.specs.declared.scan.TextStep.{TextStep}
use Rattle.vhdl_tokens.specs.declared.scan.TextStep.TheVariants.{Takes, Ends, Breaks}
use Rattle.vhdl_tokens.specs.Bytes.{is_graphic}
use Rattle.vhdl_tokens.specs.Scan.{text_end, text_step}

-- what is left gives the answer of the whole, and the bytes so far and those left are no more than all
pub record SoFar (now whole : Option ℕ) (count limit : ℕ) : Type 0 where
  pub same : now ≡ whole
  pub within : count ≤ limit

-- what a step says of the rest
abbrev pub Steps : TextStep → ℕ → List ℕ → Type 0
Steps (Takes k) n rest = (k ≤ length rest) × (0 < k) × (text_end n rest ≡ text_end (n + k) (drop k rest))
Steps Ends n rest = text_end n rest ≡ Some (n + 1)
Steps Breaks n rest = text_end n rest ≡ None

steps_one : (n a : ℕ) (q g : Bool) → eqb a 34 ≡ q → is_graphic a ≡ g → Steps (cond q Ends (cond g (Takes 1) Breaks)) n (a ∷ [])
unfolding text_end
steps_one n a true g is isg = rw is refl
steps_one n a false true is isg = (omega arith, omega arith, rw is refl)
steps_one n a false false is isg = rw is refl

steps_two : (n a b : ℕ) (more : List ℕ) (q r g : Bool) → eqb a 34 ≡ q → eqb b 34 ≡ r → is_graphic a ≡ g → Steps (cond q (cond r (Takes 2) Ends) (cond g (Takes 1) Breaks)) n (a ∷ b ∷ more)
unfolding text_end
steps_two n a b more true true g is isr isg = (omega arith, omega arith, rw (is, isr) refl)
steps_two n a b more true false g is isr isg = rw (is, isr) refl
steps_two n a b more false r true is isr isg = (omega arith, omega arith, rw (is, isg) refl)
steps_two n a b more false r false is isr isg = rw (is, isg) refl

steps : (n : ℕ) (rest : List ℕ) → Steps (text_step rest) n rest
steps n [] = no_steps n
  where
    no_steps : (n : ℕ) → text_end n [] ≡ None
    no_steps n = unfold text_end in refl
steps n (a ∷ []) = steps_one n a (eqb a 34) (is_graphic a) refl refl
steps n (a ∷ b ∷ more) = steps_two n a b more (eqb a 34) (eqb b 34) (is_graphic a) refl refl refl

pub taken : (n k : ℕ) (rest : List ℕ) → Takes k ≡ text_step rest → Steps (Takes k) n rest
taken n k rest is = subst (λ step. Steps step n rest) (sym is) (steps n rest)

pub ended : (n : ℕ) (rest : List ℕ) → Ends ≡ text_step rest → text_end n rest ≡ Some (n + 1)
ended n rest is = subst (λ step. Steps step n rest) (sym is) (steps n rest)

pub broken : (n : ℕ) (rest : List ℕ) → Breaks ≡ text_step rest → text_end n rest ≡ None
broken n rest is = subst (λ step. Steps step n rest) (sym is) (steps n rest)

pub advanced : (n k limit : ℕ) (rest behind : List ℕ) (whole : Option ℕ) → SoFar (text_end n rest) whole (n + length rest) limit → Takes k ≡ text_step rest → behind ≡ drop k rest → length behind + k ≡ length rest → SoFar (text_end (n + k) behind) whole (n + k + length behind) limit
advanced n k limit rest behind whole so is cut size =
    record {
      same = ap (text_end (n + k)) cut ∙ sym (taken n k rest is).2 ∙ so.same;
      within = omega (arith, so.within);
    }

-- a byte of the string that is no quotation mark
pub graphic_step : (n a : ℕ) (behind : List ℕ) → eqb a 34 ≡ false → is_graphic a ≡ true → text_end n (a ∷ behind) ≡ text_end (n + 1) behind
graphic_step n a [] other graphic = graphic_last n a other
  where
    graphic_last : (n a : ℕ) → eqb a 34 ≡ false → text_end n (a ∷ []) ≡ text_end (n + 1) []
    graphic_last n a other = unfold text_end in rw other refl
graphic_step n a (b ∷ more) other graphic = graphic_more n a b more other graphic
  where
    graphic_more : (n a b : ℕ) (more : List ℕ) → eqb a 34 ≡ false → is_graphic a ≡ true → text_end n (a ∷ b ∷ more) ≡ text_end (n + 1) (b ∷ more)
    graphic_more n a b more other graphic = unfold text_end in rw (other, graphic) refl

-- a quotation mark that is doubled
pub quote_step : (n : ℕ) (more : List ℕ) → text_end n (34 ∷ 34 ∷ more) ≡ text_end (n + 2) more
unfolding text_end
quote_step n more = refl
