-- The delimiters by their bytes.
use Rattle.std.proofs.Common.{◌≡◌, ℕ, Bool, true, false, ◌&&◌, cond, eqb, Option, Some, refl, sym, subst}
use Rattle.std.specs.Char.{is_ascii_alphabetic, is_ascii_digit}
use Rattle.std.specs.Option.{is_some}
use Rattle.std.proofs.lemmas.Bool.{eqb-true, and_parts}
use Rattle.vhdl_tokens.specs.declared.token.Delimiter.{Delimiter}
use Rattle.vhdl_tokens.specs.Bytes.{is_separator}
use Rattle.vhdl_tokens.specs.Delimiters.{single, double, is_dashes, is_opening}

-- no letter, no digit, no separator and no quotation mark
pub record Plain (b : ℕ) : Type 0 where
  pub letter : is_ascii_alphabetic b ≡ false
  pub digit : is_ascii_digit b ≡ false
  pub separator : is_separator b ≡ false
  pub quote : eqb b 34 ≡ false

pick : (a k : ℕ) (x d : Delimiter) (rest : Option Delimiter) → Plain k → (rest ≡ Some d → Plain a) → cond (eqb a k) (Some x) rest ≡ Some d → Plain a
pick a k x d rest plain next h = at (eqb a k) refl h
  where
    at : (t : Bool) → eqb a k ≡ t → cond t (Some x) rest ≡ Some d → Plain a
    at true is e = let same : a ≡ k = eqb-true a k is in subst Plain (sym same) plain
    at false is e = next e

plain : (b : ℕ) → is_ascii_alphabetic b ≡ false → is_ascii_digit b ≡ false → is_separator b ≡ false → eqb b 34 ≡ false → Plain b
plain b l d s q = record { letter = l; digit = d; separator = s; quote = q }

pub single_plain : (a : ℕ) (d : Delimiter) → single a ≡ Some d → Plain a
single_plain a d =
    pick a 40 _ d _ (plain 40 refl refl refl refl)
    (pick a 41 _ d _ (plain 41 refl refl refl refl)
    (pick a 44 _ d _ (plain 44 refl refl refl refl)
    (pick a 59 _ d _ (plain 59 refl refl refl refl)
    (pick a 58 _ d _ (plain 58 refl refl refl refl)
    (pick a 46 _ d _ (plain 46 refl refl refl refl)
    (pick a 38 _ d _ (plain 38 refl refl refl refl)
    (pick a 39 _ d _ (plain 39 refl refl refl refl)
    (pick a 124 _ d _ (plain 124 refl refl refl refl)
    (pick a 43 _ d _ (plain 43 refl refl refl refl)
    (pick a 45 _ d _ (plain 45 refl refl refl refl)
    (pick a 42 _ d _ (plain 42 refl refl refl refl)
    (pick a 47 _ d _ (plain 47 refl refl refl refl)
    (pick a 60 _ d _ (plain 60 refl refl refl refl)
    (pick a 62 _ d _ (plain 62 refl refl refl refl)
    (pick a 61 _ d _ (plain 61 refl refl refl refl)
    (λ e. absurd cc))))))))))))))))

-- The delimiters of two bytes begin with such a byte, which is no apostrophe, and begin no comment.
pub record PlainPair (a b : ℕ) : Type 0 where
  pub first : Plain a
  pub apostrophe : eqb a 39 ≡ false
  pub dashes : is_dashes a b ≡ false
  pub opening : is_opening a b ≡ false
  pub alone : is_some (single a) ≡ true

pair : (a b j k : ℕ) (x d : Delimiter) (rest : Option Delimiter) → PlainPair j k → (rest ≡ Some d → PlainPair a b) → cond (eqb a j && eqb b k) (Some x) rest ≡ Some d → PlainPair a b
pair a b j k x d rest known next h = at (eqb a j && eqb b k) refl h
  where
    at : (t : Bool) → (eqb a j && eqb b k) ≡ t → cond t (Some x) rest ≡ Some d → PlainPair a b
    at true is e =
        let p = and_parts (eqb a j) (eqb b k) is in
        subst (λ m. PlainPair m b) (sym (eqb-true a j p.0)) (subst (λ n. PlainPair j n) (sym (eqb-true b k p.1)) known)
    at false is e = next e

plain_pair : (a b : ℕ) → Plain a → eqb a 39 ≡ false → is_dashes a b ≡ false → is_opening a b ≡ false → is_some (single a) ≡ true → PlainPair a b
plain_pair a b p t d o s = record { first = p; apostrophe = t; dashes = d; opening = o; alone = s }

pub double_plain : (a b : ℕ) (d : Delimiter) → double a b ≡ Some d → PlainPair a b
double_plain a b d =
    pair a b 42 42 _ d _ (plain_pair 42 42 (plain 42 refl refl refl refl) refl refl refl refl)
    (pair a b 61 62 _ d _ (plain_pair 61 62 (plain 61 refl refl refl refl) refl refl refl refl)
    (pair a b 58 61 _ d _ (plain_pair 58 61 (plain 58 refl refl refl refl) refl refl refl refl)
    (pair a b 60 61 _ d _ (plain_pair 60 61 (plain 60 refl refl refl refl) refl refl refl refl)
    (pair a b 62 61 _ d _ (plain_pair 62 61 (plain 62 refl refl refl refl) refl refl refl refl)
    (pair a b 47 61 _ d _ (plain_pair 47 61 (plain 47 refl refl refl refl) refl refl refl refl)
    (λ e. absurd cc))))))
