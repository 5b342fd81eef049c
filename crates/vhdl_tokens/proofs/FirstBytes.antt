-- The bytes with which tokens begin.
use Rattle.std.proofs.Common.{◌≡◌, ℕ, ◌+◌, ◌-◌, ◌*◌, ◌<◌, ◌⊎◌, ◌^◌, Bool, true, false, ◌==◌, ◌||◌, not, eqb, Option, Some, None, List, [], ◌∷◌, IsTrue, ◌↔◌, refl, sym, ap, subst, inl, inr, arith}
use Rattle.std.specs.Option.{is_some}
use Rattle.std.specs.Char.{is_ascii_alphabetic, is_ascii_alphanumeric, is_ascii_digit}
use Rattle.std.proofs.lemmas.Bool.{and_parts, and_from, or_cases, or_left, or_right, eqb-true, lt-ltb, cond-false, ne_eqb}
use Rattle.vhdl_tokens.specs.declared.bytes.Class.TheVariants.{Name, Decimal}
use Rattle.vhdl_tokens.specs.declared.token.Kind.{Kind}
use Rattle.vhdl_tokens.specs.declared.token.Kind.TheVariants as kind
use Rattle.vhdl_tokens.specs.declared.token.Delimiter.{Delimiter}
use Rattle.vhdl_tokens.specs.Reserved.{reserved_word}
use Rattle.vhdl_tokens.specs.Delimiters.{single}
use Rattle.vhdl_tokens.specs.Spelling.{is_spaced, is_small, number, with_digit}
use Rattle.vhdl_tokens.specs.Text.{IsPiece, IsDelimiter, begins_token, BeginsToken}
use Rattle.vhdl_tokens.specs.Scan.{kind_of_word}
use Rattle.vhdl_tokens.proofs.Classes.{in_range, spaced_first, base_letter, letter_name}
use Rattle.vhdl_tokens.proofs.Marks.{double_plain}
use Rattle.vhdl_tokens.proofs.Sound.{word_piece}

letter_begins : (b : ℕ) → is_ascii_alphabetic b ≡ true → begins_token b ≡ true
letter_begins b is = or_left (is_ascii_alphabetic b || is_ascii_digit b) (b == 34 || is_some (single b)) (or_left (is_ascii_alphabetic b) (is_ascii_digit b) is)

digit_begins : (b : ℕ) → is_ascii_digit b ≡ true → begins_token b ≡ true
digit_begins b is = or_left (is_ascii_alphabetic b || is_ascii_digit b) (b == 34 || is_some (single b)) (or_right (is_ascii_alphabetic b) (is_ascii_digit b) is)

mark_begins : (b : ℕ) → is_some (single b) ≡ true → begins_token b ≡ true
mark_begins b is = or_right (is_ascii_alphabetic b || is_ascii_digit b) (b == 34 || is_some (single b)) (or_right (b == 34) (is_some (single b)) is)

same_byte : (b c : ℕ) (more others : List ℕ) → b ∷ more ≡ c ∷ others → begins_token c ≡ true → begins_token b ≡ true
same_byte b c more others e begins = let same : b ≡ c = cc in subst (λ k. begins_token k ≡ true) (sym same) begins

delimiter_begins : (d : Delimiter) (a : Bool) (b : ℕ) (more behind : List ℕ) → IsDelimiter d a (b ∷ more) behind → begins_token b ≡ true
delimiter_begins d a b [] behind is = mark_begins b (ap is_some is.0)
delimiter_begins d a b (c ∷ []) behind is = mark_begins b (double_plain b c d is).alone
delimiter_begins d a b (c ∷ e ∷ more) behind is = absurd is

piece_begins : (k : Kind) (a : Bool) (b : ℕ) (more behind : List ℕ) → IsPiece (Some k) a (b ∷ more) behind → begins_token b ≡ true
piece_begins kind.Identifier a b more behind is = letter_begins b (and_parts (is_ascii_alphabetic b) (is_spaced Name (b ∷ more)) is.0.name).0
piece_begins (kind.Word word) a b more behind is = letter_begins b (and_parts (is_ascii_alphabetic b) (is_spaced Name (b ∷ more)) is.0.name).0
piece_begins kind.Int a b more behind is = digit_begins b (spaced_first Decimal b more (and_parts (is_spaced Decimal (b ∷ more)) (is_small (number (b ∷ more))) is.0).0)
piece_begins kind.Char a b more behind is = same_byte b 39 more _ is.1.spelled refl
piece_begins kind.Text a b more behind is = same_byte b 34 more _ is.1.spelled refl
piece_begins kind.Bits a b more behind is = same_byte b is.1.letter more _ is.1.spelled (letter_begins is.1.letter (base_letter is.1.letter is.1.base is.1.base_is))
piece_begins (kind.Delimiter d) a b more behind is = delimiter_begins d a b more behind is

one_letter : (b : ℕ) → is_ascii_alphabetic b ≡ true → BeginsToken b
one_letter b is = record {
  which = kind_of_word (reserved_word (b ∷ []));
  after_name = false;
  more = [];
  behind = [];
  piece = word_piece false (b ∷ []) [] (reserved_word (b ∷ [])) refl (record { name = and_from (is_ascii_alphabetic b) (is_ascii_alphanumeric b) is (letter_name b is); longest = refl; no_bits = refl });
}

one_digit : (b : ℕ) → is_ascii_digit b ≡ true → BeginsToken b
one_digit b is =
    let r = in_range 48 57 b is in
    let other : eqb b 95 ≡ false = ne_eqb b 95 (λ e. absurd (omega arith)) in
    let value : with_digit 0 b ≡ 10 * 0 + (b - 48) = cond-false (eqb b 95) 0 (10 * 0 + (b - 48)) other in
    let small : with_digit 0 b < 2 ^ 128 = omega arith in
    record {
      which = kind.Int;
      after_name = false;
      more = [];
      behind = [];
      piece = (and_from (is_ascii_digit b) (is_small (with_digit 0 b)) is (lt-ltb (with_digit 0 b) (2 ^ 128) small), refl);
    }

one_quote : BeginsToken 34
one_quote = record {
  which = kind.Text;
  after_name = false;
  more = 34 ∷ [];
  behind = [];
  piece = ([], record { spelled = refl; graphic = refl }, refl);
}

one_mark : (b : ℕ) (o : Option Delimiter) → single b ≡ o → is_some o ≡ true → BeginsToken b
one_mark b None is some = absurd cc
one_mark b (Some d) is some = record {
  which = kind.Delimiter d;
  after_name = true;
  more = [];
  behind = [];
  piece = (is, refl, or_right (not (eqb b 39)) true refl);
}

pub first_bytes : (b : ℕ) → IsTrue (begins_token b) ↔ BeginsToken b
first_bytes b = (λ h. first (or_cases (is_ascii_alphabetic b || is_ascii_digit b) (b == 34 || is_some (single b)) h), λ t. piece_begins t.which t.after_name b t.more t.behind t.piece)
  where
    last : ((b == 34) ≡ true) ⊎ (is_some (single b) ≡ true) → BeginsToken b
    last (inl e) = subst BeginsToken (sym (eqb-true b 34 e)) one_quote
    last (inr e) = one_mark b (single b) refl e

    word : (is_ascii_alphabetic b ≡ true) ⊎ (is_ascii_digit b ≡ true) → BeginsToken b
    word (inl e) = one_letter b e
    word (inr e) = one_digit b e

    first : ((is_ascii_alphabetic b || is_ascii_digit b) ≡ true) ⊎ ((b == 34 || is_some (single b)) ≡ true) → BeginsToken b
    first (inl e) = word (or_cases (is_ascii_alphabetic b) (is_ascii_digit b) e)
    first (inr e) = last (or_cases (b == 34) (is_some (single b)) e)
