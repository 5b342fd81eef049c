-- What the classes of bytes have to do with each other.
use Rattle.std.proofs.Common.{◌≡◌, ℕ, ◌+◌, ◌<◌, ◌≤◌, ◌⊎◌, Bool, true, false, ◌||◌, cond, eqb, leb, Some, None, List, [], ◌∷◌, ◌++◌, length, take, drop, suc, refl, sym, ◌∙◌, subst, inl, inr, arith}
use Rattle.std.specs.Int.{is_in_range}
use Rattle.std.specs.List.{list_all, prefix_len}
use Rattle.std.specs.Char.{is_ascii_alphabetic, is_ascii_alphanumeric, is_ascii_digit}
use Rattle.std.proofs.lemmas.Bool.{cond-true, cond-false, and_parts, and_from, or_cases, or_left, or_right, or_from, leb-true, le-leb, lt-leb, eqb-true}
use Rattle.vhdl_tokens.specs.declared.bytes.Class.{Class}
use Rattle.vhdl_tokens.specs.declared.bytes.Class.TheVariants.{Name, Decimal, Binary, Octal, Hexadecimal}
use Rattle.vhdl_tokens.specs.Bytes.{is_word_byte, is_separator, belongs, base_of}
use Rattle.vhdl_tokens.specs.Spelling.{begins, is_spaced}

pub in_range : (lo hi b : ℕ) → is_in_range lo hi b ≡ true → (lo ≤ b) × (b ≤ hi)
in_range lo hi b h = let p = and_parts (leb lo b) (leb b hi) h in (leb-true lo b p.0, leb-true b hi p.1)

within : (lo hi b : ℕ) → lo ≤ b → b ≤ hi → is_in_range lo hi b ≡ true
within lo hi b low high = and_from (leb lo b) (leb b hi) (le-leb lo b low) (le-leb b hi high)

below : (lo hi b : ℕ) → b < lo → is_in_range lo hi b ≡ false
below lo hi b low = rw (lt-leb lo b low) refl

-- a digit or a letter is a word byte
digit_word : (b : ℕ) → 48 ≤ b → b ≤ 57 → is_word_byte b ≡ true
digit_word b low high =
    or_left (is_ascii_alphanumeric b) (eqb b 95) (or_left (is_in_range 48 57 b || is_in_range 65 90 b) (is_in_range 97 122 b) (or_left (is_in_range 48 57 b) (is_in_range 65 90 b) (within 48 57 b low high)))

upper_word : (b : ℕ) → 65 ≤ b → b ≤ 90 → is_word_byte b ≡ true
upper_word b low high =
    or_left (is_ascii_alphanumeric b) (eqb b 95) (or_left (is_in_range 48 57 b || is_in_range 65 90 b) (is_in_range 97 122 b) (or_right (is_in_range 48 57 b) (is_in_range 65 90 b) (within 65 90 b low high)))

lower_word : (b : ℕ) → 97 ≤ b → b ≤ 122 → is_word_byte b ≡ true
lower_word b low high =
    or_left (is_ascii_alphanumeric b) (eqb b 95) (or_right (is_in_range 48 57 b || is_in_range 65 90 b) (is_in_range 97 122 b) (within 97 122 b low high))

class_word : (class : Class) (b : ℕ) → belongs class b ≡ true → is_word_byte b ≡ true
class_word Name b h = or_left (is_ascii_alphanumeric b) (eqb b 95) h
class_word Decimal b h = let r = in_range 48 57 b h in digit_word b r.0 r.1
class_word Binary b h = at (or_cases (eqb b 48) (eqb b 49) h)
  where
    at : (eqb b 48 ≡ true) ⊎ (eqb b 49 ≡ true) → is_word_byte b ≡ true
    at (inl e) = let is = eqb-true b 48 e in digit_word b (omega arith) (omega arith)
    at (inr e) = let is = eqb-true b 49 e in digit_word b (omega arith) (omega arith)
class_word Octal b h = let r = in_range 48 55 b h in digit_word b r.0 (omega arith)
class_word Hexadecimal b h = at (or_cases (is_in_range 48 57 b || is_in_range 65 70 b) (is_in_range 97 102 b) h)
  where
    front : (is_in_range 48 57 b ≡ true) ⊎ (is_in_range 65 70 b ≡ true) → is_word_byte b ≡ true
    front (inl e) = let r = in_range 48 57 b e in digit_word b r.0 r.1
    front (inr e) = let r = in_range 65 70 b e in upper_word b r.0 (omega arith)

    at : ((is_in_range 48 57 b || is_in_range 65 70 b) ≡ true) ⊎ (is_in_range 97 102 b ≡ true) → is_word_byte b ≡ true
    at (inl e) = front (or_cases (is_in_range 48 57 b) (is_in_range 65 70 b) e)
    at (inr e) = let r = in_range 97 102 b e in lower_word b r.0 (omega arith)

-- a letter may stand in a name
pub letter_name : (b : ℕ) → is_ascii_alphabetic b ≡ true → is_ascii_alphanumeric b ≡ true
letter_name b h = at (or_cases (is_in_range 65 90 b) (is_in_range 97 122 b) h)
  where
    at : (is_in_range 65 90 b ≡ true) ⊎ (is_in_range 97 122 b ≡ true) → is_ascii_alphanumeric b ≡ true
    at (inl e) = or_left (is_in_range 48 57 b || is_in_range 65 90 b) (is_in_range 97 122 b) (or_right (is_in_range 48 57 b) (is_in_range 65 90 b) e)
    at (inr e) = or_right (is_in_range 48 57 b || is_in_range 65 90 b) (is_in_range 97 122 b) e

-- a digit is no letter
pub digit_no_letter : (b : ℕ) → is_ascii_digit b ≡ true → is_ascii_alphabetic b ≡ false
digit_no_letter b h = let r = in_range 48 57 b h in or_from (is_in_range 65 90 b) (is_in_range 97 122 b) (below 65 90 b (omega arith)) (below 97 122 b (omega arith))

-- runs of members with single underlines between them are made of word bytes
spaced_more : (class : Class) (b : ℕ) (more : List ℕ) (t : Bool) → eqb b 95 ≡ t → cond t (is_spaced class more) (is_spaced class (b ∷ more)) ≡ true → (is_spaced class more ≡ true → list_all is_word_byte more ≡ true) → (is_spaced class (b ∷ more) ≡ true → list_all is_word_byte (b ∷ more) ≡ true) → list_all is_word_byte (b ∷ more) ≡ true
spaced_more class b more true e h skip next = and_from (is_word_byte b) (list_all is_word_byte more) (or_right (is_ascii_alphanumeric b) (eqb b 95) e) (skip h)
spaced_more class b more false e h skip next = next h

pub spaced_word : (class : Class) (w : List ℕ) → is_spaced class w ≡ true → list_all is_word_byte w ≡ true
spaced_word class [] h = refl
spaced_word class (a ∷ []) h = and_from (is_word_byte a) true (class_word class a h) refl
spaced_word class (a ∷ b ∷ more) h =
    let p = and_parts (belongs class a) (cond (eqb b 95) (is_spaced class more) (is_spaced class (b ∷ more))) h in
    and_from (is_word_byte a) (list_all is_word_byte (b ∷ more)) (class_word class a p.0) (spaced_more class b more (eqb b 95) refl p.1 (spaced_word class more) (spaced_word class (b ∷ more)))

pub spaced_first : (class : Class) (a : ℕ) (more : List ℕ) → is_spaced class (a ∷ more) ≡ true → belongs class a ≡ true
spaced_first class a [] h = h
spaced_first class a (b ∷ more) h = (and_parts (belongs class a) (cond (eqb b 95) (is_spaced class more) (is_spaced class (b ∷ more))) h).0

-- how far a test goes
pub prefix_whole : (p : ℕ → Bool) (front behind : List ℕ) → list_all p front ≡ true → begins p behind ≡ false → prefix_len p (front ++ behind) ≡ length front
prefix_whole p [] [] all stops = refl
prefix_whole p [] (b ∷ behind) all stops = cond-false (p b) (1 + prefix_len p behind) 0 stops
prefix_whole p (a ∷ front) behind all stops =
    let h = and_parts (p a) (list_all p front) all in
    cond-true (p a) (1 + prefix_len p (front ++ behind)) 0 h.0 ∙ omega (arith, prefix_whole p front behind h.1 stops)

pub prefix_stops : (p : ℕ → Bool) (text : List ℕ) → begins p (drop (prefix_len p text) text) ≡ false
prefix_stops p [] = refl
prefix_stops p (a ∷ text) = at (p a) refl (prefix_stops p text)
  where
    at : (t : Bool) → p a ≡ t → begins p (drop (prefix_len p text) text) ≡ false → begins p (drop (cond t (1 + prefix_len p text) 0) (a ∷ text)) ≡ false
    at true is so = let e : suc (prefix_len p text) ≡ 1 + prefix_len p text = omega arith in subst (λ k. begins p (drop k (a ∷ text)) ≡ false) e so
    at false is so = is

pub prefix_all : (p : ℕ → Bool) (text : List ℕ) → list_all p (take (prefix_len p text) text) ≡ true
prefix_all p [] = refl
prefix_all p (a ∷ text) = at (p a) refl (prefix_all p text)
  where
    at : (t : Bool) → p a ≡ t → list_all p (take (prefix_len p text) text) ≡ true → list_all p (take (cond t (1 + prefix_len p text) 0) (a ∷ text)) ≡ true
    at true is so = let e : suc (prefix_len p text) ≡ 1 + prefix_len p text = omega arith in subst (λ k. list_all p (take k (a ∷ text)) ≡ true) e (and_from (p a) (list_all p (take (prefix_len p text) text)) is so)
    at false is so = refl

-- The bytes of separators and delimiters by a test that computes: no letter, no digit, and none that the test fails
pub eqb_at : (P : ℕ → Type 0) (a k : ℕ) → eqb a k ≡ true → P k → P a
eqb_at P a k e h = subst P (sym (eqb-true a k e)) h

pub separator_plain : (b : ℕ) → is_separator b ≡ true → (is_ascii_alphabetic b ≡ false) × (is_ascii_digit b ≡ false)
separator_plain b h = at (or_cases ((eqb b 32 || eqb b 9) || eqb b 10) (eqb b 13) h)
  where
    inner : (eqb b 32 ≡ true) ⊎ (eqb b 9 ≡ true) → (is_ascii_alphabetic b ≡ false) × (is_ascii_digit b ≡ false)
    inner (inl e) = eqb_at (λ b. (is_ascii_alphabetic b ≡ false) × (is_ascii_digit b ≡ false)) b 32 e (refl, refl)
    inner (inr e) = eqb_at (λ b. (is_ascii_alphabetic b ≡ false) × (is_ascii_digit b ≡ false)) b 9 e (refl, refl)

    middle : ((eqb b 32 || eqb b 9) ≡ true) ⊎ (eqb b 10 ≡ true) → (is_ascii_alphabetic b ≡ false) × (is_ascii_digit b ≡ false)
    middle (inl e) = inner (or_cases (eqb b 32) (eqb b 9) e)
    middle (inr e) = eqb_at (λ b. (is_ascii_alphabetic b ≡ false) × (is_ascii_digit b ≡ false)) b 10 e (refl, refl)

    at : (((eqb b 32 || eqb b 9) || eqb b 10) ≡ true) ⊎ (eqb b 13 ≡ true) → (is_ascii_alphabetic b ≡ false) × (is_ascii_digit b ≡ false)
    at (inl e) = middle (or_cases (eqb b 32 || eqb b 9) (eqb b 10) e)
    at (inr e) = eqb_at (λ b. (is_ascii_alphabetic b ≡ false) × (is_ascii_digit b ≡ false)) b 13 e (refl, refl)

-- a base specifier is a letter
pub base_letter : (b : ℕ) (base : Class) → base_of b ≡ Some base → is_ascii_alphabetic b ≡ true
base_letter b base h = first (eqb b 98 || eqb b 66) refl h
  where
    two : (j k : ℕ) → is_ascii_alphabetic j ≡ true → is_ascii_alphabetic k ≡ true → (eqb b j || eqb b k) ≡ true → is_ascii_alphabetic b ≡ true
    two j k hj hk e = elim (or_cases (eqb b j) (eqb b k) e) as (λ _. is_ascii_alphabetic b ≡ true) [ inl e ↦ eqb_at (λ b. is_ascii_alphabetic b ≡ true) b j e hj | inr e ↦ eqb_at (λ b. is_ascii_alphabetic b ≡ true) b k e hk ]

    third : (t : Bool) → (eqb b 120 || eqb b 88) ≡ t → cond t (Some Hexadecimal) None ≡ Some base → is_ascii_alphabetic b ≡ true
    third true is e = two 120 88 refl refl is
    third false is e = absurd cc

    second : (t : Bool) → (eqb b 111 || eqb b 79) ≡ t → cond t (Some Octal) (cond (eqb b 120 || eqb b 88) (Some Hexadecimal) None) ≡ Some base → is_ascii_alphabetic b ≡ true
    second true is e = two 111 79 refl refl is
    second false is e = third (eqb b 120 || eqb b 88) refl e

    first : (t : Bool) → (eqb b 98 || eqb b 66) ≡ t → cond t (Some Binary) (cond (eqb b 111 || eqb b 79) (Some Octal) (cond (eqb b 120 || eqb b 88) (Some Hexadecimal) None)) ≡ Some base → is_ascii_alphabetic b ≡ true
    first true is e = two 98 66 refl refl is
    first false is e = second (eqb b 111 || eqb b 79) refl e
