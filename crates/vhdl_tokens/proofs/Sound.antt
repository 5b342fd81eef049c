-- What is found at the front of a text stands there.
use Rattle.std.proofs.Common.{◌≡◌, ℕ, ◌+◌, ◌≤◌, Bool, true, false, ◌==◌, ◌&&◌, ◌||◌, not, cond, eqb, Option, Some, None, List, [], ◌∷◌, ◌++◌, length, take, drop, zero, suc, refl, sym, ap, ◌∙◌, subst, inl, inr, arith}
use Rattle.std.proofs.lemmas.List.{take-append-drop}
use Rattle.std.proofs.lemmas.List.Sums.{prefix_len-le-length}
use Rattle.std.specs.List.{list_all, flat_map, prefix_len}
use Rattle.std.specs.Option.{is_some}
use Rattle.std.specs.Char.{is_ascii_alphabetic, is_ascii_digit}
use Rattle.std.proofs.lemmas.Bool.{cond-false, and_parts, and_from, or_from, or_left, eqb-true}
use Rattle.vhdl_tokens.specs.declared.scan.Found.{Found}
use Rattle.vhdl_tokens.specs.declared.bytes.Class.{Class}
use Rattle.vhdl_tokens.specs.declared.bytes.Class.TheVariants.{Name}
use Rattle.vhdl_tokens.specs.declared.token.Kind.{Kind}
use Rattle.vhdl_tokens.specs.declared.token.Kind.TheVariants as kind
use Rattle.vhdl_tokens.specs.declared.token.Delimiter.{Delimiter}
use Rattle.vhdl_tokens.specs.declared.reserved.Reserved.{Reserved}
use Rattle.vhdl_tokens.specs.Bytes.{is_word_byte, is_graphic, is_separator, base_of}
use Rattle.vhdl_tokens.specs.Reserved.{reserved_word}
use Rattle.vhdl_tokens.specs.Delimiters.{single, double, goes_on, is_dashes, is_opening, is_closing}
use Rattle.vhdl_tokens.specs.Spelling.{begins, is_spaced, is_integer, doubled, are_digits, bits_at as bits_of_digit, is_on_line, is_closed}
use Rattle.vhdl_tokens.specs.Text.{bits_base, IsWord, IsPiece}
use Rattle.vhdl_tokens.specs.Scan.{blank, token, run_len, kind_of_word, name_at, integer_at, bits_at, word_by, word_at, text_end, text_to, block_end, block_to, char_at, tick_at, single_at, double_at, mark_at, piece_at}
use Rattle.vhdl_tokens.proofs.Classes.{prefix_stops, prefix_all}

-- the piece that was found stands at the front of the text
pub record Stands (after_name : Bool) (text : List ℕ) (k : Option Kind) (len : ℕ) : Type 0 where
  pub within : len ≤ length text
  pub piece : IsPiece k after_name (take len text) (drop len text)

-- the same of what a function answers
abbrev Answers : Bool → List ℕ → Option Found → Type 0
Answers a text None = Unit {0}
Answers a text (Some f) = Stands a text f.kind f.len

choose : (P : Option Found → Type 0) (t : Bool) (x y : Option Found) → (t ≡ true → P x) → (t ≡ false → P y) → P (cond t x y)
choose P true x y yes_part no_part = yes_part refl
choose P false x y yes_part no_part = no_part refl

-- n bytes and then a byte that a test asks for
take_through : (c : ℕ) (n : ℕ) (xs : List ℕ) → begins (λ b. b == c) (drop n xs) ≡ true → (n + 1 ≤ length xs) × (take (n + 1) xs ≡ take n xs ++ c ∷ [])
take_through c zero [] h = absurd cc
take_through c zero (x ∷ xs) h = (omega arith, ap (λ k. k ∷ []) (eqb-true x c h))
take_through c (suc n) [] h = absurd cc
take_through c (suc n) (x ∷ xs) h =
    let rest = take_through c n xs h in
    let e : suc (n + 1) ≡ suc n + 1 = omega arith in
    (omega (arith, rest.0), subst (λ k. take k (x ∷ xs) ≡ x ∷ (take n xs ++ c ∷ [])) e (ap (λ ys. x ∷ ys) rest.1))

-- a nonempty front begins as the text does
first_of_front : (class : Class) (p : ℕ → Bool) (n : ℕ) (b : ℕ) (more : List ℕ) → is_spaced class (take n (b ∷ more)) ≡ true → begins p (take n (b ∷ more)) ≡ p b
first_of_front class p zero b more h = absurd cc
first_of_front class p (suc n) b more h = refl

pub word_piece : (a : Bool) (bytes behind : List ℕ) (r : Option Reserved) → reserved_word bytes ≡ r → IsWord bytes behind → IsPiece (Some (kind_of_word r)) a bytes behind
word_piece a bytes behind None is word = (word, is)
word_piece a bytes behind (Some w) is word = (word, is)

name_sound : (a : Bool) (b : ℕ) (more : List ℕ) → is_ascii_alphabetic b ≡ true → bits_base (b ∷ more) ≡ None → Answers a (b ∷ more) (name_at (b ∷ more))
unfolding name_at
name_sound a b more letter plain =
    let text = b ∷ more in
    let n = run_len text in
    choose (Answers a text) (is_spaced Name (take n text)) (token (kind_of_word (reserved_word (take n text))) n) None
    (λ spaced. record {
      within = prefix_len-le-length is_word_byte text;
      piece = word_piece a (take n text) (drop n text) (reserved_word (take n text)) refl (record {
        name = and_from (begins is_ascii_alphabetic (take n text)) (is_spaced Name (take n text)) (first_of_front Name is_ascii_alphabetic n b more spaced ∙ letter) spaced;
        longest = prefix_stops is_word_byte text;
        no_bits = ap bits_base (take-append-drop n text) ∙ plain;
      });
    })
    (λ other. tt)

integer_sound : (a : Bool) (text : List ℕ) → Answers a text (integer_at text)
unfolding integer_at
integer_sound a text =
    choose (Answers a text) (is_integer (take (run_len text) text)) (token kind.Int (run_len text)) None
    (λ good. record {
      within = prefix_len-le-length is_word_byte text;
      piece = (good, prefix_stops is_word_byte text);
    })
    (λ other. tt)

bits_sound : (a : Bool) (base : Class) (letter : ℕ) (rest : List ℕ) → base_of letter ≡ Some base → Answers a (letter ∷ 34 ∷ rest) (bits_at base (letter ∷ 34 ∷ rest))
unfolding bits_at
bits_sound a base letter rest is =
    let n = run_len rest in
    let digits = take n rest in
    choose (Answers a (letter ∷ 34 ∷ rest)) (are_digits base digits && begins (λ b. b == 34) (drop n rest)) (token kind.Bits (n + 3)) None
    (λ good.
    let parts = and_parts (are_digits base digits) (begins (λ b. b == 34) (drop n rest)) good in
    let through = take_through 34 n rest parts.1 in
    let e : suc (suc (n + 1)) ≡ n + 3 = omega arith in
    record {
      within = omega (arith, through.0);
      piece = (
        flat_map (bits_of_digit base) digits,
        record {
          letter = letter;
          base = base;
          digits = digits;
          spelled = subst (λ k. take k (letter ∷ 34 ∷ rest) ≡ letter ∷ 34 ∷ (digits ++ 34 ∷ [])) e (ap (λ ys. letter ∷ 34 ∷ ys) through.1);
          base_is = is;
          digits_are = parts.0;
          bits_are = refl;
        },
      );
    })
    (λ other. tt)

word_sound : (a : Bool) (b : ℕ) (more : List ℕ) → is_ascii_alphabetic b ≡ true → Answers a (b ∷ more) (word_at (b ∷ more))
unfolding word_at
word_sound a b more letter = by_base more (bits_base (b ∷ more)) refl
  where
    quoted : (q : ℕ) (rest : List ℕ) (base : Class) (t : Bool) → eqb q 34 ≡ t → cond t (base_of b) None ≡ Some base → Answers a (b ∷ q ∷ rest) (bits_at base (b ∷ q ∷ rest))
    quoted q rest base true is e = subst (λ k. Answers a (b ∷ k ∷ rest) (bits_at base (b ∷ k ∷ rest))) (sym (eqb-true q 34 is)) (bits_sound a base b rest e)
    quoted q rest base false is e = absurd cc

    by_base : (more : List ℕ) (o : Option Class) → bits_base (b ∷ more) ≡ o → Answers a (b ∷ more) (word_by o (b ∷ more))
    by_base more None e = name_sound a b more letter e
    by_base [] (Some base) e = absurd cc
    by_base (q ∷ rest) (Some base) e = quoted q rest base (eqb q 34) refl e

separator_sound : (a : Bool) (b : ℕ) (more : List ℕ) → is_separator b ≡ true → Answers a (b ∷ more) (blank 1)
separator_sound a b more is = record {
  within = omega arith;
  piece = inl (record { byte = b; spelled = refl; separates = is });
}

-- how a string literal goes on to its end
record Ends (n : ℕ) (rest : List ℕ) (m : ℕ) : Type 0 where
  count : ℕ
  sum : m ≡ n + count
  within : count ≤ length rest
  value : List ℕ
  spelled : take count rest ≡ flat_map doubled value ++ 34 ∷ []
  graphic : list_all is_graphic value ≡ true
  longest : begins (λ b. b == 34) (drop count rest) ≡ false

abbrev Reaches : ℕ → List ℕ → Option ℕ → Type 0
Reaches n rest None = Unit {0}
Reaches n rest (Some m) = Ends n rest m

-- one more byte of the value
more_byte : (n b : ℕ) (rest : List ℕ) (o : Option ℕ) → eqb b 34 ≡ false → is_graphic b ≡ true → Reaches (n + 1) rest o → Reaches n (b ∷ rest) o
more_byte n b rest None other graphic so = tt
more_byte n b rest (Some m) other graphic so = record {
  count = suc (so.count);
  sum = omega (arith, so.sum);
  within = omega (arith, so.within);
  value = b ∷ so.value;
  spelled = ap (λ ys. b ∷ ys) so.spelled ∙ ap (λ front. (front ++ flat_map doubled so.value) ++ 34 ∷ []) (sym (cond-false (eqb b 34) (34 ∷ 34 ∷ []) (b ∷ []) other));
  graphic = and_from (is_graphic b) (list_all is_graphic so.value) graphic so.graphic;
  longest = so.longest;
}

more_quote : (n : ℕ) (rest : List ℕ) (o : Option ℕ) → Reaches (n + 2) rest o → Reaches n (34 ∷ 34 ∷ rest) o
more_quote n rest None so = tt
more_quote n rest (Some m) so = record {
  count = suc (suc (so.count));
  sum = omega (arith, so.sum);
  within = omega (arith, so.within);
  value = 34 ∷ so.value;
  spelled = ap (λ ys. 34 ∷ 34 ∷ ys) so.spelled;
  graphic = so.graphic;
  longest = so.longest;
}

last_quote : (n : ℕ) (rest : List ℕ) → begins (λ b. b == 34) rest ≡ false → Ends n (34 ∷ rest) (n + 1)
last_quote n rest longest = record {
  count = 1;
  sum = refl;
  within = omega arith;
  value = [];
  spelled = refl;
  graphic = refl;
  longest = longest;
}

choose_reach : (n : ℕ) (rest : List ℕ) (t : Bool) (x y : Option ℕ) → (t ≡ true → Reaches n rest x) → (t ≡ false → Reaches n rest y) → Reaches n rest (cond t x y)
choose_reach n rest true x y hit miss = hit refl
choose_reach n rest false x y hit miss = miss refl

quote_at : (n a : ℕ) (rest : List ℕ) (o : Option ℕ) → eqb a 34 ≡ true → Reaches n (34 ∷ rest) o → Reaches n (a ∷ rest) o
quote_at n a rest o is so = subst (λ k. Reaches n (k ∷ rest) o) (sym (eqb-true a 34 is)) so

text_end_sound : (n : ℕ) (rest : List ℕ) → Reaches n rest (text_end n rest)
unfolding text_end
text_end_sound n [] = tt
text_end_sound n (a ∷ []) = choose_reach n (a ∷ []) (eqb a 34) (Some (n + 1)) None (λ is. quote_at n a [] (Some (n + 1)) is (last_quote n [] refl)) (λ other. tt)
text_end_sound n (a ∷ b ∷ more) =
    let later = text_end_sound (n + 2) more in
    let next = text_end_sound (n + 1) (b ∷ more) in
    choose_reach n (a ∷ b ∷ more) (eqb a 34) (cond (eqb b 34) (text_end (n + 2) more) (Some (n + 1))) (cond (is_graphic a) (text_end (n + 1) (b ∷ more)) None)
    (λ is. quote_at n a (b ∷ more) (cond (eqb b 34) (text_end (n + 2) more) (Some (n + 1))) is
    (choose_reach n (34 ∷ b ∷ more) (eqb b 34) (text_end (n + 2) more) (Some (n + 1))
    (λ too. subst (λ k. Reaches n (34 ∷ k ∷ more) (text_end (n + 2) more)) (sym (eqb-true b 34 too)) (more_quote n more (text_end (n + 2) more) later))
    (λ other. last_quote n (b ∷ more) other)))
    (λ other. choose_reach n (a ∷ b ∷ more) (is_graphic a) (text_end (n + 1) (b ∷ more)) None (λ graphic. more_byte n a (b ∷ more) (text_end (n + 1) (b ∷ more)) other graphic next) (λ bad. tt))

text_sound : (a : Bool) (more : List ℕ) → Answers a (34 ∷ more) (text_to (text_end 1 more))
text_sound a more = ends (text_end 1 more) (text_end_sound 1 more)
  where
    ends : (o : Option ℕ) → Reaches 1 more o → Answers a (34 ∷ more) (text_to o)
    ends None so = tt
    ends (Some m) so =
        let e : suc (so.count) ≡ m = omega (arith, so.sum) in
        subst (Stands a (34 ∷ more) (Some kind.Text)) e (record {
          within = omega (arith, so.within);
          piece = (so.value, record { spelled = ap (λ ys. 34 ∷ ys) so.spelled; graphic = so.graphic }, so.longest);
        })

-- an apostrophe
char_sound : (rest : List ℕ) → Answers false (39 ∷ rest) (char_at (39 ∷ rest))
unfolding char_at
char_sound [] = tt
char_sound (b ∷ []) = tt
char_sound (b ∷ c ∷ more) =
    choose (Answers false (39 ∷ b ∷ c ∷ more)) (is_graphic b && eqb c 39) (token kind.Char 3) None
    (λ good.
    let parts = and_parts (is_graphic b) (eqb c 39) good in
    record {
      within = omega arith;
      piece = (b, record { spelled = ap (λ k. 39 ∷ b ∷ k ∷ []) (eqb-true c 39 parts.1); graphic = parts.0 }, refl);
    })
    (λ other. tt)

tick_whole : (rest : List ℕ) → goes_on 39 rest ≡ false
tick_whole [] = refl
tick_whole (b ∷ more) = refl

tick_sound : (a : Bool) (rest : List ℕ) → Answers a (39 ∷ rest) (tick_at a (39 ∷ rest))
tick_sound true rest = record { within = omega arith; piece = (refl, tick_whole rest, refl) }
tick_sound false rest = char_sound rest

-- comments
line_sound : (a : Bool) (more : List ℕ) → Stands a (45 ∷ 45 ∷ more) None (2 + prefix_len is_on_line more)
line_sound a more =
    let n = prefix_len is_on_line more in
    let e : suc (suc n) ≡ 2 + n = omega arith in
    subst (Stands a (45 ∷ 45 ∷ more) None) e (record {
      within = omega (arith, prefix_len-le-length is_on_line more);
      piece = inr (inl (record { body = take n more; spelled = refl; on_line = prefix_all is_on_line more; ends = prefix_stops is_on_line more }));
    })

record Closes (n : ℕ) (rest : List ℕ) (m : ℕ) : Type 0 where
  count : ℕ
  sum : m ≡ n + count
  within : count ≤ length rest
  closed : is_closed (take count rest) ≡ true

abbrev Shuts : ℕ → List ℕ → Option ℕ → Type 0
Shuts n rest None = Unit {0}
Shuts n rest (Some m) = Closes n rest m

open_longer : (a b : ℕ) (more : List ℕ) (count : ℕ) → is_closing a b ≡ false → is_closed (take count (b ∷ more)) ≡ true → is_closed (take (suc count) (a ∷ b ∷ more)) ≡ true
open_longer a b more zero other closed = absurd cc
open_longer a b more (suc zero) other closed = absurd cc
open_longer a b [] (suc (suc count)) other closed = absurd cc
open_longer a b (c ∷ more) (suc (suc count)) other closed = and_from (not (is_closing a b)) (is_closed (take (suc (suc count)) (b ∷ c ∷ more))) (ap not other) closed

shuts_later : (n a b : ℕ) (more : List ℕ) (o : Option ℕ) → is_closing a b ≡ false → Shuts (n + 1) (b ∷ more) o → Shuts n (a ∷ b ∷ more) o
shuts_later n a b more None other so = tt
shuts_later n a b more (Some m) other so = record {
  count = suc (so.count);
  sum = omega (arith, so.sum);
  within = omega (arith, so.within);
  closed = open_longer a b more so.count other so.closed;
}

block_end_sound : (n : ℕ) (rest : List ℕ) → Shuts n rest (block_end n rest)
unfolding block_end
block_end_sound n [] = tt
block_end_sound n (a ∷ []) = tt
block_end_sound n (a ∷ b ∷ more) = at (is_closing a b) refl (block_end_sound (n + 1) (b ∷ more))
  where
    at : (t : Bool) → is_closing a b ≡ t → Shuts (n + 1) (b ∷ more) (block_end (n + 1) (b ∷ more)) → Shuts n (a ∷ b ∷ more) (cond t (Some (n + 2)) (block_end (n + 1) (b ∷ more)))
    at true is so = record { count = 2; sum = refl; within = omega arith; closed = is }
    at false is so = shuts_later n a b more (block_end (n + 1) (b ∷ more)) is so

block_sound : (a : Bool) (more : List ℕ) → Answers a (47 ∷ 42 ∷ more) (block_to (block_end 2 more))
block_sound a more = ends (block_end 2 more) (block_end_sound 2 more)
  where
    ends : (o : Option ℕ) → Shuts 2 more o → Answers a (47 ∷ 42 ∷ more) (block_to o)
    ends None so = tt
    ends (Some m) so =
        let e : suc (suc (so.count)) ≡ m = omega (arith, so.sum) in
        subst (Stands a (47 ∷ 42 ∷ more) None) e (record {
          within = omega (arith, so.within);
          piece = inr (inr (record { body = take so.count more; spelled = refl; closed = so.closed }));
        })

-- delimiters
no_tick : (a : Bool) (b : ℕ) → eqb b 39 ≡ false → (not (eqb b 39) || a) ≡ true
no_tick a b other = or_left (not (eqb b 39)) a (ap not other)

single_sound : (a : Bool) (b : ℕ) (behind : List ℕ) (o : Option Delimiter) → single b ≡ o → goes_on b behind ≡ false → eqb b 39 ≡ false → Answers a (b ∷ behind) (single_at o)
single_sound a b behind None is whole other = tt
single_sound a b behind (Some d) is whole other = record { within = omega arith; piece = (is, whole, no_tick a b other) }

mark_sound : (a : Bool) (b : ℕ) (more : List ℕ) → eqb b 39 ≡ false → Answers a (b ∷ more) (mark_at (b ∷ more))
unfolding mark_at
mark_sound a b [] other = single_sound a b [] (single b) refl refl other
mark_sound a b (c ∷ more) other =
    choose (Answers a (b ∷ c ∷ more)) (is_dashes b c) (blank (2 + prefix_len is_on_line more)) (cond (is_opening b c) (block_to (block_end 2 more)) (double_at (double b c) b))
    (λ dashes.
    let parts = and_parts (eqb b 45) (eqb c 45) dashes in
    subst (λ k. Stands a (k ∷ c ∷ more) None (2 + prefix_len is_on_line more)) (sym (eqb-true b 45 parts.0))
    (subst (λ k. Stands a (45 ∷ k ∷ more) None (2 + prefix_len is_on_line more)) (sym (eqb-true c 45 parts.1)) (line_sound a more)))
    (λ plain.
    choose (Answers a (b ∷ c ∷ more)) (is_opening b c) (block_to (block_end 2 more)) (double_at (double b c) b)
    (λ opening.
    let parts = and_parts (eqb b 47) (eqb c 42) opening in
    subst (λ k. Answers a (k ∷ c ∷ more) (block_to (block_end 2 more))) (sym (eqb-true b 47 parts.0))
    (subst (λ k. Answers a (47 ∷ k ∷ more) (block_to (block_end 2 more))) (sym (eqb-true c 42 parts.1)) (block_sound a more)))
    (λ opens. by_double (double b c) refl plain opens))
  where
    by_double : (o : Option Delimiter) → double b c ≡ o → is_dashes b c ≡ false → is_opening b c ≡ false → Answers a (b ∷ c ∷ more) (double_at o b)
    by_double (Some d) is dashes opening = record { within = omega arith; piece = is }
    by_double None is dashes opening =
        single_sound a b (c ∷ more) (single b) refl (or_from (is_dashes b c || is_opening b c) (is_some (double b c)) (or_from (is_dashes b c) (is_opening b c) dashes opening) (ap is_some is)) other

-- all of them
pub answers : (a : Bool) (text : List ℕ) → Answers a text (piece_at a text)
unfolding piece_at
answers a [] = tt
answers a (b ∷ more) =
    let P : Option Found → Type 0 = Answers a (b ∷ more) in
    choose P (is_ascii_alphabetic b) _ _ (λ letter. word_sound a b more letter)
    (λ l. choose P (is_ascii_digit b) _ _ (λ digit. integer_sound a (b ∷ more))
    (λ d. choose P (is_separator b) _ _ (λ is. separator_sound a b more is)
    (λ s. choose P (eqb b 34) _ _ (λ is. subst (λ k. Answers a (k ∷ more) (text_to (text_end 1 more))) (sym (eqb-true b 34 is)) (text_sound a more))
    (λ q. choose P (eqb b 39) _ _ (λ is. subst (λ k. Answers a (k ∷ more) (tick_at a (k ∷ more))) (sym (eqb-true b 39 is)) (tick_sound a more))
    (λ t. mark_sound a b more t)))))

pub sound : (a : Bool) (text : List ℕ) (f : Found) → piece_at a text ≡ Some f → Stands a text f.kind f.len
sound a text f is = subst (Answers a text) is (answers a text)
