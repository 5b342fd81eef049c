-- Where a piece stands at the front of a text, it is what is found there.
use Rattle.std.proofs.Common.{◌≡◌, ℕ, ◌+◌, Bool, true, false, ◌==◌, ◌||◌, not, cond, eqb, Option, Some, None, List, [], ◌∷◌, ◌++◌, length, take, drop, refl, sym, ap, ◌∙◌, subst, inl, inr, arith, append_assoc, length-append}
use Rattle.std.proofs.Math.Seq.{take-append_seam}
use Rattle.std.proofs.lemmas.List.{drop_at}
use Rattle.std.specs.List.{list_all, flat_map, prefix_len}
use Rattle.std.specs.Option.{is_some}
use Rattle.std.specs.Char.{is_ascii_alphabetic, is_ascii_digit}
use Rattle.std.proofs.lemmas.Bool.{cond-true, and_parts, or_parts, eqb-true, not-true}
use Rattle.vhdl_tokens.specs.declared.bytes.Class.{Class}
use Rattle.vhdl_tokens.specs.declared.bytes.Class.TheVariants.{Name, Decimal}
use Rattle.vhdl_tokens.specs.declared.token.Kind.{Kind}
use Rattle.vhdl_tokens.specs.declared.token.Kind.TheVariants as kind
use Rattle.vhdl_tokens.specs.declared.token.Delimiter.{Delimiter}
use Rattle.vhdl_tokens.specs.declared.token.Delimiter.TheVariants as delimiter
use Rattle.vhdl_tokens.specs.Bytes.{is_word_byte, is_graphic, is_separator}
use Rattle.vhdl_tokens.specs.Reserved.{reserved_word}
use Rattle.vhdl_tokens.specs.Delimiters.{single, double, goes_on, is_dashes, is_opening, is_closing}
use Rattle.vhdl_tokens.specs.Spelling.{begins, is_spaced, is_integer, is_small, number, IsChar, IsText, IsBits, IsSeparator, IsLineComment, IsBlockComment, doubled, are_digits, is_on_line, is_closed}
use Rattle.vhdl_tokens.specs.Text.{bits_base, IsWord, IsDelimiter, IsPiece}
use Rattle.vhdl_tokens.specs.Scan.{blank, token, run_len, kind_of_word, name_in, name_at, integer_in, integer_at, bits_in, bits_at, word_at, text_end, text_to, block_end, block_to, char_at, single_at, mark_at, piece_at}
use Rattle.vhdl_tokens.proofs.Classes.{digit_no_letter, spaced_word, spaced_first, prefix_whole, separator_plain, base_letter}
use Rattle.vhdl_tokens.proofs.Lengths.{graphic_step, quote_step}
use Rattle.vhdl_tokens.proofs.Marks.{Plain, PlainPair, single_plain, double_plain}

-- a run, read from the text
run_whole : (class : Class) (bytes behind : List ℕ) → is_spaced class bytes ≡ true → begins is_word_byte behind ≡ false → run_len (bytes ++ behind) ≡ length bytes
run_whole class bytes behind spaced longest = prefix_whole is_word_byte bytes behind (spaced_word class bytes spaced) longest

name_whole : (text bytes : List ℕ) → run_len text ≡ length bytes → take (length bytes) text ≡ bytes → is_spaced Name bytes ≡ true → name_at text ≡ token (kind_of_word (reserved_word bytes)) (length bytes)
unfolding name_at
name_whole text bytes len front spaced =
    ap (λ n. name_in (take n text) n) len ∙ ap (λ w. name_in w (length bytes)) front ∙ cond-true (is_spaced Name bytes) (token (kind_of_word (reserved_word bytes)) (length bytes)) None spaced

integer_whole : (text bytes : List ℕ) → run_len text ≡ length bytes → take (length bytes) text ≡ bytes → is_integer bytes ≡ true → integer_at text ≡ token kind.Int (length bytes)
unfolding integer_at
integer_whole text bytes len front good =
    ap (λ n. integer_in (take n text) n) len ∙ ap (λ w. integer_in w (length bytes)) front ∙ cond-true (is_integer bytes) (token kind.Int (length bytes)) None good

-- the first byte decides
letter_first : (a : Bool) (b : ℕ) (more : List ℕ) → is_ascii_alphabetic b ≡ true → piece_at a (b ∷ more) ≡ word_at (b ∷ more)
unfolding piece_at
letter_first a b more is = rw is refl

digit_first : (a : Bool) (b : ℕ) (more : List ℕ) → is_ascii_alphabetic b ≡ false → is_ascii_digit b ≡ true → piece_at a (b ∷ more) ≡ integer_at (b ∷ more)
unfolding piece_at
digit_first a b more isnt is = rw (isnt, is) refl

separator_first : (a : Bool) (b : ℕ) (more : List ℕ) → is_ascii_alphabetic b ≡ false → is_ascii_digit b ≡ false → is_separator b ≡ true → piece_at a (b ∷ more) ≡ blank 1
unfolding piece_at
separator_first a b more isnt none is = rw (isnt, none, is) refl

mark_first : (a : Bool) (b : ℕ) (more : List ℕ) → Plain b → eqb b 39 ≡ false → piece_at a (b ∷ more) ≡ mark_at (b ∷ more)
unfolding piece_at
mark_first a b more plain other = rw (plain.letter, plain.digit, plain.separator, plain.quote, other) refl

tick_first : (more : List ℕ) → piece_at true (39 ∷ more) ≡ token (kind.Delimiter delimiter.Tick) 1
unfolding piece_at
tick_first more = refl

-- words
word_no_bits : (text : List ℕ) → bits_base text ≡ None → word_at text ≡ name_at text
unfolding word_at
word_no_bits text isnt = rw isnt refl

word_bits : (text : List ℕ) (base : Class) → bits_base text ≡ Some base → word_at text ≡ bits_at base text
unfolding word_at
word_bits text base is = rw is refl

pub word_complete : (a : Bool) (bytes behind : List ℕ) → IsWord bytes behind → piece_at a (bytes ++ behind) ≡ token (kind_of_word (reserved_word bytes)) (length bytes)
word_complete a [] behind word = absurd cc
word_complete a (b ∷ more) behind word =
    let parts = and_parts (is_ascii_alphabetic b) (is_spaced Name (b ∷ more)) word.name in
    letter_first a b (more ++ behind) parts.0
    ∙ word_no_bits (b ∷ more ++ behind) word.no_bits
    ∙ name_whole ((b ∷ more) ++ behind) (b ∷ more) (run_whole Name (b ∷ more) behind parts.1 word.longest) (take-append_seam (b ∷ more) behind) parts.1

pub integer_complete : (a : Bool) (bytes behind : List ℕ) → is_integer bytes ≡ true → begins is_word_byte behind ≡ false → piece_at a (bytes ++ behind) ≡ token kind.Int (length bytes)
integer_complete a [] behind good longest = absurd cc
integer_complete a (b ∷ more) behind good longest =
    let parts = and_parts (is_spaced Decimal (b ∷ more)) (is_small (number (b ∷ more))) good in
    let first : is_ascii_digit b ≡ true = spaced_first Decimal b more parts.0 in
    digit_first a b (more ++ behind) (digit_no_letter b first) first
    ∙ integer_whole ((b ∷ more) ++ behind) (b ∷ more) (run_whole Decimal (b ∷ more) behind parts.0 longest) (take-append_seam (b ∷ more) behind) good

-- character literals
char_complete : (bytes behind : List ℕ) (byte : ℕ) → IsChar bytes byte → piece_at false (bytes ++ behind) ≡ token kind.Char (length bytes)
char_complete bytes behind byte char =
    subst (λ bs. piece_at false (bs ++ behind) ≡ token kind.Char (length bs)) (sym char.spelled) (plain byte behind char.graphic)
  where
    plain : (byte : ℕ) (behind : List ℕ) → is_graphic byte ≡ true → piece_at false (39 ∷ byte ∷ 39 ∷ behind) ≡ token kind.Char 3
    plain byte behind is = unfold piece_at in unfold char_at in rw is refl

-- string literals

text_none : (n b : ℕ) (more : List ℕ) → eqb b 34 ≡ false → text_end n (34 ∷ b ∷ more) ≡ Some (n + 1)
unfolding text_end
text_none n b more isnt = rw isnt refl

text_last : (n : ℕ) → text_end n (34 ∷ []) ≡ Some (n + 1)
unfolding text_end
text_last n = refl

value_more : (n v : ℕ) (value behind : List ℕ) (q : Bool) → eqb v 34 ≡ q → is_graphic v ≡ true → ((m : ℕ) → text_end m ((flat_map doubled value ++ 34 ∷ []) ++ behind) ≡ Some (m + length (flat_map doubled value ++ 34 ∷ []))) → text_end n (((cond q (34 ∷ 34 ∷ []) (v ∷ []) ++ flat_map doubled value) ++ 34 ∷ []) ++ behind) ≡ Some (n + length ((cond q (34 ∷ 34 ∷ []) (v ∷ []) ++ flat_map doubled value) ++ 34 ∷ []))
value_more n v value behind true is graphic rest =
    quote_step n ((flat_map doubled value ++ 34 ∷ []) ++ behind) ∙ rest (n + 2) ∙ ap Some (omega arith)
value_more n v value behind false is graphic rest =
    graphic_step n v ((flat_map doubled value ++ 34 ∷ []) ++ behind) is graphic ∙ rest (n + 1) ∙ ap Some (omega arith)

value_end : (n : ℕ) (value behind : List ℕ) → list_all is_graphic value ≡ true → begins (λ b. b == 34) behind ≡ false → text_end n ((flat_map doubled value ++ 34 ∷ []) ++ behind) ≡ Some (n + length (flat_map doubled value ++ 34 ∷ []))
value_end n [] [] all stops = text_last n
value_end n [] (b ∷ more) all stops = text_none n b more stops
value_end n (v ∷ value) behind all stops =
    let parts = and_parts (is_graphic v) (list_all is_graphic value) all in
    value_more n v value behind (eqb v 34) refl parts.0 (λ m. value_end m value behind parts.1 stops)

quote_first : (a : Bool) (more : List ℕ) → piece_at a (34 ∷ more) ≡ text_to (text_end 1 more)
unfolding piece_at
quote_first a more = refl

text_complete : (a : Bool) (bytes behind value : List ℕ) → IsText bytes value → begins (λ b. b == 34) behind ≡ false → piece_at a (bytes ++ behind) ≡ token kind.Text (length bytes)
text_complete a bytes behind value text longest =
    subst (λ bs. piece_at a (bs ++ behind) ≡ token kind.Text (length bs)) (sym text.spelled)
    (quote_first a ((flat_map doubled value ++ 34 ∷ []) ++ behind) ∙ ap text_to (value_end 1 value behind text.graphic longest) ∙ ap (token kind.Text) (omega arith))

-- bit string literals
digits_spaced : (base : Class) (digits : List ℕ) → are_digits base digits ≡ true → list_all is_word_byte digits ≡ true
digits_spaced base [] are = refl
digits_spaced base (d ∷ digits) are = spaced_word base (d ∷ digits) are

bits_whole : (base : Class) (letter : ℕ) (text digits behind : List ℕ) → run_len text ≡ length digits → take (length digits) text ≡ digits → drop (length digits) text ≡ 34 ∷ behind → are_digits base digits ≡ true → bits_at base (letter ∷ 34 ∷ text) ≡ token kind.Bits (length digits + 3)
unfolding bits_at
bits_whole base letter text digits behind len front back are =
    ap (λ n. bits_in base (take n text) (drop n text) n) len
    ∙ ap (λ w. bits_in base w (drop (length digits) text) (length digits)) front
    ∙ ap (λ w. bits_in base digits w (length digits)) back
    ∙ rw are refl

bits_complete : (a : Bool) (bytes behind : List ℕ) (bits : List Bool) → IsBits bytes bits → piece_at a (bytes ++ behind) ≡ token kind.Bits (length bytes)
bits_complete a bytes behind bits is =
    let digits = is.digits in
    let text : List ℕ = (digits ++ 34 ∷ []) ++ behind in
    let whole : text ≡ digits ++ 34 ∷ behind = append_assoc digits (34 ∷ []) behind in
    let len : run_len text ≡ length digits = ap run_len whole ∙ prefix_whole is_word_byte digits (34 ∷ behind) (digits_spaced is.base digits is.digits_are) refl in
    let front : take (length digits) text ≡ digits = ap (take (length digits)) whole ∙ take-append_seam digits (34 ∷ behind) in
    let back : drop (length digits) text ≡ 34 ∷ behind = ap (drop (length digits)) whole ∙ drop_at digits (34 ∷ behind) (length digits) refl in
    subst (λ bs. piece_at a (bs ++ behind) ≡ token kind.Bits (length bs)) (sym is.spelled)
    (letter_first a is.letter (34 ∷ text) (base_letter is.letter is.base is.base_is)
    ∙ word_bits (is.letter ∷ 34 ∷ text) is.base is.base_is
    ∙ bits_whole is.base is.letter text digits behind len front back is.digits_are
    ∙ ap (token kind.Bits) (omega (arith, length-append digits (34 ∷ []))))

-- separators and comments
separator_complete : (a : Bool) (bytes behind : List ℕ) → IsSeparator bytes → piece_at a (bytes ++ behind) ≡ blank (length bytes)
separator_complete a bytes behind is =
    let isnt = separator_plain is.byte is.separates in
    subst (λ bs. piece_at a (bs ++ behind) ≡ blank (length bs)) (sym is.spelled) (separator_first a is.byte behind isnt.0 isnt.1 is.separates)

dashes_first : (a : Bool) (more : List ℕ) → piece_at a (45 ∷ 45 ∷ more) ≡ blank (2 + prefix_len is_on_line more)
dashes_first a more = unfold piece_at in unfold mark_at in refl

opening_first : (a : Bool) (more : List ℕ) → piece_at a (47 ∷ 42 ∷ more) ≡ block_to (block_end 2 more)
opening_first a more = unfold piece_at in unfold mark_at in refl

line_complete : (a : Bool) (bytes behind : List ℕ) → IsLineComment bytes behind → piece_at a (bytes ++ behind) ≡ blank (length bytes)
line_complete a bytes behind is =
    subst (λ bs. piece_at a (bs ++ behind) ≡ blank (length bs)) (sym is.spelled)
    (dashes_first a (is.body ++ behind) ∙ ap blank (omega (arith, prefix_whole is_on_line is.body behind is.on_line is.ends)))

closed_here : (n a b : ℕ) (more : List ℕ) → is_closing a b ≡ true → block_end n (a ∷ b ∷ more) ≡ Some (n + 2)
unfolding block_end
closed_here n a b more is = rw is refl

closed_later : (n a b : ℕ) (more : List ℕ) → is_closing a b ≡ false → block_end n (a ∷ b ∷ more) ≡ block_end (n + 1) (b ∷ more)
unfolding block_end
closed_later n a b more is = rw is refl

closed_end : (n : ℕ) (body behind : List ℕ) → is_closed body ≡ true → block_end n (body ++ behind) ≡ Some (n + length body)
closed_end n [] behind is = absurd cc
closed_end n (a ∷ []) behind is = absurd cc
closed_end n (a ∷ b ∷ []) behind is = closed_here n a b behind is
closed_end n (a ∷ b ∷ c ∷ more) behind is =
    let parts = and_parts (not (is_closing a b)) (is_closed (b ∷ c ∷ more)) is in
    closed_later n a b (c ∷ more ++ behind) (not-true (is_closing a b) parts.0)
    ∙ closed_end (n + 1) (b ∷ c ∷ more) behind parts.1 ∙ ap Some (omega arith)

block_complete : (a : Bool) (bytes behind : List ℕ) → IsBlockComment bytes → piece_at a (bytes ++ behind) ≡ blank (length bytes)
block_complete a bytes behind is =
    subst (λ bs. piece_at a (bs ++ behind) ≡ blank (length bs)) (sym is.spelled)
    (opening_first a (is.body ++ behind) ∙ ap block_to (closed_end 2 is.body behind is.closed) ∙ ap blank (omega arith))

-- delimiters
single_mark : (b : ℕ) (d : Delimiter) (behind : List ℕ) → single b ≡ Some d → goes_on b behind ≡ false → mark_at (b ∷ behind) ≡ token (kind.Delimiter d) 1
unfolding mark_at
single_mark b d [] is whole = ap single_at is
single_mark b d (c ∷ more) is whole =
    let parts = or_parts (is_dashes b c || is_opening b c) (is_some (double b c)) whole in
    let comment = or_parts (is_dashes b c) (is_opening b c) parts.0 in
    let isnt : double b c ≡ None = none (double b c) parts.1 in
    rw (comment.0, comment.1, isnt, is) refl
  where
    none : (o : Option Delimiter) → is_some o ≡ false → o ≡ None
    none None e = refl
    none (Some d) e = absurd cc

double_mark : (b c : ℕ) (d : Delimiter) (behind : List ℕ) → double b c ≡ Some d → PlainPair b c → mark_at (b ∷ c ∷ behind) ≡ token (kind.Delimiter d) 2
unfolding mark_at
double_mark b c d behind is plain = rw (plain.dashes, plain.opening, is) refl

single_complete : (a : Bool) (b : ℕ) (d : Delimiter) (behind : List ℕ) (t : Bool) → eqb b 39 ≡ t → single b ≡ Some d → goes_on b behind ≡ false → (not t || a) ≡ true → piece_at a (b ∷ behind) ≡ token (kind.Delimiter d) 1
single_complete true b d behind true same is whole tick =
    let here : b ≡ 39 = eqb-true b 39 same in
    let tick_is : single 39 ≡ Some d = subst (λ k. single k ≡ Some d) here is in
    let d_is : delimiter.Tick ≡ d = cc in
    subst (λ k. piece_at true (k ∷ behind) ≡ token (kind.Delimiter d) 1) (sym here) (tick_first behind ∙ ap (λ m. token (kind.Delimiter m) 1) d_is)
single_complete false b d behind true same is whole tick = absurd cc
single_complete a b d behind false same is whole tick = mark_first a b behind (single_plain b d is) same ∙ single_mark b d behind is whole

delimiter_complete : (a : Bool) (bytes behind : List ℕ) (d : Delimiter) → IsDelimiter d a bytes behind → piece_at a (bytes ++ behind) ≡ token (kind.Delimiter d) (length bytes)
delimiter_complete a [] behind d is = absurd is
delimiter_complete a (b ∷ []) behind d is = single_complete a b d behind (eqb b 39) refl is.0 is.1 is.2
delimiter_complete a (b ∷ c ∷ []) behind d is =
    let plain = double_plain b c d is in
    mark_first a b (c ∷ behind) plain.first plain.apostrophe ∙ double_mark b c d behind is plain
delimiter_complete a (b ∷ c ∷ e ∷ more) behind d is = absurd is

-- all of them
pub complete : (k : Option Kind) (a : Bool) (bytes behind : List ℕ) → IsPiece k a bytes behind → piece_at a (bytes ++ behind) ≡ Some (record { kind = k; len = length bytes })
complete None a bytes behind (inl is) = separator_complete a bytes behind is
complete None a bytes behind (inr (inl is)) = line_complete a bytes behind is
complete None a bytes behind (inr (inr is)) = block_complete a bytes behind is
complete (Some kind.Identifier) a bytes behind is = word_complete a bytes behind is.0 ∙ ap (λ r. token (kind_of_word r) (length bytes)) is.1
complete (Some (kind.Word word)) a bytes behind is = word_complete a bytes behind is.0 ∙ ap (λ r. token (kind_of_word r) (length bytes)) is.1
complete (Some kind.Int) a bytes behind is = integer_complete a bytes behind is.0 is.1
complete (Some kind.Char) a bytes behind is =
    subst (λ t. piece_at t (bytes ++ behind) ≡ token kind.Char (length bytes)) (sym is.2) (char_complete bytes behind is.0 is.1)
complete (Some kind.Text) a bytes behind is = text_complete a bytes behind is.0 is.1 is.2
complete (Some kind.Bits) a bytes behind is = bits_complete a bytes behind is.0 is.1
complete (Some (kind.Delimiter d)) a bytes behind is = delimiter_complete a bytes behind d is
