-- Each token of a text is spelled as its kind says, and each text has a reading.
use Rattle.std.proofs.Common.{◌≡◌, ℕ, ◌+◌, ◌-◌, ◌<◌, ◌≤◌, ◌⊎◌, Bool, false, eqb, Option, Some, None, List, [], ◌∷◌, ◌++◌, length, take, drop, Result, Ok, Err, zero, suc, refl, sym, ap, ◌∙◌, subst, inl, inr, arith, length-append, length-drop}
use Rattle.std.specs.Result.{IfOk}
use Rattle.std.specs.List.{All, AllByRecursion, count_by}
use Rattle.std.proofs.lemmas.List.Elements.{All-from_recursion}
use Rattle.std.proofs.Math.Seq.{take-append_seam, drop-append_seam}
use Rattle.std.proofs.Math.Seq.{drop-nil}
use Rattle.vhdl_tokens.specs.declared.scan.Found.{Found}
use Rattle.vhdl_tokens.specs.declared.token.Kind.{Kind}
use Rattle.vhdl_tokens.specs.declared.token.Kind.TheVariants as kind
use Rattle.vhdl_tokens.specs.declared.token.Delimiter.{Delimiter}
use Rattle.vhdl_tokens.specs.declared.token.Token.{Token}
use Rattle.vhdl_tokens.specs.declared.token.TokenError.{TokenError}
use Rattle.vhdl_tokens.specs.Text.{IsPiece, IsDelimiter, Piece, Splits, name_behind, line_at, token_of, tokens_of, Tokens, IsFault, fault_of}
use Rattle.vhdl_tokens.specs.Meaning.{SpellsDelimiter, IsSpelled, IsTokenOf, StandInOrder}
use Rattle.vhdl_tokens.specs.Scan.{piece_at}
use Rattle.vhdl_tokens.proofs.Pieces.{SoFar, begin, goes_on, ends, faults, found_within, never_empty}

delimiter_spelled : (d : Delimiter) (a : Bool) (bytes behind : List ℕ) → IsDelimiter d a bytes behind → SpellsDelimiter d bytes
delimiter_spelled d a [] behind is = is
delimiter_spelled d a (b ∷ []) behind is = is.0
delimiter_spelled d a (b ∷ c ∷ []) behind is = is
delimiter_spelled d a (b ∷ c ∷ e ∷ more) behind is = is

piece_spelled : (k : Kind) (a : Bool) (bytes behind : List ℕ) → IsPiece (Some k) a bytes behind → IsSpelled k bytes
piece_spelled kind.Identifier a bytes behind is = (is.0.name, is.1)
piece_spelled (kind.Word word) a bytes behind is = is.1
piece_spelled kind.Int a bytes behind is = is.0
piece_spelled kind.Char a bytes behind is = (is.0, is.1)
piece_spelled kind.Text a bytes behind is = (is.0, is.1)
piece_spelled kind.Bits a bytes behind is = (is.0, is.1)
piece_spelled (kind.Delimiter d) a bytes behind is = delimiter_spelled d a bytes behind is

-- the bytes that stand in a text from a place on, and how many there are
seam : (text bytes behind : List ℕ) (place : ℕ) → drop place text ≡ bytes ++ behind → take (place + length bytes - place) (drop place text) ≡ bytes
seam text bytes behind place here =
    let n : place + length bytes - place ≡ length bytes = omega arith in
    ap (λ k. take k (drop place text)) n ∙ ap (take (length bytes)) here ∙ take-append_seam bytes behind

-- a list that is there has no more elements than what it is a part of
fits : (text bytes behind : List ℕ) (place : ℕ) → 0 < length bytes → drop place text ≡ bytes ++ behind → place + length bytes ≤ length text
fits text bytes behind place some here =
    let e : length (drop place text) ≡ length (bytes ++ behind) = ap length here in
    omega (arith, length-drop place text, length-append bytes behind)

drop_twice : (i j : ℕ) (xs : List ℕ) → drop (i + j) xs ≡ drop j (drop i xs)
drop_twice zero j xs = ap (λ n. drop n xs) (let e : zero + j ≡ j = omega arith in e)
drop_twice (suc i) j [] = drop-nil (suc i + j) ∙ sym (drop-nil j)
drop_twice (suc i) j (x ∷ xs) = ap (λ n. drop n (x ∷ xs)) (let e : suc i + j ≡ suc (i + j) = omega arith in e) ∙ drop_twice i j xs

step_on : (text bytes behind : List ℕ) (place : ℕ) → drop place text ≡ bytes ++ behind → drop (place + length bytes) text ≡ behind
step_on text bytes behind place here =
    drop_twice place (length bytes) text ∙ ap (drop (length bytes)) here ∙ drop-append_seam bytes behind

positive : (k : Option Kind) (a : Bool) (bytes behind : List ℕ) → IsPiece k a bytes behind → 0 < length bytes
positive k a [] behind is = absurd (never_empty k a behind is)
positive k a (b ∷ bytes) behind is = omega arith

all_spelled : (whole : List ℕ) (pieces : List Piece) (before after : Bool) (text rest : List ℕ) (place : ℕ) → drop place whole ≡ text → Splits pieces before text after rest → AllByRecursion (IsTokenOf whole) (tokens_of whole place pieces)
all_spelled whole [] before after text rest place here so = tt
all_spelled whole (p ∷ pieces) before after text rest place here so =
    let cut : drop place whole ≡ p.bytes ++ so.0 = here ∙ so.1 in
    let later = all_spelled whole pieces (name_behind p.kind before) after so.0 rest (place + length p.bytes) (step_on whole p.bytes so.0 place cut) so.3 in
    joined p.kind p.bytes so.0 cut so.2 later
  where
    joined : (k : Option Kind) (bytes behind : List ℕ) → drop place whole ≡ bytes ++ behind → IsPiece k before bytes behind → AllByRecursion (IsTokenOf whole) (tokens_of whole (place + length bytes) pieces) → AllByRecursion (IsTokenOf whole) (token_of k place (place + length bytes) (line_at whole place) ++ tokens_of whole (place + length bytes) pieces)
    joined None bytes behind cut is later = later
    joined (Some k) bytes behind cut is later = (
      record {
        within = fits whole bytes behind place (positive (Some k) before bytes behind is) cut;
        spelled = subst (IsSpelled k) (sym (seam whole bytes behind place cut)) (piece_spelled k before bytes behind is);
      },
      later,
    )

all_in_order : (whole : List ℕ) (pieces : List Piece) (before after : Bool) (text rest : List ℕ) (low place : ℕ) → low ≤ place → Splits pieces before text after rest → StandInOrder low (tokens_of whole place pieces)
all_in_order whole [] before after text rest low place below so = tt
all_in_order whole (p ∷ pieces) before after text rest low place below so =
    joined p.kind p.bytes so.0 so.2
    (λ least under. all_in_order whole pieces (name_behind p.kind before) after so.0 rest least (place + length p.bytes) under so.3)
  where
    joined : (k : Option Kind) (bytes behind : List ℕ) → IsPiece k before bytes behind → ((least : ℕ) → least ≤ place + length bytes → StandInOrder least (tokens_of whole (place + length bytes) pieces)) → StandInOrder low (token_of k place (place + length bytes) (line_at whole place) ++ tokens_of whole (place + length bytes) pieces)
    joined None bytes behind is later = later low (omega arith)
    joined (Some k) bytes behind is later =
        let some = positive (Some k) before bytes behind is in (below, omega arith, later (place + length bytes) (omega arith))

pub spelled : (text : List ℕ) (tokens : List Token) → Tokens text tokens → All (IsTokenOf text) tokens
spelled text tokens is =
    subst (All (IsTokenOf text)) (sym is.tokens_are)
    (All-from_recursion (IsTokenOf text) (tokens_of text 0 is.pieces) (all_spelled text is.pieces false is.after text [] 0 refl is.whole))

pub in_order : (text : List ℕ) (tokens : List Token) → Tokens text tokens → StandInOrder 0 tokens
in_order text tokens is =
    subst (StandInOrder 0) (sym is.tokens_are) (all_in_order text is.pieces false is.after text [] 0 0 (omega arith) is.whole)

-- Each text is a list of tokens, or has a first fault.
abbrev Reading : List ℕ → Type 0
Reading text = ((list : List Token) × Tokens text list) ⊎ ((fault : TokenError) × IsFault text fault)

reading_from : (n : ℕ) (text : List ℕ) (tokens : List Token) (place line : ℕ) (after : Bool) (rest : List ℕ) → SoFar text tokens place line after rest → length rest ≤ n → Reading text
reading_from n text tokens place line after [] so size = inl (tokens, ends text tokens place line after [] so refl)
reading_from zero text tokens place line after (b ∷ more) so size = absurd (omega arith)
reading_from (suc n) text tokens place line after (b ∷ more) so size =
    at (piece_at after (b ∷ more)) refl
    (λ f. reading_from n text (tokens ++ token_of f.kind place (place + f.len) line) (place + f.len) (line + count_by (λ c. eqb c 10) (take f.len (b ∷ more))) (name_behind f.kind after) (drop f.len (b ∷ more)))
  where
    at : (o : Option Found) → piece_at after (b ∷ more) ≡ o → ((f : Found) → SoFar text (tokens ++ token_of f.kind place (place + f.len) line) (place + f.len) (line + count_by (λ c. eqb c 10) (take f.len (b ∷ more))) (name_behind f.kind after) (drop f.len (b ∷ more)) → length (drop f.len (b ∷ more)) ≤ n → Reading text) → Reading text
    at None is later = inr (fault_of place b, faults text tokens place line after (b ∷ more) so (omega arith) is)
    at (Some f) is later =
        let found = found_within after (b ∷ more) f is in
        later f (goes_on text tokens place line after (b ∷ more) f so is) (omega (arith, found.some, found.all, length-drop f.len (b ∷ more)))

pub some_reading : (text : List ℕ) → Reading text
some_reading text = reading_from (length text) text [] 0 1 false text (begin text) (omega arith)

-- what a function answers as `Tokens` is spelled and in order
pub ok_spelled : {V E : Type 0} (items : V → List Token) (text : List ℕ) (r : Result V E) → IfOk r (λ v. Tokens text (items v)) → IfOk r (λ v. All (IsTokenOf text) (items v))
ok_spelled items text (Ok v) is = spelled text (items v) is
ok_spelled items text (Err e) is = is

pub ok_in_order : {V E : Type 0} (items : V → List Token) (text : List ℕ) (r : Result V E) → IfOk r (λ v. Tokens text (items v)) → IfOk r (λ v. StandInOrder 0 (items v))
ok_in_order items text (Ok v) is = in_order text (items v) is
ok_in_order items text (Err e) is = is
