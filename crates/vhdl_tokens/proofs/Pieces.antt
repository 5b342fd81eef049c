-- Texts as pieces: one more piece at the end, and that there is one way to read a text.
use Rattle.std.proofs.Common.{◌≡◌, ℕ, ◌+◌, ◌<◌, ◌≤◌, ◌⊎◌, Bool, false, cond, eqb, Option, Some, None, List, [], ◌∷◌, ◌++◌, length, take, drop, get_or, Result, Ok, Err, zero, suc, refl, sym, ap, ◌∙◌, subst, inl, inr, arith, append_assoc, length-append, length-drop}
use Rattle.std.specs.List.{count_by}
use Rattle.std.proofs.Math.Seq.{take-append_seam, drop-append_seam, drop-append-add, take-add}
use Rattle.std.proofs.lemmas.List.{take-append-drop, length-take}
use Rattle.std.proofs.lemmas.List.Sums.{sum_by-append}
use Rattle.std.proofs.lemmas.Option.{same_Some}
use Rattle.vhdl_tokens.specs.declared.scan.Found.{Found}
use Rattle.std.specs.Result.{IfOk, IfErr, IsOkAnd, IsErrOf}
use Rattle.vhdl_tokens.specs.declared.token.Kind.{Kind}
use Rattle.vhdl_tokens.specs.declared.token.Kind.TheVariants as kind
use Rattle.vhdl_tokens.specs.declared.token.Token.{Token}
use Rattle.vhdl_tokens.specs.declared.token.TokenError.{TokenError}
use Rattle.vhdl_tokens.specs.declared.token.TokenError.TheVariants as error
use Rattle.vhdl_tokens.specs.Text.{IsPiece, Piece, Splits, size_of, name_behind, line_at, token_of, tokens_of, Tokens, fault_of, IsFault, Refuses}
use Rattle.vhdl_tokens.specs.Scan.{piece_at}
use Rattle.vhdl_tokens.proofs.Complete.{complete}
use Rattle.vhdl_tokens.proofs.Sound.{sound}

-- One more piece at the end.
pub splits_snoc : (pieces : List Piece) (before after : Bool) (text rest behind : List ℕ) (piece : Piece) → Splits pieces before text after rest → rest ≡ piece.bytes ++ behind → IsPiece piece.kind after piece.bytes behind → Splits (pieces ++ piece ∷ []) before text (name_behind piece.kind after) behind
splits_snoc [] before after text rest behind piece so cut is =
    (behind, so.1 ∙ cut, subst (λ a. IsPiece piece.kind a piece.bytes behind) (sym so.0) is, (ap (name_behind piece.kind) so.0, refl))
splits_snoc (p ∷ pieces) before after text rest behind piece so cut is =
    (so.0, so.1, so.2, splits_snoc pieces (name_behind p.kind before) after so.0 rest behind piece so.3 cut is)

size_snoc : (pieces : List Piece) (piece : Piece) → size_of (pieces ++ piece ∷ []) ≡ size_of pieces + length piece.bytes
size_snoc [] piece = omega arith
size_snoc (p ∷ pieces) piece = omega (arith, size_snoc pieces piece)

tokens_snoc : (text : List ℕ) (place : ℕ) (pieces : List Piece) (piece : Piece) → tokens_of text place (pieces ++ piece ∷ []) ≡ tokens_of text place pieces ++ token_of piece.kind (place + size_of pieces) (place + size_of pieces + length piece.bytes) (line_at text (place + size_of pieces))
tokens_snoc text place [] piece =
    let e : place + 0 ≡ place = omega arith in
    append_nil (token_of piece.kind place (place + length piece.bytes) (line_at text place)) ∙ ap (λ n. token_of piece.kind n (n + length piece.bytes) (line_at text n)) (sym e)
  where
    append_nil : (ts : List Token) → ts ++ [] ≡ ts
    append_nil [] = refl
    append_nil (t ∷ ts) = ap (λ us. t ∷ us) (append_nil ts)
tokens_snoc text place (p ∷ pieces) piece =
    let e : place + length p.bytes + size_of pieces ≡ place + (length p.bytes + size_of pieces) = omega arith in
    let front : List Token = token_of p.kind place (place + length p.bytes) (line_at text place) in
    ap (λ ts. front ++ ts) (tokens_snoc text (place + length p.bytes) pieces piece ∙ ap (λ n. tokens_of text (place + length p.bytes) pieces ++ token_of piece.kind n (n + length piece.bytes) (line_at text n)) e)
    ∙ sym (append_assoc front (tokens_of text (place + length p.bytes) pieces) (token_of piece.kind (place + (length p.bytes + size_of pieces)) (place + (length p.bytes + size_of pieces) + length piece.bytes) (line_at text (place + (length p.bytes + size_of pieces)))))

-- what is left stands where the pieces end
pub rest_is : (pieces : List Piece) (before after : Bool) (text rest : List ℕ) → Splits pieces before text after rest → rest ≡ drop (size_of pieces) text
rest_is [] before after text rest so = sym so.1
rest_is (p ∷ pieces) before after text rest so =
    rest_is pieces (name_behind p.kind before) after so.0 rest so.3
    ∙ sym (drop-append-add p.bytes so.0 (size_of pieces))
    ∙ ap (drop (length p.bytes + size_of pieces)) (sym so.1)

pub size_and_rest : (pieces : List Piece) (before after : Bool) (text rest : List ℕ) → Splits pieces before text after rest → size_of pieces + length rest ≡ length text
size_and_rest [] before after text rest so = let e : length text ≡ length rest = ap length so.1 in omega arith
size_and_rest (p ∷ pieces) before after text rest so =
    let e : length text ≡ length (p.bytes ++ so.0) = ap length so.1 in
    omega (arith, length-append p.bytes so.0, size_and_rest pieces (name_behind p.kind before) after so.0 rest so.3)

-- the lines further on
pub line_on : (text : List ℕ) (place n : ℕ) (rest : List ℕ) → rest ≡ drop place text → line_at text (place + n) ≡ line_at text place + count_by (λ b. eqb b 10) (take n rest)
line_on text place n rest is =
    let cut : take (place + n) text ≡ take place text ++ take n rest = take-add place n text ∙ ap (λ xs. take place text ++ take n xs) (sym is) in
    let counts : count_by (λ b. eqb b 10) (take (place + n) text) ≡ count_by (λ b. eqb b 10) (take place text) + count_by (λ b. eqb b 10) (take n rest) =
    ap (count_by (λ b. eqb b 10)) cut ∙ sum_by-append (λ b. cond (eqb b 10) 1 0) (take place text) (take n rest) in
    omega arith

-- The reading so far: these pieces, their tokens, and the place and line behind them.
pub record SoFar (text : List ℕ) (tokens : List Token) (place line : ℕ) (after : Bool) (rest : List ℕ) : Type 0 where
  pub pieces : List Piece
  pub splits : Splits pieces false text after rest
  pub tokens_are : tokens ≡ tokens_of text 0 pieces
  pub place_is : place ≡ size_of pieces
  pub line_is : line ≡ line_at text place
  pub within : place + length rest ≡ length text

pub begin : (text : List ℕ) → SoFar text [] 0 1 false text
begin text = record { pieces = []; splits = (refl, refl); tokens_are = refl; place_is = refl; line_is = refl; within = omega arith }

pub goes_on : (text : List ℕ) (tokens : List Token) (place line : ℕ) (after : Bool) (rest : List ℕ) (f : Found) → SoFar text tokens place line after rest → piece_at after rest ≡ Some f → SoFar text (tokens ++ token_of f.kind place (place + f.len) line) (place + f.len) (line + count_by (λ b. eqb b 10) (take f.len rest)) (name_behind f.kind after) (drop f.len rest)
goes_on text tokens place line after rest f so is =
    let stands = sound after rest f is in
    let piece : Piece = record { kind = f.kind; bytes = take f.len rest } in
    let size : length (take f.len rest) ≡ f.len = omega (arith, length-take f.len rest, stands.within) in
    let here : rest ≡ drop place text = rest_is so.pieces false after text rest so.splits ∙ ap (λ n. drop n text) (sym so.place_is) in
    record {
      pieces = so.pieces ++ piece ∷ [];
      splits = splits_snoc so.pieces false after text rest (drop f.len rest) piece so.splits (sym (take-append-drop f.len rest)) stands.piece;
      tokens_are =
          ap (λ ts. ts ++ token_of f.kind place (place + f.len) line) so.tokens_are
          ∙ ap (λ l. tokens_of text 0 so.pieces ++ token_of f.kind place (place + f.len) l) so.line_is
          ∙ ap (λ n. tokens_of text 0 so.pieces ++ token_of f.kind place (place + n) (line_at text place)) (sym size)
          ∙ ap (λ n. tokens_of text 0 so.pieces ++ token_of f.kind n (n + length (take f.len rest)) (line_at text n)) (let e : place ≡ 0 + size_of so.pieces = omega (arith, so.place_is) in e)
          ∙ sym (tokens_snoc text 0 so.pieces piece);
      place_is = omega (arith, so.place_is, size, size_snoc so.pieces piece);
      line_is = ap (λ l. l + count_by (λ b. eqb b 10) (take f.len rest)) so.line_is ∙ sym (line_on text place f.len rest here);
      within = omega (arith, so.within, stands.within, length-drop f.len rest);
    }

pub ends : (text : List ℕ) (tokens : List Token) (place line : ℕ) (after : Bool) (rest : List ℕ) → SoFar text tokens place line after rest → length rest ≡ 0 → Tokens text tokens
ends text tokens place line after [] so is = record { pieces = so.pieces; after = after; whole = so.splits; tokens_are = so.tokens_are }
ends text tokens place line after (b ∷ rest) so is = absurd (omega arith)

found_here : (a : Bool) (text : List ℕ) (k : Option Kind) (bytes behind : List ℕ) → text ≡ bytes ++ behind → IsPiece k a bytes behind → piece_at a text ≡ Some (record { kind = k; len = length bytes })
found_here a text k bytes behind cut is = ap (piece_at a) cut ∙ complete k a bytes behind is

none_here : (a : Bool) (text : List ℕ) → piece_at a text ≡ None → (k : Option Kind) (bytes behind : List ℕ) → text ≡ bytes ++ behind → IsPiece k a bytes behind → ⊥
none_here a text none k bytes behind cut is = let e = found_here a text k bytes behind cut is in absurd (none_some _ (sym none ∙ e))
  where
    none_some : (f : Found) → ◌≡◌ {A = Option Found} None (Some f) → ⊥
    none_some f e = absurd cc

pub faults : (text : List ℕ) (tokens : List Token) (place line : ℕ) (after : Bool) (rest : List ℕ) → SoFar text tokens place line after rest → 0 < length rest → piece_at after rest ≡ None → IsFault text (fault_of place (get_or rest 0 0))
faults text tokens place line after [] so some none = absurd (omega arith)
faults text tokens place line after (b ∷ rest) so some none = record {
  pieces = so.pieces;
  after = after;
  byte = b;
  rest = rest;
  splits = so.splits;
  no_piece = none_here after (b ∷ rest) none;
  fault_is = ap (λ n. fault_of n b) so.place_is;
}

-- There is one way to read a text.
record SamePiece (k j : Option Kind) (bytes others behind beyond : List ℕ) : Type 0 where
  kind : k ≡ j
  bytes_are : bytes ≡ others
  behind_is : behind ≡ beyond

same_piece : (a : Bool) (text : List ℕ) (k j : Option Kind) (bytes others behind beyond : List ℕ) → text ≡ bytes ++ behind → text ≡ others ++ beyond → IsPiece k a bytes behind → IsPiece j a others beyond → SamePiece k j bytes others behind beyond
same_piece a text k j bytes others behind beyond cut other is too =
    let e = same_Some {A = Found} (record { kind = k; len = length bytes }) (record { kind = j; len = length others }) (sym (found_here a text k bytes behind cut is) ∙ found_here a text j others beyond other too) in
    let size : length bytes ≡ length others = ap (λ f. f.len) e in
    record {
      kind = ap (λ f. f.kind) e;
      bytes_are = sym (take-append_seam bytes behind) ∙ ap (take (length bytes)) (sym cut ∙ other) ∙ ap (λ n. take n (others ++ beyond)) size ∙ take-append_seam others beyond;
      behind_is = sym (drop-append_seam bytes behind) ∙ ap (drop (length bytes)) (sym cut ∙ other) ∙ ap (λ n. drop n (others ++ beyond)) size ∙ drop-append_seam others beyond;
    }

-- no piece stands at the rest
abbrev Stuck : Bool → List ℕ → Type 0
Stuck a rest = (k : Option Kind) (bytes behind : List ℕ) → rest ≡ bytes ++ behind → IsPiece k a bytes behind → ⊥

stuck_at_end : (a : Bool) → Stuck a []
stuck_at_end a = none_here a [] (at_end a)
  where
    at_end : (a : Bool) → piece_at a [] ≡ None
    at_end a = unfold piece_at in refl

record SameSplit (ps qs : List Piece) (a b : Bool) (r s : List ℕ) : Type 0 where
  pieces : ps ≡ qs
  after : a ≡ b
  rest : r ≡ s

same_split : (ps qs : List Piece) (before a b : Bool) (text r s : List ℕ) → Splits ps before text a r → Splits qs before text b s → Stuck a r → Stuck b s → SameSplit ps qs a b r s
same_split [] [] before a b text r s so too stuck halts = record { pieces = refl; after = sym so.0 ∙ too.0; rest = sym so.1 ∙ too.1 }
same_split [] (q ∷ qs) before a b text r s so too stuck halts =
    absurd (stuck q.kind q.bytes too.0 (sym so.1 ∙ too.1) (subst (λ x. IsPiece q.kind x q.bytes too.0) so.0 too.2))
same_split (p ∷ ps) [] before a b text r s so too stuck halts =
    absurd (halts p.kind p.bytes so.0 (sym too.1 ∙ so.1) (subst (λ x. IsPiece p.kind x p.bytes so.0) too.0 so.2))
same_split (p ∷ ps) (q ∷ qs) before a b text r s so too stuck halts =
    let first = same_piece before text p.kind q.kind p.bytes q.bytes so.0 too.0 so.1 too.1 so.2 too.2 in
    let others : Splits qs (name_behind p.kind before) so.0 b s =
    subst (λ x. Splits qs (name_behind x before) so.0 b s) (sym first.kind) (subst (λ x. Splits qs (name_behind q.kind before) x b s) (sym first.behind_is) too.3) in
    let rest = same_split ps qs (name_behind p.kind before) a b so.0 r s so.3 others stuck halts in
    record { pieces = joined p q ps qs first.kind first.bytes_are rest.pieces; after = rest.after; rest = rest.rest }
  where
    piece_is : (k j : Option Kind) (bytes others : List ℕ) → k ≡ j → bytes ≡ others → ◌≡◌ {A = Piece} (record { kind = k; bytes = bytes }) (record { kind = j; bytes = others })
    piece_is k j bytes others e d = cc

    joined : (p q : Piece) (ps qs : List Piece) → p.kind ≡ q.kind → p.bytes ≡ q.bytes → ps ≡ qs → p ∷ ps ≡ q ∷ qs
    joined p q ps qs e d rest = ap (λ x. x ∷ ps) (piece_is p.kind q.kind p.bytes q.bytes e d) ∙ ap (λ xs. q ∷ xs) rest

pub one_list : (text : List ℕ) (ts us : List Token) → Tokens text ts → Tokens text us → ts ≡ us
one_list text ts us so too =
    let same = same_split so.pieces too.pieces false so.after too.after text [] [] so.whole too.whole (stuck_at_end so.after) (stuck_at_end too.after) in
    so.tokens_are ∙ ap (tokens_of text 0) same.pieces ∙ sym too.tokens_are

pub list_or_fault : (text : List ℕ) (ts : List Token) (fault : TokenError) → Tokens text ts → IsFault text fault → ⊥
list_or_fault text ts fault so too =
    let same = same_split so.pieces too.pieces false so.after too.after text [] (too.byte ∷ too.rest) so.whole too.splits (stuck_at_end so.after) too.no_piece in
    nothing too.byte too.rest same.rest
  where
    nothing : (b : ℕ) (rest : List ℕ) → ◌≡◌ {A = List ℕ} [] (b ∷ rest) → ⊥
    nothing b rest e = absurd cc

pub one_fault : (text : List ℕ) (e f : TokenError) → IsFault text e → IsFault text f → e ≡ f
one_fault text e f so too =
    let same = same_split so.pieces too.pieces false so.after too.after text (so.byte ∷ so.rest) (too.byte ∷ too.rest) so.splits too.splits so.no_piece too.no_piece in
    let byte : so.byte ≡ too.byte = ap (λ xs. get_or xs 0 0) same.rest in
    so.fault_is ∙ ap (λ ps. fault_of (size_of ps) so.byte) same.pieces ∙ ap (fault_of (size_of too.pieces)) byte ∙ sym too.fault_is

-- no piece is empty
pub never_empty : (k : Option Kind) (a : Bool) (behind : List ℕ) → IsPiece k a [] behind → ⊥
never_empty None a behind (inl is) = let e = is.spelled in absurd cc
never_empty None a behind (inr (inl is)) = let e = is.spelled in absurd cc
never_empty None a behind (inr (inr is)) = let e = is.spelled in absurd cc
never_empty (Some kind.Identifier) a behind is = let e = is.0.name in absurd cc
never_empty (Some (kind.Word word)) a behind is = let e = is.0.name in absurd cc
never_empty (Some kind.Int) a behind is = let e = is.0 in absurd cc
never_empty (Some kind.Char) a behind is = let e = is.1.spelled in absurd cc
never_empty (Some kind.Text) a behind is = let e = is.1.spelled in absurd cc
never_empty (Some kind.Bits) a behind is = let e = is.1.spelled in absurd cc
never_empty (Some (kind.Delimiter d)) a behind is = is

-- what is found has a byte, and no more than there are
pub record IsWithin (len : ℕ) (text : List ℕ) : Type 0 where
  pub some : 0 < len
  pub all : len ≤ length text

pub found_within : (a : Bool) (text : List ℕ) (f : Found) → piece_at a text ≡ Some f → IsWithin f.len text
found_within a text f is =
    let stands = sound a text f is in
    record { some = positive f.len stands.piece; all = stands.within }
  where
    positive : (n : ℕ) → IsPiece f.kind a (take n text) (drop n text) → 0 < n
    positive zero here = absurd (never_empty f.kind a text here)
    positive (suc n) here = omega arith

pub refuses : (text : List ℕ) (fault : TokenError) → IsFault text fault → Refuses text fault
refuses text error.NoMemory is = tt
refuses text (error.BadByte place) is = is
refuses text (error.BadLiteral place) is = is

-- what the definition reads a text as is what is answered, unless memory runs out
pub only_list : {V : Type 0} (items : V → List Token) (text : List ℕ) (r : Result V TokenError) → IfOk r (λ v. Tokens text (items v)) → IfErr r (Refuses text) → (list : List Token) → Tokens text list → IsOkAnd r (λ v. items v ≡ list) ⊎ IsErrOf r error.NoMemory
only_list items text (Ok v) ok refusal list is = inl (one_list text (items v) list ok is)
only_list items text (Err error.NoMemory) ok refusal list is = inr refl
only_list items text (Err (error.BadByte place)) ok refusal list is = absurd (list_or_fault text list (error.BadByte place) is refusal)
only_list items text (Err (error.BadLiteral place)) ok refusal list is = absurd (list_or_fault text list (error.BadLiteral place) is refusal)

pub only_fault : {V : Type 0} (items : V → List Token) (text : List ℕ) (r : Result V TokenError) → IfOk r (λ v. Tokens text (items v)) → IfErr r (Refuses text) → (fault : TokenError) → IsFault text fault → IsErrOf r fault ⊎ IsErrOf r error.NoMemory
only_fault items text (Ok v) ok refusal fault is = absurd (list_or_fault text (items v) fault ok is)
only_fault items text (Err error.NoMemory) ok refusal fault is = inr refl
only_fault items text (Err (error.BadByte place)) ok refusal fault is = inl (ap Err (one_fault text (error.BadByte place) fault refusal is))
only_fault items text (Err (error.BadLiteral place)) ok refusal fault is = inl (ap Err (one_fault text (error.BadLiteral place) fault refusal is))

-- one more turn, in the words of the code
pub turns : (text : List ℕ) (tokens after_tokens : List Token) (place line lines : ℕ) (after next : Bool) (rest behind front : List ℕ) (f : Found) → SoFar text tokens place line after rest × (line ≤ 1 + place) → Some f ≡ piece_at after rest → after_tokens ≡ tokens ++ token_of f.kind place (place + f.len) line → lines ≡ count_by (λ b. eqb b 10) front → lines ≤ length front → front ≡ take f.len rest → length front ≡ f.len → behind ≡ drop f.len rest → next ≡ name_behind f.kind after → SoFar text after_tokens (place + f.len) (line + lines) next behind × (line + lines ≤ 1 + (place + f.len))
turns text tokens after_tokens place line lines after next rest behind front f so is tokens_are count few cut size back name =
    let step = goes_on text tokens place line after rest f so.0 (sym is) in
    let lines_are : lines ≡ count_by (λ b. eqb b 10) (take f.len rest) = count ∙ ap (count_by (λ b. eqb b 10)) cut in (
      subst (λ ts. SoFar text ts (place + f.len) (line + lines) next behind) (sym tokens_are)
          (subst (λ n. SoFar text (tokens ++ token_of f.kind place (place + f.len) line) (place + f.len) (line + n) next behind) (sym lines_are)
          (subst (λ x. SoFar text (tokens ++ token_of f.kind place (place + f.len) line) (place + f.len) (line + count_by (λ b. eqb b 10) (take f.len rest)) x behind) (sym name)
          (subst (λ x. SoFar text (tokens ++ token_of f.kind place (place + f.len) line) (place + f.len) (line + count_by (λ b. eqb b 10) (take f.len rest)) (name_behind f.kind after) x) (sym back) step))),
      let bound : line ≤ 1 + place = so.1 in omega arith,
    )
