-- The values that literals spell.
use Rattle.std.proofs.Common.{◌≡◌, ℕ, ◌<◌, ◌≤◌, Bool, true, false, ◌&&◌, cond, eqb, Option, Some, None, Result, Ok, Err, List, [], ◌∷◌, ◌++◌, length, take, drop, get_or, refl, sym, ap, ◌∙◌, subst, arith, append_assoc, length-append}
use Rattle.std.proofs.Math.Seq.{take-append_seam}
use Rattle.std.proofs.lemmas.List.{drop_at, take-append-drop}
use Rattle.std.specs.List.{list_all, flat_map, prefix_len}
use Rattle.std.proofs.lemmas.Bool.{cond-true, cond-false, and_parts, and_from, eqb-true, eq-eqb, ne_eqb}
use Rattle.std.specs.Option.{option_map}
use Rattle.std.specs.Result.{IfOk}
use Rattle.std.proofs.lemmas.Option.{same_Some, none-some}
use Rattle.vhdl_tokens.specs.declared.bytes.Class.{Class}
use Rattle.vhdl_tokens.specs.declared.scan.TextStep.{TextStep}
use Rattle.vhdl_tokens.specs.declared.scan.TextStep.TheVariants.{Takes, Ends, Breaks}
use Rattle.vhdl_tokens.specs.Bytes.{is_word_byte, is_graphic, base_of}
use Rattle.vhdl_tokens.specs.Spelling.{IsText, IsBits, doubled, are_digits, bits_at}
use Rattle.vhdl_tokens.specs.Text.{bits_base}
use Rattle.vhdl_tokens.specs.Scan.{text_step}
use Rattle.vhdl_tokens.specs.Meaning.{Means}
use Rattle.vhdl_tokens.specs.Values.{value_from, text_value, is_quote, bits_in, bits_quoted, bits_by, bits_value}
use Rattle.vhdl_tokens.proofs.Classes.{spaced_word, prefix_whole}

-- what a step says of the value
abbrev pub Steps : TextStep → List ℕ → List ℕ → Type 0
Steps (Takes k) front rest = (0 < length rest) × (k ≤ length rest) × (0 < k) × (value_from front rest ≡ value_from (front ++ get_or rest 0 0 ∷ []) (drop k rest))
Steps Ends front rest = value_from front rest ≡ cond (eqb (length rest) 1) (Some front) None
Steps Breaks front rest = value_from front rest ≡ None

steps_none : (front : List ℕ) → value_from front [] ≡ None
unfolding value_from
steps_none front = refl

steps_one : (front : List ℕ) (a : ℕ) (q g : Bool) → eqb a 34 ≡ q → is_graphic a ≡ g → Steps (cond q Ends (cond g (Takes 1) Breaks)) front (a ∷ [])
unfolding value_from
steps_one front a true g is isg = rw is refl
steps_one front a false true is isg = (omega arith, omega arith, omega arith, rw is refl)
steps_one front a false false is isg = rw is refl

longer : (a b : ℕ) (more : List ℕ) → eqb (length (a ∷ b ∷ more)) 1 ≡ false
longer a b more = ne_eqb (length (a ∷ b ∷ more)) 1 (λ e. absurd (omega arith))

steps_two : (front : List ℕ) (a b : ℕ) (more : List ℕ) (q r g : Bool) → eqb a 34 ≡ q → eqb b 34 ≡ r → is_graphic a ≡ g → Steps (cond q (cond r (Takes 2) Ends) (cond g (Takes 1) Breaks)) front (a ∷ b ∷ more)
unfolding value_from
steps_two front a b more true true g is isr isg =
    let here : a ≡ 34 = eqb-true a 34 is in
    (omega arith, omega arith, omega arith, rw (is, isr) (ap (λ k. value_from (front ++ k ∷ []) more) (sym here)))
steps_two front a b more true false g is isr isg = rw (is, isr, longer a b more) refl
steps_two front a b more false r true is isr isg = (omega arith, omega arith, omega arith, rw (is, isg) refl)
steps_two front a b more false r false is isr isg = rw (is, isg) refl

steps : (front rest : List ℕ) → Steps (text_step rest) front rest
steps front [] = steps_none front
steps front (a ∷ []) = steps_one front a (eqb a 34) (is_graphic a) refl refl
steps front (a ∷ b ∷ more) = steps_two front a b more (eqb a 34) (eqb b 34) (is_graphic a) refl refl refl

pub taken : (front rest : List ℕ) (k : ℕ) → Takes k ≡ text_step rest → Steps (Takes k) front rest
taken front rest k is = subst (λ step. Steps step front rest) (sym is) (steps front rest)

pub ended : (front rest : List ℕ) → Ends ≡ text_step rest → Steps Ends front rest
ended front rest is = subst (λ step. Steps step front rest) (sym is) (steps front rest)

pub broken : (front rest : List ℕ) → Breaks ≡ text_step rest → Steps Breaks front rest
broken front rest is = subst (λ step. Steps step front rest) (sym is) (steps front rest)

pub advanced : (front now rest behind whole : List ℕ) (k : ℕ) → Takes k ≡ text_step rest → value_from front rest ≡ value_from [] whole → now ≡ front ++ get_or rest 0 0 ∷ [] → behind ≡ drop k rest → value_from now behind ≡ value_from [] whole
advanced front now rest behind whole k is so pushed cut =
    ap (λ xs. value_from xs behind) pushed ∙ ap (value_from (front ++ get_or rest 0 0 ∷ [])) cut ∙ sym ((taken front rest k is).3) ∙ so

pub whole_value : (front rest whole : List ℕ) → Ends ≡ text_step rest → value_from front rest ≡ value_from [] whole → length rest ≡ 1 → Some front ≡ value_from [] whole
whole_value front rest whole is so one = sym (ended front rest is ∙ cond-true (eqb (length rest) 1) (Some front) None (eq-eqb (length rest) 1 one)) ∙ so

pub no_value : (front rest whole : List ℕ) → Ends ≡ text_step rest → value_from front rest ≡ value_from [] whole → (length rest ≡ 1 → ⊥) → None ≡ value_from [] whole
no_value front rest whole is so more = sym (ended front rest is ∙ cond-false (eqb (length rest) 1) (Some front) None (ne_eqb (length rest) 1 more)) ∙ so

-- strings
graphic_step : (front : List ℕ) (a b : ℕ) (more : List ℕ) → eqb a 34 ≡ false → is_graphic a ≡ true → value_from front (a ∷ b ∷ more) ≡ value_from (front ++ a ∷ []) (b ∷ more)
unfolding value_from
graphic_step front a b more other graphic = rw (other, graphic) refl

quote_step : (front more : List ℕ) → value_from front (34 ∷ 34 ∷ more) ≡ value_from (front ++ 34 ∷ []) more
unfolding value_from
quote_step front more = refl

last_step : (front : List ℕ) → value_from front (34 ∷ []) ≡ Some front
unfolding value_from
last_step front = refl

-- the spelling of a value with its last quotation mark
abbrev tail_of : List ℕ → List ℕ
tail_of value = flat_map doubled value ++ 34 ∷ []

graphic_front : (front : List ℕ) (v : ℕ) (value : List ℕ) → eqb v 34 ≡ false → is_graphic v ≡ true → value_from front (v ∷ tail_of value) ≡ value_from (front ++ v ∷ []) (tail_of value)
graphic_front front v value other graphic = at (tail_of value) (some value)
  where
    some : (value : List ℕ) → 0 < length (tail_of value)
    some value = omega (arith, length-append (flat_map doubled value) (34 ∷ []))

    at : (rest : List ℕ) → 0 < length rest → value_from front (v ∷ rest) ≡ value_from (front ++ v ∷ []) rest
    at [] h = absurd (omega arith)
    at (b ∷ more) h = graphic_step front v b more other graphic

value_again : (front value : List ℕ) → list_all is_graphic value ≡ true → value_from front (tail_of value) ≡ Some (front ++ value)
value_again front [] all = last_step front ∙ ap Some (nil front)
  where
    nil : (xs : List ℕ) → xs ≡ xs ++ []
    nil [] = refl
    nil (x ∷ xs) = ap (λ ys. x ∷ ys) (nil xs)
value_again front (v ∷ value) all =
    let parts = and_parts (is_graphic v) (list_all is_graphic value) all in
    at (eqb v 34) refl parts.0 (value_again (front ++ v ∷ []) value parts.1)
  where
    at : (q : Bool) → eqb v 34 ≡ q → is_graphic v ≡ true → value_from (front ++ v ∷ []) (tail_of value) ≡ Some ((front ++ v ∷ []) ++ value) → value_from front ((cond q (34 ∷ 34 ∷ []) (v ∷ []) ++ flat_map doubled value) ++ 34 ∷ []) ≡ Some (front ++ v ∷ value)
    at true is graphic again =
        quote_step front (tail_of value) ∙ ap (λ k. value_from (front ++ k ∷ []) (tail_of value)) (sym (eqb-true v 34 is)) ∙ again ∙ ap Some (append_assoc front (v ∷ []) value)
    at false is graphic again = graphic_front front v value is graphic ∙ again ∙ ap Some (append_assoc front (v ∷ []) value)

record Spells (front rest v : List ℕ) : Type 0 where
  value : List ℕ
  joined : v ≡ front ++ value
  spelled : rest ≡ tail_of value
  graphic : list_all is_graphic value ≡ true

abbrev Gives : List ℕ → List ℕ → Option (List ℕ) → Type 0
Gives front rest None = Unit {0}
Gives front rest (Some v) = Spells front rest v

gives_end : (front : List ℕ) → Spells front (34 ∷ []) front
gives_end front = record { value = []; joined = nil front; spelled = refl; graphic = refl }
  where
    nil : (xs : List ℕ) → xs ≡ xs ++ []
    nil [] = refl
    nil (x ∷ xs) = ap (λ ys. x ∷ ys) (nil xs)

gives_byte : (front : List ℕ) (a : ℕ) (rest : List ℕ) (o : Option (List ℕ)) → eqb a 34 ≡ false → is_graphic a ≡ true → Gives (front ++ a ∷ []) rest o → Gives front (a ∷ rest) o
gives_byte front a rest None other graphic so = tt
gives_byte front a rest (Some v) other graphic so = record {
  value = a ∷ so.value;
  joined = so.joined ∙ append_assoc front (a ∷ []) so.value;
  spelled = ap (λ ys. a ∷ ys) so.spelled ∙ ap (λ ys. (ys ++ flat_map doubled so.value) ++ 34 ∷ []) (sym (cond-false (eqb a 34) (34 ∷ 34 ∷ []) (a ∷ []) other));
  graphic = and_from (is_graphic a) (list_all is_graphic so.value) graphic so.graphic;
}

gives_quote : (front rest : List ℕ) (o : Option (List ℕ)) → Gives (front ++ 34 ∷ []) rest o → Gives front (34 ∷ 34 ∷ rest) o
gives_quote front rest None so = tt
gives_quote front rest (Some v) so = record {
  value = 34 ∷ so.value;
  joined = so.joined ∙ append_assoc front (34 ∷ []) so.value;
  spelled = ap (λ ys. 34 ∷ 34 ∷ ys) so.spelled;
  graphic = so.graphic;
}

choose : (P : Option (List ℕ) → Type 0) (t : Bool) (x y : Option (List ℕ)) → (t ≡ true → P x) → (t ≡ false → P y) → P (cond t x y)
choose P true x y hit miss = hit refl
choose P false x y hit miss = miss refl

gives : (front rest : List ℕ) → Gives front rest (value_from front rest)
unfolding value_from
gives front [] = tt
gives front (a ∷ []) = choose (Gives front (a ∷ [])) (eqb a 34) (Some front) None
    (λ is. subst (λ k. Spells front (k ∷ []) front) (sym (eqb-true a 34 is)) (gives_end front)) (λ other. tt)
gives front (a ∷ b ∷ more) =
    let later = gives (front ++ 34 ∷ []) more in
    let next = gives (front ++ a ∷ []) (b ∷ more) in
    choose (Gives front (a ∷ b ∷ more)) (eqb a 34) (cond (eqb b 34) (value_from (front ++ 34 ∷ []) more) None) (cond (is_graphic a) (value_from (front ++ a ∷ []) (b ∷ more)) None)
    (λ is. choose (Gives front (a ∷ b ∷ more)) (eqb b 34) (value_from (front ++ 34 ∷ []) more) None
    (λ too. subst (λ k. Gives front (k ∷ b ∷ more) (value_from (front ++ 34 ∷ []) more)) (sym (eqb-true a 34 is))
    (subst (λ k. Gives front (34 ∷ k ∷ more) (value_from (front ++ 34 ∷ []) more)) (sym (eqb-true b 34 too)) (gives_quote front more (value_from (front ++ 34 ∷ []) more) later)))
    (λ other. tt))
    (λ other. choose (Gives front (a ∷ b ∷ more)) (is_graphic a) (value_from (front ++ a ∷ []) (b ∷ more)) None
    (λ graphic. gives_byte front a (b ∷ more) (value_from (front ++ a ∷ []) (b ∷ more)) other graphic next)
    (λ bad. tt))

text_again : (bytes value : List ℕ) → IsText bytes value → text_value bytes ≡ Some value
text_again bytes value is = ap text_value is.spelled ∙ value_again [] value is.graphic

-- what is found is what the bytes mean, if all that they mean is found
means : {V : Type 0} (P : V → Type 0) (o : Option V) → ((v : V) → o ≡ Some v → P v) → ((v : V) → P v → o ≡ Some v) → Means P o
means P None found again = λ v is. none-some v (again v is)
means P (Some v) found again = found v refl

text_found : (bytes value : List ℕ) → text_value bytes ≡ Some value → IsText bytes value
text_found [] value is = absurd cc
text_found (a ∷ more) value is = at (eqb a 34) refl is
  where
    spells : (o : Option (List ℕ)) → Gives [] more o → o ≡ Some value → IsText (34 ∷ more) value
    spells None so e = absurd cc
    spells (Some v) so e = record {
      spelled = ap (λ ys. 34 ∷ ys) so.spelled ∙ ap (λ ys. 34 ∷ tail_of ys) (sym so.joined ∙ same_Some v value e);
      graphic = ap (list_all is_graphic) (sym (same_Some v value e) ∙ so.joined) ∙ so.graphic;
    }

    at : (q : Bool) → eqb a 34 ≡ q → cond q (value_from [] more) None ≡ Some value → IsText (a ∷ more) value
    at true is e = subst (λ k. IsText (k ∷ more) value) (sym (eqb-true a 34 is)) (spells (value_from [] more) (gives [] more) e)
    at false is e = absurd cc

pub text_means : (bytes : List ℕ) → Means (IsText bytes) (text_value bytes)
text_means bytes = means (IsText bytes) (text_value bytes) (text_found bytes) (text_again bytes)

pub one_text : (bytes value other : List ℕ) → IsText bytes value → IsText bytes other → value ≡ other
one_text bytes value other is too = same_Some value other (sym (text_again bytes value is) ∙ text_again bytes other too)

-- bit strings
digits_spaced : (base : Class) (digits : List ℕ) → are_digits base digits ≡ true → list_all is_word_byte digits ≡ true
digits_spaced base [] are = refl
digits_spaced base (d ∷ digits) are = spaced_word base (d ∷ digits) are

bits_again : (bytes : List ℕ) (bits : List Bool) → IsBits bytes bits → bits_value bytes ≡ Some bits
bits_again bytes bits is =
    let digits = is.digits in
    let more : List ℕ = digits ++ 34 ∷ [] in
    let len : prefix_len is_word_byte more ≡ length digits = prefix_whole is_word_byte digits (34 ∷ []) (digits_spaced is.base digits is.digits_are) refl in
    let front : take (length digits) more ≡ digits = take-append_seam digits (34 ∷ []) in
    let back : drop (length digits) more ≡ 34 ∷ [] = drop_at digits (34 ∷ []) (length digits) refl in
    ap bits_value is.spelled
    ∙ ap (λ o. bits_by o (is.letter ∷ 34 ∷ more)) is.base_is
    ∙ ap (λ n. bits_in is.base (take n more) (drop n more)) len
    ∙ ap (λ w. bits_in is.base w (drop (length digits) more)) front
    ∙ ap (bits_in is.base digits) back
    ∙ cond-true (are_digits is.base digits && true) (Some (flat_map (bits_at is.base) digits)) None (and_from (are_digits is.base digits) true is.digits_are refl)
    ∙ ap Some (sym is.bits_are)

bits_found : (bytes : List ℕ) (bits : List Bool) → bits_value bytes ≡ Some bits → IsBits bytes bits
bits_found bytes bits is = by_base bytes (bits_base bytes) refl is
  where
    quote_is : (behind : List ℕ) → is_quote behind ≡ true → behind ≡ 34 ∷ []
    quote_is [] e = absurd cc
    quote_is (a ∷ []) e = ap (λ k. k ∷ []) (eqb-true a 34 e)
    quote_is (a ∷ b ∷ more) e = absurd cc

    here : (base : Class) (letter : ℕ) (more digits behind : List ℕ) (t : Bool) → base_of letter ≡ Some base → digits ++ behind ≡ more → (are_digits base digits && is_quote behind) ≡ t → cond t (Some (flat_map (bits_at base) digits)) None ≡ Some bits → IsBits (letter ∷ 34 ∷ more) bits
    here base letter more digits behind true base_is cut good e =
        let parts = and_parts (are_digits base digits) (is_quote behind) good in
        record {
          letter = letter;
          base = base;
          digits = digits;
          spelled = ap (λ ys. letter ∷ 34 ∷ ys) (sym cut ∙ ap (λ ys. digits ++ ys) (quote_is behind parts.1));
          base_is = base_is;
          digits_are = parts.0;
          bits_are = sym (same_Some (flat_map (bits_at base) digits) bits e);
        }
    here base letter more digits behind false base_is cut good e = absurd cc

    quoted : (letter q : ℕ) (more : List ℕ) (base : Class) (t : Bool) → eqb q 34 ≡ t → cond t (base_of letter) None ≡ Some base → bits_quoted base (letter ∷ q ∷ more) ≡ Some bits → IsBits (letter ∷ q ∷ more) bits
    quoted letter q more base true is base_is e =
        subst (λ k. IsBits (letter ∷ k ∷ more) bits) (sym (eqb-true q 34 is))
        (here base letter more (take (prefix_len is_word_byte more) more) (drop (prefix_len is_word_byte more) more) _ base_is (take-append-drop (prefix_len is_word_byte more) more) refl e)
    quoted letter q more base false is base_is e = absurd cc

    by_base : (bytes : List ℕ) (o : Option Class) → bits_base bytes ≡ o → bits_by o bytes ≡ Some bits → IsBits bytes bits
    by_base bytes None base_is e = absurd cc
    by_base [] (Some base) base_is e = absurd cc
    by_base (letter ∷ []) (Some base) base_is e = absurd cc
    by_base (letter ∷ q ∷ more) (Some base) base_is e = quoted letter q more base (eqb q 34) refl base_is e

pub bits_means : (bytes : List ℕ) → Means (IsBits bytes) (bits_value bytes)
bits_means bytes = means (IsBits bytes) (bits_value bytes) (bits_found bytes) (bits_again bytes)

-- the same of what a function answers, which allocates
pub text_read : {V E : Type 0} (items : V → List ℕ) (bytes span : List ℕ) (r : Result (Option V) E) → bytes ≡ span → IfOk r (λ value. option_map items value ≡ text_value bytes) → IfOk r (λ value. Means (IsText span) (option_map items value))
text_read items bytes span (Ok value) same is = subst (Means (IsText span)) (sym (is ∙ ap text_value same)) (text_means span)
text_read items bytes span (Err e) same is = is

pub bits_read : {V E : Type 0} (items : V → List Bool) (bytes span : List ℕ) (r : Result (Option V) E) → bytes ≡ span → IfOk r (λ value. option_map items value ≡ bits_value bytes) → IfOk r (λ value. Means (IsBits span) (option_map items value))
bits_read items bytes span (Ok value) same is = subst (Means (IsBits span)) (sym (is ∙ ap bits_value same)) (bits_means span)
bits_read items bytes span (Err e) same is = is
