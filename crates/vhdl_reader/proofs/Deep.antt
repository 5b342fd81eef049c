-- The token that one pass finds is the first that is too deep.
use Rattle.std.proofs.Common.{◌≡◌, ℕ, zero, suc, ◌+◌, ◌<◌, Bool, true, false, List, [], ◌∷◌, length, take, Option, Some, None, nat_lt, if◌then◌else◌, refl, subst, arith}
use Rattle.std.specs.Option.{option_map}
use Rattle.std.proofs.lemmas.Bool.{ltb-true, lt-ltb}
use Rattle.vhdl_tokens.specs.declared.token.Token.{Token}
use Rattle.vhdl_tree.specs.Faults.{is_end, opens, closes, one_if, opened, closed, IsTooDeep, NestsWell, IsNestingFault}
use Rattle.vhdl_reader.specs.Depth.{deep_behind, first_deep}

-- too deep, behind tokens that opened and closed so many
abbrev DeepAt : ℕ → ℕ → Bool → List Token → ℕ → Type 0
DeepAt o c after_end ts k = c + closed after_end (take (suc k) ts) + 64 < o + opened after_end (take (suc k) ts)

record FirstAt (o c : ℕ) (after_end : Bool) (ts : List Token) (k : ℕ) : Type 0 where
  within : k < length ts
  deep : DeepAt o c after_end ts k
  first : (s : ℕ) → s < k → DeepAt o c after_end ts s → ⊥

abbrev FoundAt : ℕ → ℕ → Bool → List Token → Option ℕ → Type 0
FoundAt o c after_end ts None = (k : ℕ) → k < length ts → DeepAt o c after_end ts k → ⊥
FoundAt o c after_end ts (Some k) = FirstAt o c after_end ts k

not_less : (a b : ℕ) → nat_lt a b ≡ false → a < b → ⊥
not_less a b is less = let e = lt-ltb a b less in absurd cc

module _ (o c : ℕ) (after_end : Bool) (t : Token) (ts : List Token) where
  abbrev o1 : ℕ
  o1 = o + one_if (opens after_end t.kind)

  abbrev c1 : ℕ
  c1 = c + one_if (closes after_end t.kind)

  -- at a later token
  later : (k : ℕ) → DeepAt o1 c1 (is_end t.kind) ts k → DeepAt o c after_end (t ∷ ts) (suc k)
  later k h = omega (arith, h)

  sooner : (k : ℕ) → DeepAt o c after_end (t ∷ ts) (suc k) → DeepAt o1 c1 (is_end t.kind) ts k
  sooner k h = omega (arith, h)

  step : (r : Option ℕ) → nat_lt (c1 + 64) o1 ≡ false → FoundAt o1 c1 (is_end t.kind) ts r → FoundAt o c after_end (t ∷ ts) (option_map suc r)
  step None is h = at
    where
      at : (k : ℕ) → k < length (t ∷ ts) → DeepAt o c after_end (t ∷ ts) k → ⊥
      at zero less deep = not_less _ _ is (omega (arith, deep))
      at (suc k) less deep = h k (omega arith) (sooner k deep)
  step (Some k) is h = record { within = let w = h.within in omega arith; deep = later k h.deep; first = at }
    where
      at : (s : ℕ) → s < suc k → DeepAt o c after_end (t ∷ ts) s → ⊥
      at zero less deep = not_less _ _ is (omega (arith, deep))
      at (suc s) less deep = h.first s (omega arith) (sooner s deep)

  here : nat_lt (c1 + 64) o1 ≡ true → FoundAt o c after_end (t ∷ ts) (Some 0)
  here is = let less = ltb-true _ _ is in record { within = omega arith; deep = omega (arith, less); first = λ s none. absurd (omega arith) }

found_or : (o c : ℕ) (after_end : Bool) (t : Token) (ts : List Token) (r : Option ℕ) → FoundAt (o1 o c after_end t ts) (c1 o c after_end t ts) (is_end t.kind) ts r
    → (b : Bool) → nat_lt (c1 o c after_end t ts + 64) (o1 o c after_end t ts) ≡ b → FoundAt o c after_end (t ∷ ts) (if b then Some 0 else option_map suc r)
found_or o c after_end t ts r h true is = here o c after_end t ts is
found_or o c after_end t ts r h false is = step o c after_end t ts r is h

found_behind : (o c : ℕ) (after_end : Bool) (ts : List Token) → FoundAt o c after_end ts (deep_behind o c after_end ts)
found_behind o c after_end [] = λ k less. absurd (omega arith)
found_behind o c after_end (t ∷ ts) = found_or o c after_end t ts (deep_behind (o1 o c after_end t ts) (c1 o c after_end t ts) (is_end t.kind) ts)
    (found_behind (o1 o c after_end t ts) (c1 o c after_end t ts) (is_end t.kind) ts) (nat_lt (c1 o c after_end t ts + 64) (o1 o c after_end t ts)) refl

-- by the words of the definition
deep_is : (ts : List Token) (k : ℕ) → IsTooDeep ts k → DeepAt 0 0 false ts k
deep_is ts k h = let e : k + 1 ≡ suc k = omega arith in subst (λ n. 0 + closed false (take n ts) + 64 < 0 + opened false (take n ts)) e (omega (arith, h))

is_deep : (ts : List Token) (k : ℕ) → DeepAt 0 0 false ts k → IsTooDeep ts k
is_deep ts k h = let e : suc k ≡ k + 1 = omega arith in subst (λ n. closed false (take n ts) + 64 < opened false (take n ts)) e (omega (arith, h))

pub none_deep : (ts : List Token) → first_deep ts ≡ None → NestsWell ts
none_deep ts is = let h : FoundAt 0 0 false ts None = subst (FoundAt 0 0 false ts) is (found_behind 0 0 false ts) in λ k less deep. h k less (deep_is ts k deep)

pub some_deep : (ts : List Token) (k : ℕ) → first_deep ts ≡ Some k → IsNestingFault ts k
some_deep ts k is = let h : FoundAt 0 0 false ts (Some k) = subst (FoundAt 0 0 false ts) is (found_behind 0 0 false ts) in
    record { within = h.within; deep = is_deep ts k h.deep; first = λ s less deep. h.first s less (deep_is ts s deep) }
