-- Readers that take a token first: what is behind it has one less.
use Rattle.std.proofs.Common.{◌≡◌, ℕ, suc, ◌<◌, ◌≤◌, Option, List, length, refl, arith}
use Rattle.vhdl_tokens.specs.declared.token.Kind.{Kind}
use Rattle.vhdl_tokens.specs.declared.token.Token.{Token}
use Rattle.vhdl_reader_expressions.specs.Steps.{Answer, Found, Stopped, Spent, Parser, and_then, ◌>>=◌, stop, look, on_line, word, token}
use Rattle.vhdl_reader_expressions.proofs.Local.{Law, bind_law, shrinks, stop_law, look_law, on_line_law}
use Rattle.vhdl_reader_expressions.proofs.Loops.{Moves, always, bind_moves, behind_moves, stop_moves, look_moves, on_line_moves, word_moves, token_moves, word_enter, token_enter}

-- The bounds of the reader suffice for n tokens and one more, and it takes one.
pub record Enters {A : Type 0} (n : ℕ) (p : Parser A) : Type 0 where
  pub law : Law (suc n) p
  pub moves : Moves (suc n) always p

-- a reader that takes a token, and one of fewer tokens
first_moves : {A B : Type 0} {n : ℕ} {p : Parser A} {f : A → Parser B} → Moves (suc n) always p → ((a : A) → Law n (f a)) → Moves (suc n) always (p >>= f)
first_moves {A = A} {B = B} {n = n} {p = p} {f = f} moves law = record { takes = λ ts b us less start e. takes ts b us less (p ts) refl e }
  where
    takes : (ts : List Token) (b : B) (us : List Token) → length ts < suc n → (r : Answer A) → p ts ≡ r → and_then r f ≡ Found b us → length us < length ts
    takes ts b us less (Found a vs) is e =
        let h = moves.takes ts a vs less refl is in let g : length us ≤ length vs = shrinks (law a) vs b us e (omega arith) in omega arith
    takes ts b us less (Stopped vs) is e = absurd cc
    takes ts b us less Spent is e = absurd cc

-- a word, and what is behind it
pub word_enters : {A : Type 0} {n : ℕ} (k : Kind) {f : Unit {0} → Parser A} → ((a : Unit {0}) → Law n (f a)) → Enters n (word k >>= f)
word_enters k each = record { law = word_enter k each; moves = first_moves (word_moves k) each }

-- a token of a kind, and what is behind it
pub token_enters : {A : Type 0} {n : ℕ} (k : Kind) {f : Token → Parser A} → ((t : Token) → Law n (f t)) → Enters n (token k >>= f)
token_enters k each = record { law = token_enter k each; moves = first_moves (token_moves k) each }

-- the first of two takes a token
pub bind_enters : {A B : Type 0} {n : ℕ} {p : Parser A} {f : A → Parser B} → Enters n p → ((a : A) → Law (suc n) (f a)) → Enters n (p >>= f)
bind_enters enters each = record { law = bind_law enters.law each; moves = bind_moves enters.moves each }

-- the second does
pub behind_enters : {A B : Type 0} {n : ℕ} {p : Parser A} {f : A → Parser B} → Law (suc n) p → ((a : A) → Enters n (f a)) → Enters n (p >>= f)
behind_enters law each = record { law = bind_law law (λ a. (each a).law); moves = behind_moves law (λ a. (each a).moves) }

-- one that stops finds nothing
pub stop_enters : {A : Type 0} {n : ℕ} → Enters n (stop {A = A})
stop_enters = record { law = stop_law; moves = stop_moves }

-- by what hangs on the next token
pub look_enters : {O A : Type 0} {n : ℕ} (test : Option Kind → O) (f : O → Parser A) → ((o : O) → Enters n (f o)) → Enters n (look test f)
look_enters test f each = record { law = look_law test f (λ o. (each o).law); moves = look_moves test f (λ o. (each o).moves) }

-- and on its line
pub on_line_enters : {A : Type 0} {n : ℕ} (f : ℕ → Parser A) → ((line : ℕ) → Enters n (f line)) → Enters n (on_line f)
on_line_enters f each = record { law = on_line_law f (λ line. (each line).law); moves = on_line_moves f (λ line. (each line).moves) }
