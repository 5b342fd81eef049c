-- The delimiters (IEEE Std 1076-2008, 15.3).
use Rattle.std.specs.Prelude.{ℕ, Bool, false, ◌==◌, ◌||◌, ◌&&◌, Option, Some, None, List, [], ◌∷◌, is_some, if◌then◌else◌}
use Rattle.vhdl_tokens.specs.declared.token.Delimiter.{Delimiter}
use Rattle.vhdl_tokens.specs.declared.token.Delimiter.TheVariants as delimiter

-- ( ) , ; : . & ' | + - * / < > =
abbrev pub single : ℕ → Option Delimiter
single b =
    if b == 40 then Some delimiter.LeftParen
    else (if b == 41 then Some delimiter.RightParen
    else (if b == 44 then Some delimiter.Comma
    else (if b == 59 then Some delimiter.Semicolon
    else (if b == 58 then Some delimiter.Colon
    else (if b == 46 then Some delimiter.Dot
    else (if b == 38 then Some delimiter.Ampersand
    else (if b == 39 then Some delimiter.Tick
    else (if b == 124 then Some delimiter.Bar
    else (if b == 43 then Some delimiter.Plus
    else (if b == 45 then Some delimiter.Minus
    else (if b == 42 then Some delimiter.Star
    else (if b == 47 then Some delimiter.Slash
    else (if b == 60 then Some delimiter.Less
    else (if b == 62 then Some delimiter.Greater
    else (if b == 61 then Some delimiter.Equal
    else None)))))))))))))))

-- ** => := <= >= /=
abbrev pub double : ℕ → ℕ → Option Delimiter
double a b =
    if a == 42 && b == 42 then Some delimiter.DoubleStar
    else (if a == 61 && b == 62 then Some delimiter.Arrow
    else (if a == 58 && b == 61 then Some delimiter.Assign
    else (if a == 60 && b == 61 then Some delimiter.LessEqual
    else (if a == 62 && b == 61 then Some delimiter.GreaterEqual
    else (if a == 47 && b == 61 then Some delimiter.NotEqual
    else None)))))

-- `--`, which begins a comment to the end of the line
abbrev pub is_dashes : ℕ → ℕ → Bool
is_dashes a b = a == 45 && b == 45

-- `/*`, which begins a comment to the next `*/`
abbrev pub is_opening : ℕ → ℕ → Bool
is_opening a b = a == 47 && b == 42

-- `*/`
abbrev pub is_closing : ℕ → ℕ → Bool
is_closing a b = a == 42 && b == 47

-- with the byte behind it, the byte is a longer delimiter or begins a comment
abbrev pub goes_on : ℕ → List ℕ → Bool
goes_on a [] = false
goes_on a (b ∷ more) = (is_dashes a b || is_opening a b) || is_some (double a b)
