-- The first token that is too deep, by one pass over the tokens.
use Rattle.std.specs.Prelude.{ℕ, suc, ◌+◌, Bool, false, List, [], ◌∷◌, Option, Some, None, nat_lt, if◌then◌else◌}
use Rattle.std.specs.Option.{option_map}
use Rattle.vhdl_tokens.specs.declared.token.Token.{Token}
use Rattle.vhdl_tree.specs.Faults.{is_end, opens, closes, one_if, most_depth}

-- the same behind tokens that opened and closed so many, of which the last is `end` where the flag says so
abbrev pub deep_behind : ℕ → ℕ → Bool → List Token → Option ℕ
deep_behind o c after_end [] = None
deep_behind o c after_end (t ∷ ts) =
    if nat_lt (c + one_if (closes after_end t.kind) + most_depth) (o + one_if (opens after_end t.kind)) then Some 0
    else option_map suc (deep_behind (o + one_if (opens after_end t.kind)) (c + one_if (closes after_end t.kind)) (is_end t.kind) ts)

abbrev pub first_deep : List Token → Option ℕ
first_deep tokens = deep_behind 0 0 false tokens
