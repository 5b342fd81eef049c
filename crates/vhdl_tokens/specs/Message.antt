-- What is written of a refusal.
use Rattle.std.specs.Prelude.{ℕ, List, ◌++◌, codes}
use Rattle.std.specs.Fmt.{decimal}
use Rattle.vhdl_tokens.specs.declared.token.TokenError.{TokenError}
use Rattle.vhdl_tokens.specs.declared.token.TokenError.TheVariants.{BadByte, BadLiteral, NoMemory}

abbrev pub message : TokenError → List ℕ
message (BadByte place) = codes "no token begins with the byte at " ++ decimal place
message (BadLiteral place) = codes "the token at " ++ (decimal place ++ codes " is malformed")
message NoMemory = codes "out of memory"
