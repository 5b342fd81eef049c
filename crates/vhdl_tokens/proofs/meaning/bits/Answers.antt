use Rattle.vhdl_tokens.specs.Meaning.{span}
use Rattle.vhdl_tokens.proofs.Values.{bits_read}
use Rattle.vhdl_tokens.proofs.meaning.bits.Goals as goal

pub returns-clause-means : goal.returns-clause-means
returns-clause-means c = bits_read (λ v. v.items) c.span.result.now (span c.args.text.now c.args.token.now) c.bits_value.result c.span.ensures c.bits_value.ensures
