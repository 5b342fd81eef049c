use Rattle.vhdl_tokens.specs.Meaning.{span}
use Rattle.vhdl_tokens.proofs.Values.{text_read}
use Rattle.vhdl_tokens.proofs.meaning.string.Goals as goal

pub returns-clause-means : goal.returns-clause-means
returns-clause-means c = text_read (λ v. v.items) c.span.result.now (span c.args.text.now c.args.token.now) c.text_value.result c.span.ensures c.text_value.ensures
