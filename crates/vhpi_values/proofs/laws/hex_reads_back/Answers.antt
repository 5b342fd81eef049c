use Rattle.vhpi_values.proofs.HexAgain.{hex-reads-back, left-true}
use Rattle.vhpi_values.proofs.laws.hex_reads_back.Goals as goal

pub returns : goal.returns
returns c = λ ty v s fits e. hex-reads-back ty v s fits (left-true _ _ e)
