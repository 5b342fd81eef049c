use Rattle.std.proofs.Common.{◌∙◌, sym, arith}
use Rattle.vhdl_tokens.proofs.Lengths.{advanced, ended, taken, broken}
use Rattle.vhdl_tokens.proofs.scan.text_end.Goals as goal

pub bytes-preserved : goal.bytes-preserved
bytes-preserved c =
    advanced _ _ _ c.bytes.rest.now _ _ c.bytes.invariant c.in-Takes.ensures c.split_at.ensures.back c.split_at.ensures.back_len

pub returns-in-Ends : goal.returns-in-Ends
returns-in-Ends c = sym (ended c.bytes.len c.bytes.rest.now c.in-Ends.ensures) ∙ c.bytes.invariant.same

pub returns-in-Breaks : goal.returns-in-Breaks
returns-in-Breaks c = sym (broken c.bytes.len c.bytes.rest.now c.in-Breaks.ensures) ∙ c.bytes.invariant.same

pub bytes-smaller : goal.bytes-smaller
bytes-smaller c =
    let step = taken c.bytes.len c.in-Takes.n c.bytes.rest.now c.in-Takes.ensures in omega (arith, step.1, c.split_at.ensures.back_len)
