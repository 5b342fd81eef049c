use Rattle.std.proofs.Common.{◌∙◌, sym, arith}
use Rattle.vhdl_tokens.proofs.Values.{advanced, taken, broken, whole_value, no_value}
use Rattle.vhdl_tokens.proofs.meaning.value_of.Goals as goal

pub bytes-preserved : goal.bytes-preserved
bytes-preserved c =
    advanced c.bytes.value.items c.push.new.self.items c.bytes.rest.now c.split_at.result.1.now c.args.behind.now c.in-Takes.n
    c.in-Takes.ensures c.bytes.invariant c.in_ok-push-in-Takes.ensures.items c.split_at.ensures.back

pub bytes-smaller : goal.bytes-smaller
bytes-smaller c =
    let step = taken c.bytes.value.items c.bytes.rest.now c.in-Takes.n c.in-Takes.ensures in
    omega (arith, step.2, c.split_at.ensures.back_len)

pub returns-then-rest-eq1 : goal.returns-then-rest-eq1
returns-then-rest-eq1 c = whole_value c.bytes.value.items c.bytes.rest.now c.args.behind.now c.in-Ends.ensures c.bytes.invariant (omega arith)

pub returns-in-Ends : goal.returns-in-Ends
returns-in-Ends c = no_value c.bytes.value.items c.bytes.rest.now c.args.behind.now c.in-Ends.ensures c.bytes.invariant (λ e. absurd (omega arith))

pub returns-in-Breaks : goal.returns-in-Breaks
returns-in-Breaks c = sym (broken c.bytes.value.items c.bytes.rest.now c.in-Breaks.ensures) ∙ c.bytes.invariant
