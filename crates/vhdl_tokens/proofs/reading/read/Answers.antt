use Rattle.std.proofs.Common.{◌<◌, length, sym, subst, arith, rules}
use Rattle.vhdl_tokens.specs.Text.{Refuses}
use Rattle.vhdl_tokens.proofs.Pieces.{found_within, faults, refuses, turns}
use Rattle.vhdl_tokens.proofs.reading.read.Goals as goal

pub split_at-requires : goal.split_at-requires
split_at-requires c =
    (found_within c.pieces.after_name c.pieces.rest.now c.in-Some.found (sym c.in-Some.ensures)).all

pub returns-in-None-clause-refusal : goal.returns-in-None-clause-refusal
returns-in-None-clause-refusal c =
    let some : 0 < length c.pieces.rest.now = search rules in
    subst (Refuses c.args.text.now) (sym c.fault_at.ensures)
    (refuses _ _ (faults c.args.text.now _ _ _ c.pieces.after_name c.pieces.rest.now c.pieces.invariant.0 some (sym c.in-None.ensures)))

pub pieces-preserved : goal.pieces-preserved
pieces-preserved c =
    turns c.args.text.now c.pieces.tokens.items c.add.new.tokens.items c.pieces.place c.pieces.line c.feeds-line.result
    c.pieces.after_name c.name_behind-after_name.result c.pieces.rest.now c.split_at.result.1.now c.split_at.result.0.now c.in-Some.found
    c.pieces.invariant c.in-Some.ensures c.in_ok-add.ensures.ok c.feeds-line.ensures.count c.feeds-line.ensures.within
    c.split_at.ensures.front c.split_at.ensures.front_len c.split_at.ensures.back c.name_behind-after_name.ensures

pub pieces-smaller : goal.pieces-smaller
pieces-smaller c =
    let found = found_within c.pieces.after_name c.pieces.rest.now c.in-Some.found (sym c.in-Some.ensures) in
    omega (arith, found.some, c.split_at.ensures.back_len)
