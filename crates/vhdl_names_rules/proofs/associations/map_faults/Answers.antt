use Rattle.std.proofs.Common.{◌++◌, ap, ◌∙◌}
use Rattle.vhdl_names_rules.proofs.Taking.{begins, goes_on, ends}
use Rattle.vhdl_names_rules.proofs.associations.map_faults.Goals as goal

pub loop-association-init : goal.loop-association-init
loop-association-init c =
    begins c.args.formals.now c.none_taken-taken.result c.new-faults.result c.args.associations c.in_ok-rest.rest
    c.none_taken-taken.ensures c.new-faults.ensures c.in_ok-rest.ensures

pub loop-association-preserved : goal.loop-association-preserved
loop-association-preserved c =
    goes_on c.args.formals.now c.loop-association.taken c.in_ok-taken.taken c.loop-association.faults c.append.new.self _
    c.loop-association.rest c.pop.new.self c.in-Some.association c.formal_for-formal.result
    c.in-Some.ensures c.formal_for-formal.ensures
    (c.in_ok-append.ensures ∙ ap (λ fs. c.loop-association.faults ++ fs) c.in_ok-association_for.ensures)
    c.in_ok-taken.ensures c.loop-association.invariant

pub returns : goal.returns
returns c = ends c.args.formals.now c.loop-association.taken c.loop-association.faults _ c.loop-association.rest c.in_default.ensures.0 c.loop-association.invariant
