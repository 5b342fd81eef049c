-- What is found so far, with what the rest gives, is what all give.
use Rattle.std.proofs.Common.{◌≡◌, ◌++◌, drop}
use Rattle.vhdl_names_resolving.specs.Instances.{associations_from}
use Rattle.vhdl_names_resolving.proofs.instances.associations_resolved.Given as goal

abbrev pub invariant-loop-position : goal.invariant-loop-position
invariant-loop-position l =
    l.resolved ++ associations_from l.text l.around l.of_generics l.formals l.objects l.position (drop l.position l.associations) ≡
    associations_from l.text l.around l.of_generics l.formals l.objects 0 l.associations
