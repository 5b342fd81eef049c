use Rattle.std.proofs.Common.{◌≡◌, ◌+◌, ◌≤◌, drop}
use Rattle.std.specs.Option.{option_map}
use Rattle.vhdl_reader.specs.Depth as spec
use Rattle.vhdl_reader.proofs.depth.first_deep.Given as goal

abbrev pub invariant-loop-token : goal.invariant-loop-token
invariant-loop-token l = (l.place ≡ l.token-index) × (l.opened ≤ l.token-index) × (l.closed ≤ l.token-index)
    × (spec.first_deep l.fn.tokens ≡ option_map (λ k. l.token-index + k) (spec.deep_behind l.opened l.closed l.after_end (drop l.token-index l.fn.tokens)))
