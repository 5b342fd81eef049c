-- One index more of an aggregate.
use Rattle.std.proofs.Common.{◌≡◌, ℕ, ◌+◌, List, [], ◌∷◌, ◌++◌, ap, add-one}
use Rattle.sim_eval.specs.declared.aggregates.Element.{Element}
use Rattle.sim_eval.specs.declared.aggregates.Run.{Run}
use Rattle.sim_eval.specs.Aggregates.{numbers_over, number_at, index_at}

pub one_more : (n : ℕ) (run : Run) (elements : List Element) → numbers_over (n + 1) run elements ≡ numbers_over n run elements ++ number_at elements (index_at run n) ∷ []
one_more n run elements = ap (λ m. numbers_over m run elements) (add-one n)
