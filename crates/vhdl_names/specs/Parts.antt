-- A part of a design file: its events, in the order of its text, and what it means by what stands before it.
use Rattle.std.specs.Prelude.{Bool, List, [], false, true, ◌++◌, ◌∷◌}
use Rattle.vhdl_names_checker.specs.Events.{Event}
use Rattle.vhdl_names_checker.specs.Progress.{Progress, walk}

pub record Part (X : Type 0) : Type 0 where
  pub events : List Event
  pub at : Progress → X

-- ---- parts one after the other

unfoldable pub events_of : {X : Type 0} → List (Part X) → List Event
events_of [] = []
events_of (x ∷ xs) = x.events ++ events_of xs

unfoldable pub all_at : {X : Type 0} → List (Part X) → Progress → List X
all_at [] p = []
all_at (x ∷ xs) p = x.at p ∷ all_at xs (walk x.events p)

-- parts of which one is the last
unfoldable pub with_last : {X : Type 0} → List (Bool → Part X) → List (Part X)
with_last [] = []
with_last (x ∷ []) = x true ∷ []
with_last (x ∷ next ∷ xs) = x false ∷ with_last (next ∷ xs)
