-- What a function answers that may run out of memory.
use Rattle.std.specs.Prelude.{◌≡◌, Option, Some, None, Result, Ok, Err}
use Rattle.first_form.specs.declared.fault.FormError.{FormError}
use Rattle.first_form.specs.declared.fault.FormError.TheVariants.{NotBuilt, NoMemory}

-- there is nothing, unless it was memory that ran out
abbrev pub Fails : {Y : Type 0} → FormError → Option Y → Type 0
Fails NoMemory found = Unit {0}
Fails NotBuilt found = found ≡ None

-- what a function returned, seen by `view`, is what there is, unless memory ran out
abbrev pub Gives : {X Y : Type 0} → (X → Y) → Result X FormError → Option Y → Type 0
Gives view (Ok x) found = found ≡ Some (view x)
Gives view (Err e) found = Fails e found
