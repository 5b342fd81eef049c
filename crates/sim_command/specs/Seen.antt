use Rattle.std.specs.Prelude.{◌≡◌, Option, Some, None}
use Rattle.sim_command.specs.declared.words.Command.{Command}
use Rattle.sim_command.specs.declared.words.Command.TheVariants as variant
use Rattle.sim_command.specs.Words as words

-- what was read of the words is the command that they are
abbrev pub IsCommand : Option Command → Option words.Command → Type 0
IsCommand None None = Unit {0}
IsCommand None (Some c) = ⊥
IsCommand (Some c) None = ⊥
IsCommand (Some (variant.Run design limit)) (Some (words.Run name number)) = (name ≡ design.now) × (number ≡ limit)
