use Rattle.std.specs.Prelude.{ℕ, ◌+◌, ◌-◌, ◌*◌, List, [], ◌∷◌, Bool, ◌&&◌, Option, Some, None, if◌then◌else◌, nat_le, length, bytes_eq, codes}
use Rattle.std.specs.List.{list_all}
use Rattle.std.specs.Option.{option_map}

-- what the words ask for
pub data Command : Type 0 where
  -- to run the design of a file, with this cycle as the last one
  Run : (design : List ℕ) → (limit : ℕ) → Command

-- the number that decimal digits spell, after the number before them
abbrev pub number_after : ℕ → List ℕ → ℕ
number_after n [] = n
number_after n (d ∷ ds) = number_after (n * 10 + (d - 48)) ds

abbrev pub is_digit : ℕ → Bool
is_digit c = nat_le 48 c && nat_le c 57

-- one to ten digits
abbrev pub is_count : List ℕ → Bool
is_count word = nat_le 1 (length word) && nat_le (length word) 10 && list_all is_digit word

-- a number of cycles: one to ten digits whose number is from 1 to 10,000,000
abbrev pub is_cycles : List ℕ → Bool
is_cycles word = is_count word && nat_le 1 (number_after 0 word) && nat_le (number_after 0 word) 10000000

abbrev pub cycles_of : List ℕ → Option ℕ
cycles_of word = if is_cycles word then Some (number_after 0 word) else None

abbrev pub run_command : List ℕ → List ℕ → Option Command
run_command design cycles = option_map (Run design) (cycles_of cycles)

-- what the words ask for, if they are a command: `run`, the name of a file, a number of cycles
abbrev pub command : List (List ℕ) → Option Command
command [] = None
command (verb ∷ []) = None
command (verb ∷ (design ∷ [])) = None
command (verb ∷ (design ∷ (cycles ∷ []))) = if bytes_eq verb (codes "run") then run_command design cycles else None
command (verb ∷ (design ∷ (cycles ∷ (word ∷ words)))) = None
