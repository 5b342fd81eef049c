-- Names of a design: a full name is `:` and the name of the root, then `:` and the next name, and so on.
use Rattle.std.specs.Prelude.{ℕ, zero, suc, List, [], ◌++◌, length, slice_get, codes}
use Rattle.std.specs.Option.{option_map_or}
use Rattle.sim_elaborated.specs.declared.design.Design.{Design}

-- a name in lower case, and as it is written
abbrev pub lower : Design → ℕ → List ℕ
lower d spelling = option_map_or (λ s. s.lower) (slice_get d.spellings spelling) []

abbrev pub written : Design → ℕ → List ℕ
written d spelling = option_map_or (λ s. s.written) (slice_get d.spellings spelling) []

-- a name under a path
abbrev pub below : Design → List ℕ → ℕ → List ℕ
below d path spelling = path ++ (codes ":" ++ lower d spelling)

-- the full name of an instance under at most so many others: that of its parent, and its own name
abbrev pub path_within : ℕ → Design → ℕ → List ℕ
path_within zero d i = []
path_within (suc n) d i = option_map_or (λ instance. below d (option_map_or (path_within n d) instance.parent []) instance.spelling) (slice_get d.instances i) []

abbrev pub instance_name : Design → ℕ → List ℕ
instance_name d i = path_within (length d.instances) d i

abbrev pub net_name : Design → ℕ → List ℕ
net_name d n = option_map_or (λ net. below d (instance_name d net.instance) net.spelling) (slice_get d.nets n) []

abbrev pub generic_name : Design → ℕ → List ℕ
generic_name d n = option_map_or (λ generic. below d (instance_name d generic.instance) generic.spelling) (slice_get d.generics n) []

-- the spelling of a process is that of its body
abbrev pub body_spelling : Design → ℕ → ℕ
body_spelling d body = option_map_or (λ b. b.spelling) (slice_get d.bodies body) 0

abbrev pub process_name : Design → ℕ → List ℕ
process_name d p = option_map_or (λ process. below d (instance_name d process.instance) (body_spelling d process.body)) (slice_get d.processes p) []

abbrev pub variable_name : Design → ℕ → List ℕ
variable_name d n = option_map_or (λ variable. below d (process_name d variable.process) variable.spelling) (slice_get d.variables n) []
