-- The value of an element by its sources (14.7.3.2).
use Rattle.std.specs.Prelude.{ℤ, pos, List, [], ◌∷◌, map}
use Rattle.sim_logic.specs.declared.Logic9.{Logic9}
use Rattle.sim_logic.specs.declared.Logic9.TheVariants as value
use Rattle.sim_logic.specs.Logic.{resolution, resolved}
use Rattle.std.specs.Ordering.{int_eq}
use Rattle.std.specs.Prelude.{if◌then◌else◌}
use Rattle.sim_nets.specs.declared.resolving.Sources.{Sources}
use Rattle.sim_nets.specs.declared.resolving.Sources.TheVariants as sources

-- the value of STD_ULOGIC at a position
abbrev pub logic_of : ℤ → Logic9
logic_of p =
    if int_eq p (pos 1) then value.X else if int_eq p (pos 2) then value.Zero else if int_eq p (pos 3) then value.One
    else if int_eq p (pos 4) then value.Z else if int_eq p (pos 5) then value.W else if int_eq p (pos 6) then value.L
    else if int_eq p (pos 7) then value.H else if int_eq p (pos 8) then value.Dash else value.U

-- and back
abbrev pub position_of : Logic9 → ℤ
position_of value.U = pos 0
position_of value.X = pos 1
position_of value.Zero = pos 2
position_of value.One = pos 3
position_of value.Z = pos 4
position_of value.W = pos 5
position_of value.L = pos 6
position_of value.H = pos 7
position_of value.Dash = pos 8

-- the value of an element by its sources: its default where there is none, a single source as it is, and more folded from 'Z' (14.7.3.2)
abbrev pub value_of : ℤ → List ℤ → ℤ
value_of default [] = default
value_of default (only ∷ []) = only
value_of default many = position_of (resolved (map logic_of many))

-- the same as a walk along the sources
abbrev pub add_source : Sources → ℤ → Sources
add_source sources.None x = sources.One x
add_source (sources.One first) x = sources.Folded (resolution (resolution value.Z (logic_of first)) (logic_of x))
add_source (sources.Folded so_far) x = sources.Folded (resolution so_far (logic_of x))

abbrev pub add_sources : Sources → List ℤ → Sources
add_sources so_far [] = so_far
add_sources so_far (x ∷ xs) = add_sources (add_source so_far x) xs

abbrev pub value_in : ℤ → Sources → ℤ
value_in default sources.None = default
value_in default (sources.One x) = x
value_in default (sources.Folded x) = position_of x
