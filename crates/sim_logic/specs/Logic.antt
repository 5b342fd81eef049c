use Rattle.std.specs.Prelude.{◌≡◌, ◌≢◌, List, [], ◌∷◌, fold, Contains}
use Rattle.std.specs.List.Sorted.{IsPermutation}
use Rattle.sim_logic.specs.declared.Logic9.{Logic9}
use Rattle.sim_logic.specs.declared.Logic9.TheVariants.{U, X, Zero, One, Z, W, L, H, Dash}

-- The tables are those of the package std_logic_1164, each row read in the order U X 0 1 Z W L H -.

-- one row of a table: what stands in each column
abbrev pub row : (u x low high float weak_x weak_low weak_high free : Logic9) → Logic9 → Logic9
row u x low high float weak_x weak_low weak_high free U = u
row u x low high float weak_x weak_low weak_high free X = x
row u x low high float weak_x weak_low weak_high free Zero = low
row u x low high float weak_x weak_low weak_high free One = high
row u x low high float weak_x weak_low weak_high free Z = float
row u x low high float weak_x weak_low weak_high free W = weak_x
row u x low high float weak_x weak_low weak_high free L = weak_low
row u x low high float weak_x weak_low weak_high free H = weak_high
row u x low high float weak_x weak_low weak_high free Dash = free

-- resolution: what two sources of one signal give together
abbrev pub resolution : Logic9 → Logic9 → Logic9
resolution U = row U U U U U U U U U
resolution X = row U X X X X X X X X
resolution Zero = row U X Zero X Zero Zero Zero Zero X
resolution One = row U X X One One One One One X
resolution Z = row U X Zero One Z W L H X
resolution W = row U X Zero One W W W W X
resolution L = row U X Zero One L W L W X
resolution H = row U X Zero One H W W H X
resolution Dash = row U X X X X X X X X

-- "and"
abbrev pub and_table : Logic9 → Logic9 → Logic9
and_table U = row U U Zero U U U Zero U U
and_table X = row U X Zero X X X Zero X X
and_table Zero = row Zero Zero Zero Zero Zero Zero Zero Zero Zero
and_table One = row U X Zero One X X Zero One X
and_table Z = row U X Zero X X X Zero X X
and_table W = row U X Zero X X X Zero X X
and_table L = row Zero Zero Zero Zero Zero Zero Zero Zero Zero
and_table H = row U X Zero One X X Zero One X
and_table Dash = row U X Zero X X X Zero X X

-- "or"
abbrev pub or_table : Logic9 → Logic9 → Logic9
or_table U = row U U U One U U U One U
or_table X = row U X X One X X X One X
or_table Zero = row U X Zero One X X Zero One X
or_table One = row One One One One One One One One One
or_table Z = row U X X One X X X One X
or_table W = row U X X One X X X One X
or_table L = row U X Zero One X X Zero One X
or_table H = row One One One One One One One One One
or_table Dash = row U X X One X X X One X

-- "xor"
abbrev pub xor_table : Logic9 → Logic9 → Logic9
xor_table U = row U U U U U U U U U
xor_table X = row U X X X X X X X X
xor_table Zero = row U X Zero One X X Zero One X
xor_table One = row U X One Zero X X One Zero X
xor_table Z = row U X X X X X X X X
xor_table W = row U X X X X X X X X
xor_table L = row U X Zero One X X Zero One X
xor_table H = row U X One Zero X X One Zero X
xor_table Dash = row U X X X X X X X X

-- "not"
abbrev pub not_table : Logic9 → Logic9
not_table = row U X One Zero X X One Zero X

-- To_X01: '0', '1', or 'X' for all that is neither
abbrev pub x01_table : Logic9 → Logic9
x01_table = row X X Zero One X X Zero One X

-- what the sources of one signal give: a single source is taken as it is, more are folded from 'Z' through the table
abbrev pub resolved : List Logic9 → Logic9
resolved (source ∷ []) = source
resolved sources = fold resolution Z sources

-- a value without its strength: 'L' is '0', 'H' is '1', and 'Z', 'W', '-' are 'X'
abbrev pub without_strength : Logic9 → Logic9
without_strength U = U
without_strength Zero = Zero
without_strength L = Zero
without_strength One = One
without_strength H = One
without_strength _ = X

-- '0' if either is '0', else 'U' if either is 'U', else 'X' if either is 'X', else '1'
abbrev pub and_rule : Logic9 → Logic9 → Logic9
and_rule Zero _ = Zero
and_rule _ Zero = Zero
and_rule U _ = U
and_rule _ U = U
and_rule X _ = X
and_rule _ X = X
and_rule _ _ = One

-- '1' if either is '1', else 'U' if either is 'U', else 'X' if either is 'X', else '0'
abbrev pub or_rule : Logic9 → Logic9 → Logic9
or_rule One _ = One
or_rule _ One = One
or_rule U _ = U
or_rule _ U = U
or_rule X _ = X
or_rule _ X = X
or_rule _ _ = Zero

-- 'U' if either is 'U', else 'X' if either is 'X', else whether one of them alone is '1'
abbrev pub xor_rule : Logic9 → Logic9 → Logic9
xor_rule U _ = U
xor_rule _ U = U
xor_rule X _ = X
xor_rule _ X = X
xor_rule Zero b = b
xor_rule a Zero = a
xor_rule _ _ = Zero

-- '0' and '1' are exchanged
abbrev pub not_rule : Logic9 → Logic9
not_rule Zero = One
not_rule One = Zero
not_rule a = a

-- 'U' is 'X', all else stays
abbrev pub x01_rule : Logic9 → Logic9
x01_rule U = X
x01_rule a = a

-- the tables of the operators are their rules, on values without their strength
pub record OperatorsIgnoreStrength : Type 0 where
  pub and_ : (a b : Logic9) → and_table a b ≡ and_rule (without_strength a) (without_strength b)
  pub or_ : (a b : Logic9) → or_table a b ≡ or_rule (without_strength a) (without_strength b)
  pub xor_ : (a b : Logic9) → xor_table a b ≡ xor_rule (without_strength a) (without_strength b)
  pub not_ : (a : Logic9) → not_table a ≡ not_rule (without_strength a)
  pub x01 : (a : Logic9) → x01_table a ≡ x01_rule (without_strength a)

-- an operator doesn't ask which operand is on the left
abbrev pub IsCommutative : (Logic9 → Logic9 → Logic9) → Type 0
IsCommutative f = (a b : Logic9) → f a b ≡ f b a

-- three operands may be taken together in either way
abbrev pub IsAssociative : (Logic9 → Logic9 → Logic9) → Type 0
IsAssociative f = (a b c : Logic9) → f (f a b) c ≡ f a (f b c)

-- sources in another order give the same
abbrev pub IgnoresOrder : Type 0
IgnoresOrder = (xs ys : List Logic9) → IsPermutation xs ys → resolved xs ≡ resolved ys

-- one source that is 'U' makes a signal 'U', and else one that is 'X' makes it 'X'
pub record UninitializedAbsorbs : Type 0 where
  pub u : (sources : List Logic9) → Contains sources U → resolved sources ≡ U
  pub x : (sources : List Logic9) → Contains sources X → resolved sources ≢ U → resolved sources ≡ X

-- the laws of De Morgan hold for all nine values
pub record DeMorgan : Type 0 where
  pub not_and : (a b : Logic9) → not_table (and_table a b) ≡ or_table (not_table a) (not_table b)
  pub not_or : (a b : Logic9) → not_table (or_table a b) ≡ and_table (not_table a) (not_table b)

-- a single source isn't folded through the table: that changes '-', and '-' alone
pub record SingleSourceIsKept : Type 0 where
  pub dash : fold resolution Z (Dash ∷ []) ≡ X
  pub others : (source : Logic9) → source ≢ Dash → fold resolution Z (source ∷ []) ≡ source
