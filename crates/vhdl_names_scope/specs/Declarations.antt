-- The declarations of a region (IEEE Std 1076-2008, 12.1).
use Rattle.std.specs.Prelude.{ℕ, List, map, filter}
use Rattle.std.specs.Str.{bytes_eq}
use Rattle.vhdl_units.specs.declared.entry.Entry.{Entry}

-- a declaration: a name, and what it denotes
pub record Named : Type 0 where
  pub name : List ℕ
  pub entry : Entry

-- what the declarations of a region say of a name, in their order
abbrev pub own : List ℕ → List Named → List Entry
own name region = map (λ d. d.entry) (filter (λ d. bytes_eq name d.name) region)
