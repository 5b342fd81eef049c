-- What contracts see of the fields of a `MemoryHost`.
use Rattle.std.specs.Prelude.{ℕ, ◌<◌, ◌≤◌, List, length, drop, Option, None, Some, option_map, ⊤}
use Rattle.sim_host.specs.declared.memory.MemoryHost.TheInside.{Inside}
use Rattle.sim_host.specs.declared.memory.Reading.{Reading}
use Rattle.sim_host.specs.Memory.{Memory, entries, text_at}

-- what is left of the file that is being read
abbrev pub left_of : Inside → Option (List ℕ)
left_of m = option_map (λ (r : Reading). drop r.place (text_at r.file m.files.items)) m.reading

abbrev pub memory_of : Inside → Memory
memory_of m = record {
  files = entries m.files.items;
  left = left_of m;
  out = m.out.items;
  err = m.err.items;
  file = m.file.items;
  asked = m.asked.items;
  is_created = m.is_created;
  piece = m.piece;
  fails = m.fails.items;
  calls = m.calls;
  faults = m.faults;
}

-- the file being read is one of the files, and the place is inside it or at its end
abbrev pub IsInside : Inside → Option Reading → Type 0
IsInside m None = ⊤
IsInside m (Some r) = (r.file < length m.files.items) × (r.place ≤ length (text_at r.file m.files.items))

pub record IsSound (m : Inside) : Type 0 where
  pub gives_some : 0 < m.piece
  pub inside : IsInside m m.reading
