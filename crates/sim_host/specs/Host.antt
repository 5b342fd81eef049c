-- What a host shows of the outside, and what its calls do to that. A part that a host does not tell is `None`, and stays so.
use Rattle.std.specs.Prelude.{◌≡◌, ℕ, ◌+◌, ◌-◌, ◌^◌, ◌≤◌, ◌<◌, min, Bool, true, false, List, [], ◌∷◌, ◌++◌, length, take, drop, ⊤, ◌⊎◌, Option, None, Some, Result, Ok, Err, IfSome, IsSomeAnd, OnOk, IsErrOf, IsTrue, option_map, option_and_then, bytes_eq, if◌then◌else◌}
use Rattle.std.specs.Io.KnownBytes.{append_known, prepend_known}
use Rattle.sim_host.specs.declared.channels.Channel.{Channel}
use Rattle.sim_host.specs.declared.channels.Channel.TheVariants as channel
use Rattle.sim_host.specs.declared.names.Asked.{Asked}
use Rattle.sim_host.specs.declared.names.Asked.TheVariants.{Start, Create}
use Rattle.sim_host.specs.declared.errors.HostError.{HostError}
use Rattle.sim_host.specs.declared.errors.HostError.TheVariants as failure
use Rattle.sim_host.specs.declared.errors.ReadError.{ReadError}
use Rattle.sim_host.specs.declared.errors.ReadError.TheVariants as refusal

-- files, each a name and its bytes
abbrev pub Files : Type 0
Files = List (List ℕ × List ℕ)

-- what each channel holds
pub record Written : Type 0 where
  pub out : Option (List ℕ)
  pub err : Option (List ℕ)
  pub file : Option (List ℕ)

-- what a host shows: the files, what is left to read of the begun one, what the channels hold,
-- what `start` and `create` were asked for, and whether a file and the channel File are begun
pub record Seen : Type 0 where
  pub files : Option Files
  pub left : Option (List ℕ)
  pub written : Written
  pub asked : Option (List Asked)
  pub is_begun : Bool
  pub is_created : Bool

-- The files.

-- the bytes of the first file of that name
abbrev pub bytes_of : List ℕ → Files → Option (List ℕ)
bytes_of name [] = None
bytes_of name (f ∷ fs) = if bytes_eq f.0 name then Some f.1 else bytes_of name fs

-- no two files have one name
abbrev pub HasDistinctNames : Files → Type 0
HasDistinctNames [] = ⊤
HasDistinctNames (f ∷ fs) = (bytes_of f.0 fs ≡ None) × HasDistinctNames fs

-- where the files are told, one of them has the name, and P holds of its bytes
abbrev pub TextHas : List ℕ → Seen → (List ℕ → Type 0) → Type 0
TextHas name s P = IfSome s.files (λ fs. IsSomeAnd (bytes_of name fs) P)

-- The channels.

-- what the channel holds
abbrev pub content_of : Channel → Written → Option (List ℕ)
content_of channel.Out w = w.out
content_of channel.Err w = w.err
content_of channel.File w = w.file

-- the bytes are added to the channel's end
abbrev pub added : Channel → List ℕ → Written → Written
added channel.Out bytes w = record w { out = append_known w.out bytes }
added channel.Err bytes w = record w { err = append_known w.err bytes }
added channel.File bytes w = record w { file = append_known w.file bytes }

abbrev pub wrote : Channel → List ℕ → Seen → Seen
wrote to bytes s = record s { written = added to bytes s.written }

-- no bytes, whatever was there
abbrev pub no_bytes : List ℕ → List ℕ
no_bytes bytes = []

-- the channel File holds nothing
abbrev pub emptied : Written → Written
emptied w = record w { file = option_map no_bytes w.file }

-- only to File may a write be wrong: it has to be begun
abbrev pub MayWrite : Channel → Seen → Type 0
MayWrite channel.Out s = ⊤
MayWrite channel.Err s = ⊤
MayWrite channel.File s = IsTrue s.is_created

-- the number of bytes taken is at most that of the part, and is above 0 where the part is not empty
pub record TakesSome (count : ℕ) (part : List ℕ) : Type 0 where
  pub within : count ≤ length part
  pub some : 0 < length part → 0 < count

-- some of the bytes, from the first on and not all, were written
abbrev pub WroteFront : Channel → List ℕ → Seen → Seen → Type 0
WroteFront to bytes old new = (k : ℕ) × (k < length bytes) × (new ≡ wrote to (take k bytes) old)

-- all of the bytes were written, or a front of them
abbrev pub Writes : {T E : Type 0} → Channel → List ℕ → Result T E → Seen → Seen → Type 0
Writes to bytes (Ok done) old new = new ≡ wrote to bytes old
Writes to bytes (Err e) old new = WroteFront to bytes old new

-- What was asked for.

abbrev pub also_asked : Asked → Option (List Asked) → Option (List Asked)
also_asked ask asked = option_map (λ before. before ++ ask ∷ []) asked

abbrev pub asked_also : Asked → Seen → Seen
asked_also ask s = record s { asked = also_asked ask s.asked }

-- the name was added to what was asked for, or left out for want of memory
abbrev pub Asks : {T E : Type 0} → Asked → E → Result T E → Option (List Asked) → Option (List Asked) → Type 0
Asks ask no_memory result old new = (new ≡ also_asked ask old) ⊎ ((new ≡ old) × IsErrOf result no_memory)

-- Beginning a file.

-- the named file is begun, and all of it is left
abbrev pub started : List ℕ → Seen → Seen
started name s = record (asked_also (Start name) s) { left = option_and_then (bytes_of name) s.files; is_begun = true }

-- no file is begun
abbrev pub unbegun : Seen → Seen
unbegun s = record s { left = None; is_begun = false }

-- a `start` that failed: no file is begun, and the name was asked for, or was left out for want of memory
abbrev pub FailsToStart : {T : Type 0} → List ℕ → Result T HostError → Seen → Seen → Type 0
FailsToStart name result old new =
    (new ≡ unbegun (asked_also (Start name) old)) ⊎ ((new ≡ unbegun old) × IsErrOf result failure.NoMemory)

-- the channel File is begun anew
abbrev pub created : List ℕ → Seen → Seen
created name s = record (asked_also (Create name) s) { written = emptied s.written; is_created = true }

-- the channel File is not begun; what it holds stays
abbrev pub uncreated : Seen → Seen
uncreated s = record s { is_created = false }

-- a `create` that failed
abbrev pub FailsToCreate : {T : Type 0} → List ℕ → Result T HostError → Seen → Seen → Type 0
FailsToCreate name result old new =
    (new ≡ uncreated (asked_also (Create name) old)) ⊎ ((new ≡ uncreated old) × IsErrOf result failure.NoMemory)

-- Reading.

-- the part was the first of what was left, and is taken off it; nothing else changes
pub record Reads (part : List ℕ) (old new : Seen) : Type 0 where
  pub first : old.left ≡ prepend_known part new.left
  pub rest : new ≡ record old { left = new.left }

-- so many bytes were taken off what is left
abbrev pub took : ℕ → Seen → Seen
took count s = record s { left = option_map (drop count) s.left }

-- a read that ended early took one byte more than the limit where that is why it ended, and else no more than the limit
abbrev pub StopsTaking : ReadError → ℕ → Seen → Seen → Type 0
StopsTaking refusal.TooLong limit old new = (part : List ℕ) × (length part ≡ limit + 1) × Reads part old new
StopsTaking refusal.Host limit old new = (part : List ℕ) × (length part ≤ limit) × Reads part old new
StopsTaking refusal.NoMemory limit old new = (part : List ℕ) × (length part ≤ limit) × Reads part old new

-- where what is left is told, nothing is left
abbrev pub IsAtEnd : Seen → Type 0
IsAtEnd s = IfSome s.left (λ left. left ≡ [])

-- some bytes of the file were taken, no more than the limit
abbrev pub TookSome : List ℕ → ℕ → Seen → Seen → Type 0
TookSome name limit old new = (k : ℕ) × (k ≤ limit) × (new ≡ took k (started name old))

-- the whole file was read, and has no more bytes than the limit
pub record IsWhole (name : List ℕ) (limit : ℕ) (bytes : List ℕ) (old new : Seen) : Type 0 where
  pub text : TextHas name old (λ text. text ≡ bytes)
  pub within : length bytes ≤ limit
  pub taken : new ≡ took (length bytes) (started name old)

-- the file has more bytes than the limit, and one more than the limit was taken
pub record IsTooLong (name : List ℕ) (limit : ℕ) (old new : Seen) : Type 0 where
  pub text : TextHas name old (λ text. limit < length text)
  pub taken : new ≡ took (limit + 1) (started name old)

-- what `read_all` leaves where it gives no bytes
abbrev pub StopsReading : ReadError → List ℕ → ℕ → Seen → Seen → Type 0
StopsReading refusal.TooLong name limit old new = IsTooLong name limit old new
StopsReading refusal.Host name limit old new =
    (new ≡ unbegun (asked_also (Start name) old)) ⊎ TookSome name limit old new
StopsReading refusal.NoMemory name limit old new =
    (new ≡ unbegun (asked_also (Start name) old)) ⊎ (new ≡ unbegun old) ⊎ TookSome name limit old new

-- neither the files nor a channel changed
pub record OnlyReads (old new : Seen) : Type 0 where
  pub files : new.files ≡ old.files
  pub written : new.written ≡ old.written
  pub is_created : new.is_created ≡ old.is_created

-- Faults.

-- a count of faults rose, or stands at its last value
abbrev pub Rose : ℕ → ℕ → Type 0
Rose before now = min (before + 1) (2 ^ 64 - 1) ≤ now

-- the count of faults never falls; it rose where the answer is Fault, and stays at any other
pub record HasCause {T : Type 0} (before now : ℕ) (result : Result T HostError) : Type 0 where
  pub later : before ≤ now
  pub fault : IsErrOf result failure.Fault → Rose before now
  pub ok : OnOk result (now ≡ before)
  pub no_memory : IsErrOf result failure.NoMemory → now ≡ before

-- the same of `read_all`
pub record HasReadCause {T : Type 0} (before now : ℕ) (result : Result T ReadError) : Type 0 where
  pub later : before ≤ now
  pub fault : IsErrOf result refusal.Host → Rose before now
  pub ok : OnOk result (now ≡ before)
  pub too_long : IsErrOf result refusal.TooLong → now ≡ before
  pub no_memory : IsErrOf result refusal.NoMemory → now ≡ before
