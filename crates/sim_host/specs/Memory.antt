-- A host in memory, as contracts see it. It tells all that a host can tell.
use Rattle.std.specs.Prelude.{◌≡◌, ℕ, ◌+◌, ◌-◌, ◌^◌, min, Bool, false, List, [], ◌∷◌, map, Option, None, Some, Result, Vec, is_some, IsErr, IsErrOf, Contains, zero, suc}
use Rattle.sim_host.specs.declared.names.Asked.{Asked}
use Rattle.sim_host.specs.declared.errors.HostError.{HostError}
use Rattle.sim_host.specs.declared.errors.HostError.TheVariants as failure
use Rattle.sim_host.specs.Host.{Files, Seen, bytes_of}

-- the files; what is left of the begun one, if one is begun; what the channels hold; what was asked for;
-- whether the channel File is begun; the most that one read gives; the numbers of the calls that fail;
-- how many calls there were, and how many faults
pub record Memory : Type 0 where
  pub files : Files
  pub left : Option (List ℕ)
  pub out : List ℕ
  pub err : List ℕ
  pub file : List ℕ
  pub asked : List Asked
  pub is_created : Bool
  pub piece : ℕ
  pub fails : List ℕ
  pub calls : ℕ
  pub faults : ℕ

-- what it shows as a host
abbrev pub seen_of : Memory → Seen
seen_of m = record {
  files = Some m.files;
  left = m.left;
  written = record { out = Some m.out; err = Some m.err; file = Some m.file };
  asked = Some m.asked;
  is_begun = is_some m.left;
  is_created = m.is_created;
}

-- a count goes up by one, and stands still at the last value of a `u64`
abbrev pub counted_up : ℕ → ℕ
counted_up n = min (n + 1) (2 ^ 64 - 1)

-- the number of this call, counted from 1, is on the list of those that fail
abbrev pub IsListed : Memory → Type 0
IsListed m = Contains m.fails (counted_up m.calls)

-- no file has the name
abbrev pub IsMissing : List ℕ → Memory → Type 0
IsMissing name m = bytes_of name m.files ≡ None

-- a fault only for this cause, and never an `Ok` where there is this cause
pub record FaultsWhere {T : Type 0} (cause : Type 0) (result : Result T HostError) : Type 0 where
  pub only : IsErrOf result failure.Fault → cause
  pub always : cause → IsErr result

-- the call was counted, a fault too, and how the host gives pieces and fails is as before
pub record CountsCall {T : Type 0} (old new : Memory) (result : Result T HostError) : Type 0 where
  pub calls : new.calls ≡ counted_up old.calls
  pub faults : IsErrOf result failure.Fault → new.faults ≡ counted_up old.faults
  pub piece : new.piece ≡ old.piece
  pub fails : new.fails ≡ old.fails

-- a new host of these files: nothing is begun, written or asked for
abbrev pub fresh : Files → ℕ → List ℕ → Memory
fresh files piece fails = record {
  files = files;
  left = None;
  out = [];
  err = [];
  file = [];
  asked = [];
  is_created = false;
  piece = piece;
  fails = fails;
  calls = 0;
  faults = 0;
}

-- named buffers as files
abbrev pub entries : {A : Type 0} → List (List ℕ × Vec ℕ A) → Files
entries files = map (λ f. (f.0, f.1.items)) files

-- the bytes of the file at a place
abbrev pub text_at : {A : Type 0} → ℕ → List (List ℕ × Vec ℕ A) → List ℕ
text_at i [] = []
text_at zero (f ∷ fs) = f.1.items
text_at (suc i) (f ∷ fs) = text_at i fs
