use Rattle.std.specs.Prelude.{◌≡◌, ℕ, ◌<◌, ◌≤◌, List, ◌++◌, take, drop, length, Option, Some, None, Result, Ok, Err, ◌⊎◌, codes, decimal}
use Rattle.std.specs.Option.{option_map, option_and_then}
use Rattle.sim_design.specs.declared.Design.{Design}
use Rattle.vhdl_units.specs.Faults.{number_of}
use Rattle.vhdl_units.specs.declared.fault.Fault.{Fault}
use Rattle.sim_session.specs.Text.{FirstForm, IsRefusedText}
use Rattle.sim_session.specs.declared.fault.DesignFault.{DesignFault}
use Rattle.sim_session.specs.declared.fault.DesignFault.TheVariants as design
use Rattle.sim_journal.specs.declared.Entry.{Entry}
use Rattle.sim_journal.specs.declared.End.{End}
use Rattle.sim_journal.specs.Print.{Print}
use Rattle.vhpi_kernel.specs.Run.{IsRun, Part}
use Rattle.sim_host.specs.Host.{Seen, Written, TextHas, WroteFront, wrote, added, also_asked, bytes_of, Files, Rose}
use Rattle.sim_host.specs.declared.names.Asked.TheVariants.{Start}
use Rattle.sim_host.specs.declared.channels.Channel.TheVariants as channel
use Rattle.sim_command.specs.declared.fault.CommandFault.{CommandFault}
use Rattle.sim_command.specs.declared.fault.CommandFault.TheVariants as fault
use Rattle.sim_command.specs.declared.Status.{Status}
use Rattle.sim_command.specs.declared.Status.TheVariants as status
use Rattle.sim_command.specs.Words.{Command, Run}

-- the most bytes that a design file may have
abbrev pub most_bytes : ℕ
most_bytes = 1048576

-- the number of a static rule, and the place where it is broken
abbrev pub rule_words : Fault → List ℕ
rule_words f = (codes "Static " ++ decimal (number_of f.rule)) ++ (codes " " ++ decimal f.place)

-- the words that are said of a text that can't be run
abbrev pub words_of : DesignFault → List ℕ
words_of (design.BadByte place) = codes "BadByte " ++ decimal place
words_of (design.BadLiteral place) = codes "BadLiteral " ++ decimal place
words_of (design.Syntax token) = codes "Syntax " ++ decimal token
words_of (design.Nesting token) = codes "Nesting " ++ decimal token
words_of (design.Static f) = rule_words f
words_of design.NotBuilt = codes "NotBuilt"

-- the line that is said of a fault
abbrev pub line_of : CommandFault → List ℕ
line_of fault.Usage = codes "vhpisim: usage\n"
line_of fault.TooLong = codes "vhpisim: design: TooLong\n"
line_of (fault.Design f) = codes "vhpisim: design: " ++ (words_of f ++ codes "\n")
line_of fault.Host = codes "vhpisim: host fault\n"
line_of fault.NoMemory = codes "vhpisim: no memory\n"

-- the status of a fault
abbrev pub status_of : CommandFault → Status
status_of fault.Usage = status.Usage
status_of fault.TooLong = status.Refused
status_of (fault.Design f) = status.Refused
status_of fault.Host = status.HostFault
status_of fault.NoMemory = status.NoMemory

-- the status where memory ran out while the line was written
abbrev pub without_memory : Status → Status
without_memory status.Done = status.Done
without_memory status.Refused = status.NoMemory
without_memory status.Usage = status.NoMemory
without_memory status.NoMemory = status.NoMemory
without_memory status.HostFault = status.HostFault

-- Before the line.

-- a text is of no form that can be run
abbrev pub CannotRun : List ℕ → Type 0
CannotRun text = (d : Design) → FirstForm text d → ⊥

-- the design of the file was run, and the whole journal of its run was written to Out
pub record RunShown (name : List ℕ) (limit : ℕ) (old new : Seen) : Type 0 where
  pub text : List ℕ
  pub file : TextHas name old (λ t. t ≡ text)
  pub within : length text ≤ most_bytes
  pub design : Design
  pub read : FirstForm text design
  pub entries : List Entry
  pub end : End
  pub run : IsRun design (record { limit = limit }) entries end
  pub written : new.written ≡ added channel.Out (Print design entries) old.written
  pub asked : new.asked ≡ also_asked (Start name) old.asked

-- a front of the lines of the first part of that run was written to Out
pub record FrontShown (name : List ℕ) (limit : ℕ) (old : Seen) (now : Written) : Type 0 where
  pub text : List ℕ
  pub file : TextHas name old (λ t. t ≡ text)
  pub within : length text ≤ most_bytes
  pub design : Design
  pub read : FirstForm text design
  pub entries : List Entry
  pub part : Part design (record { limit = limit }) entries
  pub front : List ℕ
  pub rest : List ℕ
  pub lines : Print design entries ≡ front ++ rest
  pub written : now ≡ added channel.Out front old.written

-- nothing was written, or such a front
abbrev pub IsShown : List ℕ → ℕ → Seen → Written → Type 0
IsShown name limit old now = (now ≡ old.written) ⊎ FrontShown name limit old now

-- the host was asked to begin this file, or nothing was asked of it
abbrev pub AsksOnce : List ℕ → Seen → Seen → Type 0
AsksOnce name old new = (new.asked ≡ also_asked (Start name) old.asked) ⊎ (new.asked ≡ old.asked)

-- why the file is refused: it has too many bytes, or its text can't be run
abbrev pub IsRefused : CommandFault → List ℕ → Seen → Type 0
IsRefused fault.TooLong name old = TextHas name old (λ t. most_bytes < length t)
IsRefused (fault.Design f) name old = TextHas name old (λ t. (length t ≤ most_bytes) × IsRefusedText t f)
IsRefused f name old = ⊥

pub record Refuses (f : CommandFault) (name : List ℕ) (old new : Seen) : Type 0 where
  pub why : IsRefused f name old
  pub written : new.written ≡ old.written
  pub asked : new.asked ≡ also_asked (Start name) old.asked

-- what is left of the file shows that its reading was stopped: no file is begun, or no more bytes were
-- taken than a design file may have
abbrev pub IsReadInPart : List ℕ → Seen → Option (List ℕ) → Type 0
IsReadInPart name old left =
    (left ≡ None) ⊎ ((k : ℕ) × (k ≤ most_bytes) × (left ≡ option_map (drop k) (option_and_then (bytes_of name) old.files)))

-- a fault came in the reading, and nothing was written; or in the run of a text that can be run
abbrev pub IsStopped : List ℕ → ℕ → Seen → Written → Option (List ℕ) → Type 0
IsStopped name limit old now left = ((now ≡ old.written) × IsReadInPart name old left) ⊎ FrontShown name limit old now

pub record Stopped (name : List ℕ) (limit : ℕ) (old new : Seen) : Type 0 where
  pub shown : IsStopped name limit old new.written new.left
  pub asked : AsksOnce name old new

-- memory ran out
pub record Interrupted (name : List ℕ) (limit : ℕ) (old new : Seen) : Type 0 where
  pub shown : IsShown name limit old new.written
  pub asked : AsksOnce name old new

-- what the command `run` comes to
abbrev pub RunsDesign : Result (Unit {0}) CommandFault → List ℕ → ℕ → Seen → Seen → Type 0
RunsDesign (Ok done) name limit old new = RunShown name limit old new
RunsDesign (Err fault.Usage) name limit old new = ⊥
RunsDesign (Err fault.TooLong) name limit old new = Refuses fault.TooLong name old new
RunsDesign (Err (fault.Design f)) name limit old new = Refuses (fault.Design f) name old new
RunsDesign (Err fault.Host) name limit old new = Stopped name limit old new
RunsDesign (Err fault.NoMemory) name limit old new = Interrupted name limit old new

-- what a command comes to
abbrev pub Obeys : Option Command → Result (Unit {0}) CommandFault → Seen → Seen → Type 0
Obeys None result old new = (result ≡ Err fault.Usage) × (new ≡ old)
Obeys (Some (Run name limit)) result old new = RunsDesign result name limit old new

-- the count of faults rose where that is the answer, and stays at any other
abbrev pub CauseOf : Result (Unit {0}) CommandFault → ℕ → ℕ → Type 0
CauseOf (Ok done) before now = now ≡ before
CauseOf (Err fault.Host) before now = (before ≤ now) × Rose before now
CauseOf (Err fault.Usage) before now = now ≡ before
CauseOf (Err fault.TooLong) before now = now ≡ before
CauseOf (Err (fault.Design f)) before now = now ≡ before
CauseOf (Err fault.NoMemory) before now = now ≡ before

-- With the line, and the status.

-- the whole line was written to Err, and there was no fault; or a front of it, and there was one
abbrev pub Said : List ℕ → Written → Written → ℕ → ℕ → Type 0
Said line was now before after =
    ((now ≡ added channel.Err line was) × (after ≡ before))
    ⊎ ((k : ℕ) × (k < length line) × (now ≡ added channel.Err (take k line) was) × Rose before after × (before ≤ after))

-- memory ran out while the line was written: there is a front of it on Err, and there was no fault
abbrev pub IsCutShort : List ℕ → Written → Written → ℕ → ℕ → Type 0
IsCutShort line was now before after =
    (k : ℕ) × (k < length line) × (now ≡ added channel.Err (take k line) was) × (after ≡ before)

-- the line is on Err as far as it could be written: all of it, or a front where a fault came or memory ran out
abbrev pub SaidInPart : List ℕ → Written → Written → ℕ → ℕ → Type 0
SaidInPart line was now before after = Said line was now before after ⊎ IsCutShort line was now before after

-- status 0: the command is done, and nothing is said
abbrev pub IsDone : Option Command → Seen → Seen → ℕ → ℕ → Type 0
IsDone None old new before after = ⊥
IsDone (Some (Run name limit)) old new before after = RunShown name limit old new × (after ≡ before)

-- status 1: the file is refused, and the line says why; Out is unchanged
abbrev pub IsRefusal : Option Command → Seen → Seen → ℕ → ℕ → Type 0
IsRefusal None old new before after = ⊥
IsRefusal (Some (Run name limit)) old new before after =
    (f : CommandFault) × IsRefused f name old × Said (line_of f) old.written new.written before after × (new.asked ≡ also_asked (Start name) old.asked)

-- status 2: the words are no command, and nothing is asked of the host; Out is unchanged
abbrev pub IsUsage : Option Command → Seen → Seen → ℕ → ℕ → Type 0
IsUsage None old new before after = Said (line_of fault.Usage) old.written new.written before after × (new.asked ≡ old.asked)
IsUsage (Some c) old new before after = ⊥

-- memory ran out while the line of a refusal was written
pub record RefusalCutShort (name : List ℕ) (old new : Seen) (before after : ℕ) : Type 0 where
  pub cause : CommandFault
  pub why : IsRefused cause name old
  pub said : IsCutShort (line_of cause) old.written new.written before after
  pub asked : new.asked ≡ also_asked (Start name) old.asked

-- memory ran out in the reading or in the run, and the line says so
pub record RanOut (name : List ℕ) (limit : ℕ) (old new : Seen) (before after : ℕ) : Type 0 where
  -- what the channels held when the line was begun
  pub middle : Written
  pub shown : IsShown name limit old middle
  pub said : SaidInPart (line_of fault.NoMemory) middle new.written before after
  pub asked : AsksOnce name old new

-- status 3: memory ran out, in the command or while the line of usage or of a refusal was written
abbrev pub IsNoMemory : Option Command → Seen → Seen → ℕ → ℕ → Type 0
IsNoMemory None old new before after = IsCutShort (line_of fault.Usage) old.written new.written before after × (new.asked ≡ old.asked)
IsNoMemory (Some (Run name limit)) old new before after = RefusalCutShort name old new before after ⊎ RanOut name limit old new before after

-- the host had a fault, and the line says so: the fault came before the line was begun
pub record Faulted (name : List ℕ) (limit : ℕ) (old new : Seen) (before after : ℕ) : Type 0 where
  -- what the channels held, and the count of faults, when the line was begun
  pub middle : Written
  pub count : ℕ
  pub stopped : IsStopped name limit old middle new.left
  pub later : before ≤ count
  pub rose : Rose before count
  pub said : SaidInPart (line_of fault.Host) middle new.written count after
  pub asked : AsksOnce name old new

-- status 4: the host had a fault, in the reading of the file or in the run
abbrev pub IsHostFault : Option Command → Seen → Seen → ℕ → ℕ → Type 0
IsHostFault None old new before after = ⊥
IsHostFault (Some (Run name limit)) old new before after = Faulted name limit old new before after

-- each status has its outcome
abbrev pub Outcome : Status → Option Command → Seen → Seen → ℕ → ℕ → Type 0
Outcome status.Done c old new before after = IsDone c old new before after
Outcome status.Refused c old new before after = IsRefusal c old new before after
Outcome status.Usage c old new before after = IsUsage c old new before after
Outcome status.NoMemory c old new before after = IsNoMemory c old new before after
Outcome status.HostFault c old new before after = IsHostFault c old new before after

-- the only file that the host is asked for is that of the words, and none where they are usage
abbrev pub AsksOnly : Option Command → Seen → Seen → Type 0
AsksOnly None old new = new.asked ≡ old.asked
AsksOnly (Some (Run name limit)) old new = AsksOnce name old new

-- where the file is told and can be run, and the host has no fault, the command is done, memory
-- aside; where it is refused, the status says so
abbrev pub IsDoneWhereRun : Option Command → Status → Seen → ℕ → ℕ → Type 0
IsDoneWhereRun None result old before after = (result ≡ status.Usage) ⊎ (result ≡ status.NoMemory)
IsDoneWhereRun (Some (Run name limit)) result old before after =
    (files : Files) (text : List ℕ) (d : Design) → old.files ≡ Some files → bytes_of name files ≡ Some text → length text ≤ most_bytes → FirstForm text d → (Rose before after → ⊥) → (result ≡ status.Done) ⊎ (result ≡ status.NoMemory)

abbrev pub IsRefusedWhereNot : Option Command → Status → Seen → ℕ → ℕ → Type 0
IsRefusedWhereNot None result old before after = (result ≡ status.Usage) ⊎ (result ≡ status.NoMemory)
IsRefusedWhereNot (Some (Run name limit)) result old before after =
    (files : Files) (text : List ℕ) → old.files ≡ Some files → bytes_of name files ≡ Some text → (most_bytes < length text) ⊎ CannotRun text → (Rose before after → ⊥) → (result ≡ status.Refused) ⊎ (result ≡ status.NoMemory)

-- no file is begun; or bytes of the text were taken, and no more than a design file may have, so that of a
-- text that is too long some are left
abbrev pub IsTakenInPart : List ℕ → Option (List ℕ) → Type 0
IsTakenInPart text left = (left ≡ None) ⊎ ((k : ℕ) × (k ≤ most_bytes) × (left ≡ Some (drop k text)))

-- where the file is told and refused, status 4 comes only of a fault in its reading
abbrev pub YieldsToReading : Option Command → Status → Seen → Seen → Type 0
YieldsToReading None result old new = Unit {0}
YieldsToReading (Some (Run name limit)) result old new =
    (files : Files) (text : List ℕ) → old.files ≡ Some files → bytes_of name files ≡ Some text → (most_bytes < length text) ⊎ CannotRun text → result ≡ status.HostFault → (new.written.out ≡ old.written.out) × IsTakenInPart text new.left

-- a line was said with a status: all of it; a front of it, at a fault; or a front of it, where memory ran out
abbrev pub Finishes : List ℕ → Status → Status → Seen → Seen → ℕ → ℕ → Type 0
Finishes line s result was now before after =
    ((result ≡ s) × (now ≡ wrote channel.Err line was) × (after ≡ before))
    ⊎ ((result ≡ s) × WroteFront channel.Err line was now × Rose before after × (before ≤ after))
    ⊎ ((result ≡ without_memory s) × WroteFront channel.Err line was now × (after ≡ before))

-- what is said of what a command came to
abbrev pub Settles : Result (Unit {0}) CommandFault → Status → Seen → Seen → ℕ → ℕ → Type 0
Settles (Ok done) result was now before after = (result ≡ status.Done) × (now ≡ was) × (after ≡ before)
Settles (Err f) result was now before after = Finishes (line_of f) (status_of f) result was now before after
