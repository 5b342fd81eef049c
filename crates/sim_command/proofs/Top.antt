use Rattle.std.proofs.Common.{◌≡◌, ℕ, ◌<◌, ◌≤◌, List, take, drop, length, Option, Some, None, Result, Ok, Err, IfSome, IsSomeAnd, refl, sym, ap, subst, ◌∙◌, ◌⊎◌, inl, inr, arith}
use Rattle.std.specs.Option.{option_map, option_and_then}
use Rattle.sim_design.specs.declared.Design.{Design}
use Rattle.sim_session.specs.Text.{FirstForm, IsRefusedText}
use Rattle.sim_host.specs.Host.{Seen, Written, Files, TextHas, WroteFront, wrote, added, also_asked, IsWhole, OnlyReads, StopsReading, Rose, bytes_of, took, started}
use Rattle.sim_host.specs.declared.names.Asked.TheVariants.{Start}
use Rattle.sim_host.specs.declared.channels.Channel.TheVariants as channel
use Rattle.sim_host.specs.declared.errors.ReadError.{ReadError}
use Rattle.sim_host.specs.declared.errors.ReadError.TheVariants as read
use Rattle.sim_session.specs.declared.fault.SessionFault.{SessionFault}
use Rattle.sim_session.specs.declared.fault.SessionFault.TheVariants as session
use Rattle.sim_session.specs.Session.{Runs, FrontWritten, IsCut}
use Rattle.sim_command.specs.declared.fault.CommandFault.{CommandFault}
use Rattle.sim_command.specs.declared.fault.CommandFault.TheVariants as fault
use Rattle.sim_command.specs.declared.Status.{Status}
use Rattle.sim_command.specs.declared.Status.TheVariants as status
use Rattle.sim_command.specs.Words.{Command, Run}
use Rattle.sim_command.specs.Faults.{read_fault, session_fault}
use Rattle.sim_command.specs.Outcome.{most_bytes, line_of, CannotRun, RunShown, FrontShown, AsksOnce, IsRefused, Refuses, IsReadInPart, IsStopped, Stopped, Interrupted, RunsDesign, Obeys, CauseOf, Said, IsCutShort, SaidInPart, Faulted, IsTakenInPart, Outcome, IsDoneWhereRun, IsRefusedWhereNot, YieldsToReading, Finishes, Settles}

-- A fault of the session, over the file as it was read.

some_map : (P Q : List ℕ → Type 0) (o : Option (List ℕ)) → ((t : List ℕ) → P t → Q t) → IsSomeAnd o P → IsSomeAnd o Q
some_map P Q None each h = h
some_map P Q (Some t) each h = each t h

if_map : (P Q : Files → Type 0) (o : Option Files) → ((fs : Files) → P fs → Q fs) → IfSome o P → IfSome o Q
if_map P Q None each h = tt
if_map P Q (Some fs) each h = each fs h

-- a fact that follows for each text
text_map : (name : List ℕ) (s : Seen) (P Q : List ℕ → Type 0) → ((t : List ℕ) → P t → Q t) → TextHas name s P → TextHas name s Q
text_map name s P Q each h =
    if_map (λ fs. IsSomeAnd (bytes_of name fs) P) (λ fs. IsSomeAnd (bytes_of name fs) Q) s.files (λ fs. some_map P Q (bytes_of name fs) each) h

began : (name : List ℕ) (n : ℕ) (old mid : Seen) → mid ≡ took n (started name old) → mid.asked ≡ also_asked (Start name) old.asked
began name n old mid e = ap (λ (s : Seen). s.asked) e

-- a reading that gave no text
pub read_cut : (e : ReadError) (name : List ℕ) (limit : ℕ) (old new : Seen) → StopsReading e name most_bytes old new → RunsDesign (Err (read_fault e)) name limit old new
read_cut read.TooLong name limit old new h = record {
  why = h.text;
  written = ap (λ (s : Seen). s.written) h.taken;
  asked = ap (λ (s : Seen). s.asked) h.taken;
}
read_cut read.Host name limit old new (inl e) = record {
  shown = inl (ap (λ (s : Seen). s.written) e, inl (ap (λ (s : Seen). s.left) e));
  asked = inl (ap (λ (s : Seen). s.asked) e);
}
read_cut read.Host name limit old new (inr t) = record {
  shown = inl (ap (λ (s : Seen). s.written) t.2, inr (t.0, t.1, ap (λ (s : Seen). s.left) t.2));
  asked = inl (ap (λ (s : Seen). s.asked) t.2);
}
read_cut read.NoMemory name limit old new (inl e) = record {
  shown = inl (ap (λ (s : Seen). s.written) e);
  asked = inl (ap (λ (s : Seen). s.asked) e);
}
read_cut read.NoMemory name limit old new (inr (inl e)) = record {
  shown = inl (ap (λ (s : Seen). s.written) e);
  asked = inr (ap (λ (s : Seen). s.asked) e);
}
read_cut read.NoMemory name limit old new (inr (inr t)) = record {
  shown = inl (ap (λ (s : Seen). s.written) t.2);
  asked = inl (ap (λ (s : Seen). s.asked) t.2);
}

front_shown : (name text : List ℕ) (limit : ℕ) (old mid new : Seen) → TextHas name old (λ t. t ≡ text) → length text ≤ most_bytes → mid.written ≡ old.written → FrontWritten text limit mid new → FrontShown name limit old new.written
front_shown name text limit old mid new file within same f = record {
  text = text;
  file = file;
  within = within;
  design = f.design;
  read = f.read;
  entries = f.entries;
  part = f.part;
  front = f.front;
  rest = f.rest;
  lines = f.lines;
  written = ap (λ (s : Seen). s.written) f.written ∙ ap (added channel.Out f.front) same;
}

cut_shown : (name text : List ℕ) (limit : ℕ) (old mid new : Seen) → TextHas name old (λ t. t ≡ text) → length text ≤ most_bytes → mid.written ≡ old.written → mid.asked ≡ also_asked (Start name) old.asked → IsCut text limit mid new → Interrupted name limit old new
cut_shown name text limit old mid new file within same asked (inl h) = record {
  shown = inl (ap (λ (s : Seen). s.written) h ∙ same);
  asked = inl (ap (λ (s : Seen). s.asked) h ∙ asked);
}
cut_shown name text limit old mid new file within same asked (inr h) = record {
  shown = inr (front_shown name text limit old mid new file within same h);
  asked = inl (ap (λ (s : Seen). s.asked) h.written ∙ asked);
}

pub session_cut : (f : SessionFault) (name text : List ℕ) (limit : ℕ) (old mid new : Seen) → IsWhole name most_bytes text old mid → OnlyReads old mid → Runs (Err f) text limit mid new → RunsDesign (Err (session_fault f)) name limit old new
session_cut (session.Design f) name text limit old mid new whole only h = record {
  why = text_map name old (λ t. t ≡ text) (λ t. (length t ≤ most_bytes) × IsRefusedText t f)
      (λ t e. subst (λ (u : List ℕ). (length u ≤ most_bytes) × IsRefusedText u f) (sym e) (whole.within, h.0)) whole.text;
  written = ap (λ (s : Seen). s.written) h.1 ∙ only.written;
  asked = ap (λ (s : Seen). s.asked) h.1 ∙ began name (length text) old mid whole.taken;
}
session_cut session.Host name text limit old mid new whole only h = record {
  shown = inr (front_shown name text limit old mid new whole.text whole.within only.written h);
  asked = inl (ap (λ (s : Seen). s.asked) h.written ∙ began name (length text) old mid whole.taken);
}
session_cut session.NoMemory name text limit old mid new whole only h =
    cut_shown name text limit old mid new whole.text whole.within only.written (began name (length text) old mid whole.taken) h

-- What a status says.

-- a whole line, or a front of it, over what was written before the line
said_whole : (line : List ℕ) (first : Written) (was now : Seen) (b a : ℕ) → was.written ≡ first → now ≡ wrote channel.Err line was → a ≡ b → Said line first now.written b a
said_whole line first was now b a over e same = inl (ap (λ (s : Seen). s.written) e ∙ ap (added channel.Err line) over, same)

said_front : (line : List ℕ) (first : Written) (was now : Seen) (b a : ℕ) → was.written ≡ first → WroteFront channel.Err line was now → Rose b a → b ≤ a → Said line first now.written b a
said_front line first was now b a over w rose later = inr (w.0, w.1, ap (λ (s : Seen). s.written) w.2 ∙ ap (added channel.Err (take w.0 line)) over, rose, later)

cut_short : (line : List ℕ) (first : Written) (was now : Seen) (b a : ℕ) → was.written ≡ first → WroteFront channel.Err line was now → a ≡ b → IsCutShort line first now.written b a
cut_short line first was now b a over w same = (w.0, w.1, ap (λ (s : Seen). s.written) w.2 ∙ ap (added channel.Err (take w.0 line)) over, same)

usage_outcome : (result : Status) (old new : Seen) (b a : ℕ) → Finishes (line_of fault.Usage) status.Usage result old new b a → Outcome result None old new b a
usage_outcome result old new b a (inl h) = rw h.0 (said_whole (line_of fault.Usage) old.written old new b a refl h.1 h.2, ap (λ (s : Seen). s.asked) h.1)
usage_outcome result old new b a (inr (inl h)) = rw h.0 (said_front (line_of fault.Usage) old.written old new b a refl h.1 h.2 h.3, ap (λ (s : Seen). s.asked) h.1.2)
usage_outcome result old new b a (inr (inr h)) = rw h.0 (cut_short (line_of fault.Usage) old.written old new b a refl h.1 h.2, ap (λ (s : Seen). s.asked) h.1.2)

refused_outcome : (f : CommandFault) (name : List ℕ) (limit : ℕ) (result : Status) (old mid new : Seen) (b a : ℕ) → Refuses f name old mid → Finishes (line_of f) status.Refused result mid new b a → Outcome result (Some (Run name limit)) old new b a
refused_outcome f name limit result old mid new b a r (inl h) =
    rw h.0 (f, r.why, said_whole (line_of f) old.written mid new b a r.written h.1 h.2, ap (λ (s : Seen). s.asked) h.1 ∙ r.asked)
refused_outcome f name limit result old mid new b a r (inr (inl h)) =
    rw h.0 (f, r.why, said_front (line_of f) old.written mid new b a r.written h.1 h.2 h.3, ap (λ (s : Seen). s.asked) h.1.2 ∙ r.asked)
refused_outcome f name limit result old mid new b a r (inr (inr h)) =
    rw h.0 (inl (record {
      cause = f;
      why = r.why;
      said = cut_short (line_of f) old.written mid new b a r.written h.1 h.2;
      asked = ap (λ (s : Seen). s.asked) h.1.2 ∙ r.asked;
    }))

asked_over : (name : List ℕ) (old mid new : Seen) → AsksOnce name old mid → new.asked ≡ mid.asked → AsksOnce name old new
asked_over name old mid new (inl h) e = inl (e ∙ h)
asked_over name old mid new (inr h) e = inr (e ∙ h)

memory_outcome : (name : List ℕ) (limit : ℕ) (result : Status) (old mid new : Seen) (b a : ℕ) → Interrupted name limit old mid → Finishes (line_of fault.NoMemory) status.NoMemory result mid new b a → Outcome result (Some (Run name limit)) old new b a
memory_outcome name limit result old mid new b a i (inl h) =
    rw h.0 (inr (record {
      middle = mid.written;
      shown = i.shown;
      said = inl (said_whole (line_of fault.NoMemory) mid.written mid new b a refl h.1 h.2);
      asked = asked_over name old mid new i.asked (ap (λ (s : Seen). s.asked) h.1);
    }))
memory_outcome name limit result old mid new b a i (inr (inl h)) =
    rw h.0 (inr (record {
      middle = mid.written;
      shown = i.shown;
      said = inl (said_front (line_of fault.NoMemory) mid.written mid new b a refl h.1 h.2 h.3);
      asked = asked_over name old mid new i.asked (ap (λ (s : Seen). s.asked) h.1.2);
    }))
memory_outcome name limit result old mid new b a i (inr (inr h)) =
    rw h.0 (inr (record {
      middle = mid.written;
      shown = i.shown;
      said = inr (cut_short (line_of fault.NoMemory) mid.written mid new b a refl h.1 h.2);
      asked = asked_over name old mid new i.asked (ap (λ (s : Seen). s.asked) h.1.2);
    }))

-- the line of a fault changes nothing of what is left of the file
faulted : (name : List ℕ) (limit : ℕ) (old mid new : Seen) (b m a : ℕ) → Stopped name limit old mid → b ≤ m → Rose b m → new.left ≡ mid.left → new.asked ≡ mid.asked → SaidInPart (line_of fault.Host) mid.written new.written m a → Faulted name limit old new b a
faulted name limit old mid new b m a s later rose left asked said = record {
  middle = mid.written;
  count = m;
  stopped = subst (λ (l : Option (List ℕ)). IsStopped name limit old mid.written l) (sym left) s.shown;
  later = later;
  rose = rose;
  said = said;
  asked = asked_over name old mid new s.asked asked;
}

host_outcome : (name : List ℕ) (limit : ℕ) (result : Status) (old mid new : Seen) (b m a : ℕ) → Stopped name limit old mid → b ≤ m → Rose b m → Finishes (line_of fault.Host) status.HostFault result mid new m a → Outcome result (Some (Run name limit)) old new b a
host_outcome name limit result old mid new b m a s later rose (inl h) =
    rw h.0 (faulted name limit old mid new b m a s later rose (ap (λ (s : Seen). s.left) h.1) (ap (λ (s : Seen). s.asked) h.1)
    (inl (said_whole (line_of fault.Host) mid.written mid new m a refl h.1 h.2)))
host_outcome name limit result old mid new b m a s later rose (inr (inl h)) =
    rw h.0 (faulted name limit old mid new b m a s later rose (ap (λ (s : Seen). s.left) h.1.2) (ap (λ (s : Seen). s.asked) h.1.2)
    (inl (said_front (line_of fault.Host) mid.written mid new m a refl h.1 h.2 h.3)))
host_outcome name limit result old mid new b m a s later rose (inr (inr h)) =
    rw h.0 (faulted name limit old mid new b m a s later rose (ap (λ (s : Seen). s.left) h.1.2) (ap (λ (s : Seen). s.asked) h.1.2)
    (inr (cut_short (line_of fault.Host) mid.written mid new m a refl h.1 h.2)))

done_outcome : (name : List ℕ) (limit : ℕ) (result : Status) (old mid new : Seen) (b m a : ℕ) → RunShown name limit old mid → m ≡ b → result ≡ status.Done → new ≡ mid → a ≡ m → Outcome result (Some (Run name limit)) old new b a
done_outcome name limit result old mid new b m a shown same is e later =
    rw is (subst (λ (s : Seen). RunShown name limit old s) (sym e) shown, later ∙ same)

counted : (result : Status) (c : Option Command) (old new : Seen) (b m a : ℕ) → m ≡ b → Outcome result c old new m a → Outcome result c old new b a
counted result c old new b m a same h = subst (λ (n : ℕ). Outcome result c old new n a) same h

run_outcome : (r : Result (Unit {0}) CommandFault) (name : List ℕ) (limit : ℕ) (result : Status) (old mid new : Seen) (b m a : ℕ) → RunsDesign r name limit old mid → CauseOf r b m → Settles r result mid new m a → Outcome result (Some (Run name limit)) old new b a
run_outcome (Ok done) name limit result old mid new b m a ran cause h = done_outcome name limit result old mid new b m a ran cause h.0 h.1 h.2
run_outcome (Err fault.Usage) name limit result old mid new b m a ran cause h = absurd ran
run_outcome (Err fault.TooLong) name limit result old mid new b m a ran cause h = counted result (Some (Run name limit)) old new b m a cause (refused_outcome fault.TooLong name limit result old mid new m a ran h)
run_outcome (Err (fault.Design f)) name limit result old mid new b m a ran cause h = counted result (Some (Run name limit)) old new b m a cause (refused_outcome (fault.Design f) name limit result old mid new m a ran h)
run_outcome (Err fault.Host) name limit result old mid new b m a ran cause h = host_outcome name limit result old mid new b m a ran cause.0 cause.1 h
run_outcome (Err fault.NoMemory) name limit result old mid new b m a ran cause h = counted result (Some (Run name limit)) old new b m a cause (memory_outcome name limit result old mid new m a ran h)

none_outcome : (r : Result (Unit {0}) CommandFault) (result : Status) (old mid new : Seen) (b m a : ℕ) → r ≡ Err fault.Usage → mid ≡ old → CauseOf r b m → Settles r result mid new m a → Outcome result None old new b a
none_outcome r result old mid new b m a is e cause h =
    let cause : m ≡ b = subst (λ (x : Result (Unit {0}) CommandFault). CauseOf x b m) is cause in
    let h : Finishes (line_of fault.Usage) status.Usage result mid new m a = subst (λ (x : Result (Unit {0}) CommandFault). Settles x result mid new m a) is h in
    let h : Finishes (line_of fault.Usage) status.Usage result old new m a = subst (λ (s : Seen). Finishes (line_of fault.Usage) status.Usage result s new m a) e h in
    counted result None old new b m a cause (usage_outcome result old new m a h)

pub outcome : (c : Option Command) (r : Result (Unit {0}) CommandFault) (result : Status) (old mid new : Seen) (b m a : ℕ) → Obeys c r old mid → CauseOf r b m → Settles r result mid new m a → Outcome result c old new b a
outcome None r result old mid new b m a obeyed cause h = none_outcome r result old mid new b m a obeyed.0 obeyed.1 cause h
outcome (Some (Run name limit)) r result old mid new b m a obeyed cause h = run_outcome r name limit result old mid new b m a obeyed cause h

-- the count of faults rose by the end, too
said_later : (line : List ℕ) (was now : Written) (m a : ℕ) → SaidInPart line was now m a → m ≤ a
said_later line was now m a (inl (inl h)) = omega (arith, h.1)
said_later line was now m a (inl (inr h)) = h.4
said_later line was now m a (inr h) = omega (arith, h.3)

rose_by : (b m a : ℕ) → Rose b m → m ≤ a → Rose b a
rose_by b m a rose later = omega (arith, rose, later)

rose_after : (name : List ℕ) (limit : ℕ) (old new : Seen) (b a : ℕ) → Faulted name limit old new b a → Rose b a
rose_after name limit old new b a h = rose_by b h.count a h.rose (said_later (line_of fault.Host) h.middle new.written h.count a h.said)

-- Which status comes.

-- what holds of the text of the file holds of the bytes that are told
told : (name : List ℕ) (s : Seen) (P : List ℕ → Type 0) (files : Files) (text : List ℕ) → s.files ≡ Some files → bytes_of name files ≡ Some text → TextHas name s P → P text
told name s P files text is here h =
    let found : IsSomeAnd (bytes_of name files) P = subst (λ (o : Option Files). IfSome o (λ fs. IsSomeAnd (bytes_of name fs) P)) is h in
    subst (λ (o : Option (List ℕ)). IsSomeAnd o P) here found

not_refused : (f : CommandFault) (name : List ℕ) (old : Seen) (files : Files) (text : List ℕ) (d : Design) → old.files ≡ Some files → bytes_of name files ≡ Some text → length text ≤ most_bytes → FirstForm text d → IsRefused f name old → ⊥
not_refused fault.Usage name old files text d is here short form why = why
not_refused fault.TooLong name old files text d is here short form why =
    let long : most_bytes < length text = told name old (λ t. most_bytes < length t) files text is here why in
    omega (arith, long, short)
not_refused (fault.Design f) name old files text d is here short form why =
    (told name old (λ t. (length t ≤ most_bytes) × IsRefusedText t f) files text is here why).1.none d form
not_refused fault.Host name old files text d is here short form why = why
not_refused fault.NoMemory name old files text d is here short form why = why

pub run_is_done : (c : Option Command) (result : Status) (old new : Seen) (b a : ℕ) → Outcome result c old new b a → IsDoneWhereRun c result old b a
run_is_done None status.Done old new b a h = absurd h
run_is_done None status.Refused old new b a h = absurd h
run_is_done None status.Usage old new b a h = inl refl
run_is_done None status.NoMemory old new b a h = inr refl
run_is_done None status.HostFault old new b a h = absurd h
run_is_done (Some (Run name limit)) status.Done old new b a h = λ files text d is here short form calm. inl refl
run_is_done (Some (Run name limit)) status.Refused old new b a h = λ files text d is here short form calm. absurd (not_refused h.0 name old files text d is here short form h.1)
run_is_done (Some (Run name limit)) status.Usage old new b a h = absurd h
run_is_done (Some (Run name limit)) status.NoMemory old new b a h = λ files text d is here short form calm. inr refl
run_is_done (Some (Run name limit)) status.HostFault old new b a h = λ files text d is here short form calm. absurd (calm (rose_after name limit old new b a h))

cannot_be : (name : List ℕ) (old : Seen) (files : Files) (text : List ℕ) → old.files ≡ Some files → bytes_of name files ≡ Some text → (most_bytes < length text) ⊎ CannotRun text → (found : List ℕ) (d : Design) → TextHas name old (λ t. t ≡ found) → length found ≤ most_bytes → FirstForm found d → ⊥
cannot_be name old files text is here (inl long) found d file within form =
    let same : text ≡ found = told name old (λ t. t ≡ found) files text is here file in
    omega (arith, long, within, ap length same)
cannot_be name old files text is here (inr none) found d file within form =
    let same : text ≡ found = told name old (λ t. t ≡ found) files text is here file in
    none d (subst (λ (t : List ℕ). FirstForm t d) (sym same) form)

not_run : (name : List ℕ) (limit : ℕ) (old new : Seen) (files : Files) (text : List ℕ) → old.files ≡ Some files → bytes_of name files ≡ Some text → (most_bytes < length text) ⊎ CannotRun text → RunShown name limit old new → ⊥
not_run name limit old new files text is here why h = cannot_be name old files text is here why h.text h.design h.file h.within h.read

pub refusal_is_said : (c : Option Command) (result : Status) (old new : Seen) (b a : ℕ) → Outcome result c old new b a → IsRefusedWhereNot c result old b a
refusal_is_said None status.Done old new b a h = absurd h
refusal_is_said None status.Refused old new b a h = absurd h
refusal_is_said None status.Usage old new b a h = inl refl
refusal_is_said None status.NoMemory old new b a h = inr refl
refusal_is_said None status.HostFault old new b a h = absurd h
refusal_is_said (Some (Run name limit)) status.Done old new b a h = λ files text is here why calm. absurd (not_run name limit old new files text is here why h.0)
refusal_is_said (Some (Run name limit)) status.Refused old new b a h = λ files text is here why calm. inl refl
refusal_is_said (Some (Run name limit)) status.Usage old new b a h = absurd h
refusal_is_said (Some (Run name limit)) status.NoMemory old new b a h = λ files text is here why calm. inr refl
refusal_is_said (Some (Run name limit)) status.HostFault old new b a h = λ files text is here why calm. absurd (calm (rose_after name limit old new b a h))

-- Where a fault came.

said_on_err : (line : List ℕ) (was now : Written) (m a : ℕ) → SaidInPart line was now m a → now.out ≡ was.out
said_on_err line was now m a (inl (inl h)) = ap (λ (w : Written). w.out) h.0
said_on_err line was now m a (inl (inr h)) = ap (λ (w : Written). w.out) h.2
said_on_err line was now m a (inr h) = ap (λ (w : Written). w.out) h.2

taken_in_part : (name : List ℕ) (old : Seen) (files : Files) (text : List ℕ) (left : Option (List ℕ)) → old.files ≡ Some files → bytes_of name files ≡ Some text → IsReadInPart name old left → IsTakenInPart text left
taken_in_part name old files text left is here (inl none) = inl none
taken_in_part name old files text left is here (inr t) =
    inr (
      t.0,
      t.1,
      t.2
          ∙ (ap (λ (o : Option Files). option_map (drop t.0) (option_and_then (bytes_of name) o)) is
          ∙ ap (λ (o : Option (List ℕ)). option_map (drop t.0) o) here),
    )

stopped_in : (name : List ℕ) (limit : ℕ) (old : Seen) (files : Files) (text : List ℕ) (middle : Written) (left : Option (List ℕ)) → old.files ≡ Some files → bytes_of name files ≡ Some text → (most_bytes < length text) ⊎ CannotRun text → IsStopped name limit old middle left → (middle.out ≡ old.written.out) × IsTakenInPart text left
stopped_in name limit old files text middle left is here why (inl h) = (ap (λ (w : Written). w.out) h.0, taken_in_part name old files text left is here h.1)
stopped_in name limit old files text middle left is here why (inr h) = absurd (cannot_be name old files text is here why h.text h.design h.file h.within h.read)

pub refusal_yields : (c : Option Command) (result : Status) (old new : Seen) (b a : ℕ) → Outcome result c old new b a → YieldsToReading c result old new
refusal_yields None result old new b a h = tt
refusal_yields (Some (Run name limit)) result old new b a h = λ files text is here why yields.
    let h : Faulted name limit old new b a = subst (λ (s : Status). Outcome s (Some (Run name limit)) old new b a) yields h in
    let stopped : (h.middle.out ≡ old.written.out) × IsTakenInPart text new.left = stopped_in name limit old files text h.middle new.left is here why h.stopped in
    (said_on_err (line_of fault.Host) h.middle new.written h.count a h.said ∙ stopped.0, stopped.1)
