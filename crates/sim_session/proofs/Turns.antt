use Rattle.std.proofs.Common.{◌≡◌, ℕ, List, [], ◌∷◌, ◌++◌, Option, Some, None, Result, Ok, Err, IsErrAnd, refl, sym, ap, subst, ◌∙◌, ◌⊎◌, inl, inr, append-nil, append_assoc}
use Rattle.sim_design.specs.declared.Design.{Design}
use Rattle.sim_journal.specs.declared.Entry.{Entry}
use Rattle.sim_journal.specs.declared.Entry.TheVariants as entries
use Rattle.sim_journal.specs.declared.End.{End}
use Rattle.sim_journal.specs.Print.{Print, line}
use Rattle.vhpi_kernel.specs.declared.Plan.{Plan}
use Rattle.vhpi_kernel.specs.Simulation.{Simulation, first_simulation, left_by, Extends, EndReached}
use Rattle.vhpi_kernel.proofs.Moves.{extends_same, extends_more, section_extends, end_extends, run_of, part_of}
use Rattle.vhpi_kernel.proofs.Falls.{section_falls}
use Rattle.sim_host.specs.Host.{Seen, wrote, WroteFront}
use Rattle.sim_host.specs.declared.channels.Channel.TheVariants as channel
use Rattle.sim_host.proofs.Growth.{wrote-wrote, wrote-nothing, front_of}
use Rattle.vhpi_kernel.specs.declared.Step.{Step}
use Rattle.vhpi_kernel.specs.declared.Step.TheVariants as steps
use Rattle.vhpi_kernel.specs.Advance.{Advances, HasEnded}
use Rattle.sim_session.specs.Turn.{IsAfter, Turned, TurnCut, Turns, AllWritten, PartWritten, RunsFrom}
use Rattle.sim_session.specs.declared.fault.SessionFault.{SessionFault}
use Rattle.sim_session.specs.declared.fault.SessionFault.TheVariants as fault
use Rattle.sim_session.specs.Faults.{fault_of_host}
use Rattle.sim_session.specs.Session.{Runs, FrontWritten}
use Rattle.sim_host.specs.declared.errors.HostError.{HostError}
use Rattle.sim_host.specs.declared.errors.HostError.TheVariants as host
use Rattle.sim_session.specs.Text.{FirstForm, IsRead}
use Rattle.std.proofs.lemmas.Result.{err_from_is_err_and}

-- all entries of a run so far were written
pub record SoFar (design : Design) (plan : Plan) (simulation : Simulation) (was now : Seen) : Type 0 where
  pub entries : List Entry
  pub extends : Extends (first_simulation design plan) entries simulation
  pub same : simulation.design ≡ design
  pub drained : simulation.journal ≡ []
  pub written : now ≡ wrote channel.Out (Print design entries) was

-- the lines of two lists of entries
pub Print-append : (d : Design) (xs ys : List Entry) → Print d (xs ++ ys) ≡ Print d xs ++ Print d ys
Print-append d [] ys = refl
Print-append d (x ∷ xs) ys = ap (λ (l : List ℕ). line d x ++ l) (Print-append d xs ys) ∙ sym (append_assoc (line d x) (Print d xs) (Print d ys))

-- what a step of the kernel added
record Advanced (step : Step) (old mid : Simulation) : Type 0 where
  added : List Entry
  extends : Extends old added mid
  journal : mid.journal ≡ old.journal ++ added
  design : mid.design ≡ old.design
  after : IsAfter step old mid

ended_before : (old mid : Simulation) (end : End) → HasEnded old mid end → Advanced (steps.Ended end) old mid
ended_before old mid end h = record {
  added = [];
  extends = subst (λ (w : Simulation). Extends old [] w) (sym h.same) (extends_same old);
  journal = ap (λ (w : Simulation). w.journal) h.same ∙ sym (append-nil old.journal);
  design = ap (λ (w : Simulation). w.design) h.same;
  after = ap (λ (w : Simulation). w.ended) h.same ∙ h.before;
}

ended_now : (old mid : Simulation) (end : End) → EndReached old mid end → Advanced (steps.Ended end) old mid
ended_now old mid end h = record {
  added = entries.Ended end ∷ [];
  extends = end_extends old mid end h;
  journal = ap (λ (w : Simulation). w.journal) h.after;
  design = ap (λ (w : Simulation). w.design) h.after;
  after = ap (λ (w : Simulation). w.ended) h.after;
}

ended : (old mid : Simulation) (end : End) → EndReached old mid end ⊎ HasEnded old mid end → Advanced (steps.Ended end) old mid
ended old mid end (inl h) = ended_now old mid end h
ended old mid end (inr h) = ended_before old mid end h

advanced : (step : Step) (old mid : Simulation) → Advances step old mid → Advanced step old mid
advanced steps.CycleEnd old mid h = record {
  added = h.added;
  extends = section_extends old mid h;
  journal = ap (λ (w : Simulation). w.journal) h.after;
  design = ap (λ (w : Simulation). w.design) h.after;
  after = section_falls old mid h;
}
advanced (steps.Ended end) old mid h = ended old mid end h

drained_after : (step : Step) (old mid : Simulation) → IsAfter step old mid → IsAfter step old (record mid { journal = [] })
drained_after steps.CycleEnd old mid h = h
drained_after (steps.Ended end) old mid h = h

-- the entries that were taken are those that were added
added_is : (step : Step) (old mid : Simulation) (h : Advanced step old mid) (taken : List Entry) → old.journal ≡ [] → taken ≡ mid.journal → taken ≡ h.added
added_is step old mid h taken empty is = is ∙ (h.journal ∙ ap (λ (l : List Entry). l ++ h.added) empty)

-- the lines were printed with the design of the later simulation
printed_is : (step : Step) (old mid : Simulation) (h : Advanced step old mid) (taken : List Entry) (text : List ℕ) (d : Design) → old.journal ≡ [] → taken ≡ mid.journal → d ≡ mid.design → text ≡ Print d taken → text ≡ Print old.design h.added
printed_is step old mid h taken text d empty is same printed =
    printed ∙ (ap (λ (e : Design). Print e taken) (same ∙ h.design) ∙ ap (Print old.design) (added_is step old mid h taken empty is))

-- what is still to come doesn't depend on the journal
left_after : (o : Option End) (w : Simulation) (es : List Entry) (end : End) → left_by o (record w { journal = [] }) es end → left_by o w es end
left_after (Some e) w es end h = h
left_after None w es end h = h

drained_extends : (old mid : Simulation) (added : List Entry) → Extends old added mid → Extends old added (record mid { journal = [] })
drained_extends old mid added h = λ es end left. h es end (left_after mid.ended mid es end left)

-- a section, and its lines
pub turned : (step : Step) (old mid new : Simulation) (taken : List Entry) (text : List ℕ) (d : Design) (was now : Seen) → Advances step old mid → old.journal ≡ [] → taken ≡ mid.journal → new ≡ record mid { journal = [] } → d ≡ new.design → text ≡ Print d taken → now ≡ wrote channel.Out text was → Turned step old new was now
turned step old mid new taken text d was now h empty is drained same printed written =
    let a : Advanced step old mid = advanced step old mid h in
    let whole : new.design ≡ mid.design = ap (λ (w : Simulation). w.design) drained in
    record {
      added = a.added;
      extends = subst (λ (w : Simulation). Extends old a.added w) (sym drained) (drained_extends old mid a.added a.extends);
      design = whole ∙ a.design;
      drained = ap (λ (w : Simulation). w.journal) drained;
      after = subst (λ (w : Simulation). IsAfter step old w) (sym drained) (drained_after step old mid a.after);
      written = written ∙ ap (λ (l : List ℕ). wrote channel.Out l was) (printed_is step old mid a taken text d empty is (same ∙ whole) printed);
    }

-- a section, and a front of its lines
pub turn_cut : (step : Step) (old mid new : Simulation) (taken : List Entry) (text : List ℕ) (d : Design) (was now : Seen) → Advances step old mid → old.journal ≡ [] → taken ≡ mid.journal → new ≡ record mid { journal = [] } → d ≡ new.design → text ≡ Print d taken → WroteFront channel.Out text was now → TurnCut old was now
turn_cut step old mid new taken text d was now h empty is drained same printed written =
    let a : Advanced step old mid = advanced step old mid h in
    let whole : new.design ≡ mid.design = ap (λ (w : Simulation). w.design) drained in
    let parts : (front rest : List ℕ) × (text ≡ front ++ rest) × (now ≡ wrote channel.Out front was) = front_of channel.Out text was now written in
    record {
      added = a.added;
      later = mid;
      extends = a.extends;
      front = parts.0;
      rest = parts.1;
      lines = sym (printed_is step old mid a taken text d empty is (same ∙ whole) printed) ∙ parts.2;
      written = parts.3;
    }

-- nothing was written in this section
pub nothing_cut : (old : Simulation) (was now : Seen) → now ≡ was → TurnCut old was now
nothing_cut old was now same = record {
  added = [];
  later = old;
  extends = extends_same old;
  front = [];
  rest = [];
  lines = refl;
  written = same ∙ sym (wrote-nothing channel.Out was);
}

-- a run begins
pub begins : (old : Simulation) (was : Seen) → old ≡ first_simulation old.design old.plan → SoFar old.design old.plan old was was
begins old was is = record {
  entries = [];
  extends = subst (λ (w : Simulation). Extends (first_simulation old.design old.plan) [] w) (sym is) (extends_same (first_simulation old.design old.plan));
  same = refl;
  drained = ap (λ (w : Simulation). w.journal) is;
  written = sym (wrote-nothing channel.Out was);
}

-- and goes on with a section
pub goes_on : (d : Design) (plan : Plan) (step : Step) (old new : Simulation) (first was now : Seen) → SoFar d plan old first was → Turned step old new was now → SoFar d plan new first now
goes_on d plan step old new first was now s t = record {
  entries = s.entries ++ t.added;
  extends = extends_more (first_simulation d plan) old new s.entries t.added s.extends t.extends;
  same = t.design ∙ s.same;
  drained = t.drained;
  written =
      t.written
      ∙ (ap (wrote channel.Out (Print old.design t.added)) s.written
      ∙ (wrote-wrote channel.Out (Print d s.entries) (Print old.design t.added) first
      ∙ ap (λ (l : List ℕ). wrote channel.Out l first)
      (ap (λ (e : Design). Print d s.entries ++ Print e t.added) s.same ∙ sym (Print-append d s.entries t.added))));
}

-- up to its end
pub all_written : (d : Design) (plan : Plan) (w : Simulation) (end : End) (first now : Seen) → SoFar d plan w first now → w.ended ≡ Some end → AllWritten d plan end first now
all_written d plan w end first now s is = record { entries = s.entries; run = run_of d plan s.entries w end s.extends is; written = s.written }

-- or is interrupted
pub part_written : (d : Design) (plan : Plan) (old : Simulation) (first was now : Seen) → SoFar d plan old first was → TurnCut old was now → PartWritten d plan first now
part_written d plan old first was now s t = record {
  entries = s.entries ++ t.added;
  part = part_of d plan (s.entries ++ t.added) t.later (extends_more (first_simulation d plan) old t.later s.entries t.added s.extends t.extends);
  front = Print d s.entries ++ t.front;
  rest = t.rest;
  lines =
      Print-append d s.entries t.added
      ∙ (ap (λ (e : Design). Print d s.entries ++ Print e t.added) (sym s.same)
      ∙ (ap (λ (l : List ℕ). Print d s.entries ++ l) t.lines ∙ sym (append_assoc (Print d s.entries) t.front t.rest)));
  written = t.written ∙ (ap (wrote channel.Out t.front) s.written ∙ wrote-wrote channel.Out (Print d s.entries) t.front first);
}

-- want of memory, or a failure of the host, cuts the section
pub turns_memory : (r : Result Step SessionFault) (old new : Simulation) (was now : Seen) → IsErrAnd r (λ f. f ≡ fault.NoMemory) → TurnCut old was now → Turns r old new was now
turns_memory r old new was now err cut =
    let p = err_from_is_err_and r err in
    rw (p.1, p.2) cut

turns_host_by : (e : HostError) (old new : Simulation) (was now : Seen) → TurnCut old was now → Turns (Err (fault_of_host e)) old new was now
turns_host_by host.Fault old new was now cut = cut
turns_host_by host.NoMemory old new was now cut = cut

pub turns_host : (r : Result Step SessionFault) (e : HostError) (old new : Simulation) (was now : Seen) → IsErrAnd r (λ f. f ≡ fault_of_host e) → TurnCut old was now → Turns r old new was now
turns_host r e old new was now err cut =
    let p = err_from_is_err_and r err in
    rw (p.1, p.2) (turns_host_by e old new was now cut)

-- and cuts the run
pub runs_cut : (f : SessionFault) (d : Design) (plan : Plan) (old new : Simulation) (first was now : Seen) → SoFar d plan old first was → Turns (Err f) old new was now → RunsFrom (Err f) d plan first now
runs_cut (fault.Design f) d plan old new first was now s cut = cut
runs_cut fault.Host d plan old new first was now s cut = part_written d plan old first was now s cut
runs_cut fault.NoMemory d plan old new first was now s cut = part_written d plan old first was now s cut

-- what a run of the text's design comes to is what the session comes to
front_written : (text : List ℕ) (limit : ℕ) (d : Design) (was now : Seen) → FirstForm text d → PartWritten d (record { limit = limit }) was now → FrontWritten text limit was now
front_written text limit d was now form p = record { design = d; read = form; entries = p.entries; part = p.part; front = p.front; rest = p.rest; lines = p.lines; written = p.written }

pub session_runs : (r : Result End SessionFault) (text : List ℕ) (limit : ℕ) (d : Design) (was now : Seen) → FirstForm text d → RunsFrom r d (record { limit = limit }) was now → Runs r text limit was now
session_runs (Ok end) text limit d was now form h = record { design = d; read = form; entries = h.entries; run = h.run; written = h.written }
session_runs (Err (fault.Design f)) text limit d was now form h = absurd h
session_runs (Err fault.Host) text limit d was now form h = front_written text limit d was now form h
session_runs (Err fault.NoMemory) text limit d was now form h = inr (front_written text limit d was now form h)

-- a text that isn't read is refused, and nothing is written
pub refuses_as : (e : SessionFault) (text : List ℕ) (limit : ℕ) (was : Seen) → IsRead (Err e) text → Runs (Err e) text limit was was
refuses_as (fault.Design f) text limit was h = (h, refl)
refuses_as fault.Host text limit was h = absurd h
refuses_as fault.NoMemory text limit was h = inl refl

pub session_refuses : (r : Result End SessionFault) (e : SessionFault) (text : List ℕ) (limit : ℕ) (was : Seen) → IsErrAnd r (λ f. f ≡ e) → IsRead (Err e) text → Runs r text limit was was
session_refuses r e text limit was err h =
    let p = err_from_is_err_and r err in
    rw (p.1, p.2) (refuses_as e text limit was h)
