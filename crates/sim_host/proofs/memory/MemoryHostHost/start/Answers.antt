use Rattle.std.proofs.Common.{◌≡◌, ap, sym, ◌∙◌, rules, inr, Some}
use Rattle.sim_host.specs.Host.{bytes_of}
use Rattle.sim_host.specs.Memory.{Memory, counted_up, entries, text_at}
use Rattle.sim_host.proofs.FilesHeld.{faults_rightly, found_at, found_not, starts_held, succeeds_rightly}
use Rattle.sim_host.proofs.memory.MemoryHostHost.start.Goals as goal

pub returns-in-Some-clause-ok : goal.returns-in-Some-clause-ok
returns-in-Some-clause-ok c =
    let held = found_at c.args.name.now c.self.inside.files.items c.in-Some.file _ (rw c.deref.ensures.value at c.place_of.ensures) c.in-Some.is in
    starts_held c.args.name.now (text_at c.in-Some.file c.self.inside.files.items) c.args.self.now _ c.push.new.self.items (counted_up c.args.self.now.calls) (c.self.view_is ∙ c.count_call-fails.ensures.counted) held.1 (search rules)

pub returns-in-Some-clause-found : goal.returns-in-Some-clause-found
returns-in-Some-clause-found c =
    let files : c.args.self.now.files ≡ entries c.self.inside.files.items = sym (ap (λ (m : Memory). m.files) (c.self.view_is ∙ c.count_call-fails.ensures.counted)) in
    let held = found_at c.args.name.now c.self.inside.files.items c.in-Some.file _ (rw c.deref.ensures.value at c.place_of.ensures) c.in-Some.is in
    let there : bytes_of c.args.name.now c.args.self.now.files ≡ Some (text_at c.in-Some.file c.self.inside.files.items) = rw files held.1 in
    rw there tt

pub returns-in-Some-clause-fault : goal.returns-in-Some-clause-fault
returns-in-Some-clause-fault c =
    let files : c.args.self.now.files ≡ entries c.self.inside.files.items = sym (ap (λ (m : Memory). m.files) (c.self.view_is ∙ c.count_call-fails.ensures.counted)) in
    let held = found_at c.args.name.now c.self.inside.files.items c.in-Some.file _ (rw c.deref.ensures.value at c.place_of.ensures) c.in-Some.is in
    let there : bytes_of c.args.name.now c.args.self.now.files ≡ Some (text_at c.in-Some.file c.self.inside.files.items) = rw files held.1 in
    succeeds_rightly tt c.count_call-fails.result _ (text_at c.in-Some.file c.self.inside.files.items) c.count_call-fails.ensures.listed.1 c.if-fails.false there

pub returns-in-None-clause-fault : goal.returns-in-None-clause-fault
returns-in-None-clause-fault c =
    let files : c.args.self.now.files ≡ entries c.self.inside.files.items = sym (ap (λ (m : Memory). m.files) (c.self.view_is ∙ c.count_call-fails.ensures.counted)) in
    faults_rightly _ _ (inr (rw files (found_not c.args.name.now c.self.inside.files.items _ (rw c.deref.ensures.value at c.place_of.ensures) c.in-None.is)))
