-- Events at which no rule is broken, by what stands around them.
use Rattle.std.proofs.Common.{ℕ, List}
use Rattle.vhdl_names_checker.specs.After.{after}
use Rattle.vhdl_names_checker.specs.Around.{Around}
use Rattle.vhdl_names_checker.specs.Faults.{subject}
use Rattle.vhdl_names_checker.specs.Telling.{seen_here}
use Rattle.vhdl_names_laws.proofs.Declares.{objects_known, subtyped_known, type_known}
use Rattle.vhdl_names_laws.proofs.Empty.{Found, and_both, found, there}
use Rattle.vhdl_names_laws.proofs.Foreign.{attribute_known}
use Rattle.vhdl_names_laws.proofs.Heads.{choices_known, scheme_known, subject_known}
use Rattle.vhdl_names_laws.proofs.Instances.{instance_known}
use Rattle.vhdl_names_laws.proofs.Simple.{KnownVariable, assertion_known, assignment_known, concurrent_known, condition_known, jump_known, names_known, variable_known, wait_known}
use Rattle.vhdl_names_laws.specs.PartLaws.{AssertionsAreKnown, AssignmentsAreKnown, AttributesAreKnown, ChoicesAreKnown, ConcurrentAssignmentsAreKnown, ConditionsAreKnown, InstancesAreKnown, JumpsAreKnown, LoopsAreKnown, ObjectsAreKnown, SensitivitiesAreKnown, SubjectsAreKnown, SubjectsHaveTypes, SubtypesAreKnown, TypesAreKnown, VariablesAreKnown, WaitsAreKnown}
use Rattle.vhdl_names_laws.proofs.Whole.{has_meanings}
use Rattle.vhdl_names_laws.specs.Meanings.{HasMeanings}

-- whatever stands here, it means what it tells
pub meanings_here : (text : List ℕ) (a : Around) → HasMeanings text (seen_here text a)
meanings_here text a = has_meanings text (seen_here text a)

-- ---- declarations

pub types_are_known : TypesAreKnown
types_are_known = λ text a d. type_known text a d

pub subtypes_are_known : SubtypesAreKnown
subtypes_are_known = λ text file a d u. subtyped_known text a (meanings_here text a) file d u

pub objects_are_known : ObjectsAreKnown
objects_are_known = λ text file a c names s initial u. objects_known text a (meanings_here text a) file c names s initial u

pub attributes_are_known : AttributesAreKnown
attributes_are_known = λ text file a s u. attribute_known text a (meanings_here text a) file s u

-- ---- sequential statements

pub waits_are_known : WaitsAreKnown
waits_are_known = λ text file a w u. wait_known text a (meanings_here text a) file w u

pub assertions_are_known : AssertionsAreKnown
assertions_are_known = λ text file a x u. assertion_known text a (meanings_here text a) file x u

pub assignments_are_known : AssignmentsAreKnown
assignments_are_known = λ text file a s u. assignment_known text a (meanings_here text a) file s u

pub variables_are_known : VariablesAreKnown
variables_are_known = λ text file a target value u.
    let k : KnownVariable text a target value = variable_known text a (meanings_here text a) file target value u in
    and_both _ _ k.known_target k.known

pub conditions_are_known : ConditionsAreKnown
conditions_are_known = λ text file a e u. condition_known text a (meanings_here text a) file e u

pub subjects_are_known : SubjectsAreKnown
subjects_are_known = λ text file a e u. (subject_known text a (meanings_here text a) file e u).known

pub subjects_have_types : SubjectsHaveTypes
unfolding after subject
subjects_have_types = λ text file a e u. let k = subject_known text a (meanings_here text a) file e u in there _ k.type k.is

pub choices_are_known : ChoicesAreKnown
choices_are_known = λ text file a is_last choices is u.
    let t : Found (subject a.subjects) = found (subject a.subjects) is in choices_known text a (meanings_here text a) file is_last choices t.value t.is u

pub loops_are_known : LoopsAreKnown
loops_are_known = λ text file a label s u. scheme_known text a (meanings_here text a) file label s u

pub jumps_are_known : JumpsAreKnown
jumps_are_known = λ text file a j u. jump_known text a (meanings_here text a) file j u

-- ---- concurrent statements

pub sensitivities_are_known : SensitivitiesAreKnown
sensitivities_are_known = λ text file a names u. names_known text a (meanings_here text a) file names u

pub concurrent_assignments_are_known : ConcurrentAssignmentsAreKnown
concurrent_assignments_are_known = λ text file a s u. concurrent_known text a (meanings_here text a) file s u

pub instances_are_known : InstancesAreKnown
instances_are_known = λ text file a i u. instance_known text a (meanings_here text a) file i u
