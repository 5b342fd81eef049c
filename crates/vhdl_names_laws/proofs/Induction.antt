-- Every sequential statement means something wherever no rule is broken along it: by induction on the cycle of statements.
use Rattle.std.proofs.Common.{Bool, true, false, Option, List, [], ◌∷◌, map, sym, ap, subst}
use Rattle.vhdl_names_laws.specs.KnownUnits.{known_arm, known_body, known_case, known_elsif, known_if, known_loop, known_statement}
use Rattle.vhdl_names.specs.Parts.{Part, with_last}
use Rattle.vhdl_names.specs.Statements.{Labelled, arm_step, body_step, case_step, elsif_step, if_step, loop_step, of_arm, of_body, of_case, of_elsif, of_if, of_loop, of_statement, statement_step}
use Rattle.vhdl_names_laws.proofs.KnowsUnits.{Each, Holds, HoldsInCase}
use Rattle.vhdl_names_laws.proofs.Sequential.{arm_holds, assertion_holds, assignment_holds, case_body_holds, case_holds, elsif_holds, exit_holds, if_body_holds, if_holds, loop_body_holds, loop_holds, next_holds, null_holds, report_holds, statement_holds, variable_holds, wait_holds}
use Rattle.vhdl_tokens.specs.declared.token.Token.{Token}
use Rattle.vhdl_tree.specs.declared.statements.Arm.{Arm, roll-Arm}
use Rattle.vhdl_tree.specs.declared.statements.Body.{Body, map-Body, roll-Body}
use Rattle.vhdl_tree.specs.declared.statements.Body.TheOpen.{Arm-F, Body-F, Case-F, Elsif-F, If-F, Loop-F, Statement-F}
use Rattle.vhdl_tree.specs.declared.statements.Body.TheFolds.{fold-roll-Arm, fold-roll-Body, fold-roll-Case, fold-roll-Elsif, fold-roll-If, fold-roll-Loop, fold-roll-Statement, ind-Statement}
use Rattle.vhdl_tree.specs.declared.statements.Case.{Case, roll-Case}
use Rattle.vhdl_tree.specs.declared.statements.Elsif.{Elsif, roll-Elsif}
use Rattle.vhdl_tree.specs.declared.statements.If.{If, roll-If}
use Rattle.vhdl_tree.specs.declared.statements.Loop.{Loop, roll-Loop}
use Rattle.vhdl_tree.specs.declared.statements.Statement.{Statement, roll-Statement}
use Rattle.vhdl_units.specs.declared.statements.ResolvedArm.{ResolvedArm}
use Rattle.vhdl_units.specs.declared.statements.ResolvedBody.{ResolvedBody}
use Rattle.vhdl_units.specs.declared.statements.ResolvedCase.{ResolvedCase}
use Rattle.vhdl_units.specs.declared.statements.ResolvedElsif.{ResolvedElsif}
use Rattle.vhdl_units.specs.declared.statements.ResolvedIf.{ResolvedIf}
use Rattle.vhdl_units.specs.declared.statements.ResolvedLoop.{ResolvedLoop}
use Rattle.vhdl_units.specs.declared.statements.ResolvedStatement.{ResolvedStatement}

-- ---- the arms of a case statement, of which one is the last

each_last : {X : Type 0} (P : Part X → Type 0) (arms : List (Bool → Part X)) → Each (λ arm. (is_last : Bool) → P (arm is_last)) arms → Each P (with_last arms)
unfolding Each with_last
each_last P [] hs = tt
each_last P (arm ∷ []) hs = (hs.0 true, tt)
each_last P (arm ∷ next ∷ arms) hs = (hs.0 false, each_last P (next ∷ arms) hs.1)

each_of : {A B : Type 0} (P : B → Type 0) (f : A → B) (xs : List A) → Each (λ x. P (f x)) xs → Each P (map f xs)
unfolding Each
each_of P f [] hs = tt
each_of P f (x ∷ xs) hs = (hs.0, each_of P f xs hs.1)

each_beside : {A : Type 0} (P : A → Type 0) (es : List ((x : A) × P x)) → Each P (map (λ e. e.0) es)
unfolding Each
each_beside P [] = tt
each_beside P (e ∷ es) = (e.1, each_beside P es)

abbrev OfBody : Body → Type 0
OfBody s = (label : Option Token) → Holds known_body (of_body s label)

abbrev OfArm : Arm → Type 0
OfArm s = (is_last : Bool) → HoldsInCase known_arm (of_arm s is_last)

abbrev OfCase : Case → Type 0
OfCase s = (label : Option Token) → Holds known_case (of_case s label)

abbrev OfElsif : Elsif → Type 0
OfElsif s = Holds known_elsif (of_elsif s)

abbrev OfIf : If → Type 0
OfIf s = (label : Option Token) → Holds known_if (of_if s label)

abbrev OfLoop : Loop → Type 0
OfLoop s = (label : Option Token) → Holds known_loop (of_loop s label)

abbrev OfStatement : Statement → Type 0
OfStatement s = Holds known_statement (of_statement s)

-- ---- one level of each

if_level : (x : If-F Body Arm Case Elsif If Loop Statement) → Each OfStatement x.statements → Each OfElsif x.elsifs → Each OfStatement x.otherwise → OfIf (roll-If x)
unfolding of_if of_statement of_elsif
if_level x ss es os label = let rolls = ap (λ f. f label) (fold-roll-If (Labelled ResolvedBody) (Bool → Part ResolvedArm) (Labelled ResolvedCase) (Part ResolvedElsif) (Labelled ResolvedIf) (Labelled ResolvedLoop) (Part ResolvedStatement) body_step arm_step case_step elsif_step if_step loop_step statement_step x) in
    subst (Holds known_if) (sym rolls) (if_holds (record { condition = x.condition; statements = map of_statement x.statements; elsifs = map of_elsif x.elsifs; otherwise = map of_statement x.otherwise; end_name = x.end_name }) label
    (each_of (Holds known_statement) of_statement x.statements ss) (each_of (Holds known_elsif) of_elsif x.elsifs es) (each_of (Holds known_statement) of_statement x.otherwise os))

elsif_level : (x : Elsif-F Body Arm Case Elsif If Loop Statement) → Each OfStatement x.statements → OfElsif (roll-Elsif x)
unfolding of_elsif of_statement
elsif_level x ss = let rolls = fold-roll-Elsif (Labelled ResolvedBody) (Bool → Part ResolvedArm) (Labelled ResolvedCase) (Part ResolvedElsif) (Labelled ResolvedIf) (Labelled ResolvedLoop) (Part ResolvedStatement) body_step arm_step case_step elsif_step if_step loop_step statement_step x in
    subst (Holds known_elsif) (sym rolls) (elsif_holds (record { condition = x.condition; statements = map of_statement x.statements }) (each_of (Holds known_statement) of_statement x.statements ss))

loop_level : (x : Loop-F Body Arm Case Elsif If Loop Statement) → Each OfStatement x.statements → OfLoop (roll-Loop x)
unfolding of_loop of_statement
loop_level x ss label = let rolls = ap (λ f. f label) (fold-roll-Loop (Labelled ResolvedBody) (Bool → Part ResolvedArm) (Labelled ResolvedCase) (Part ResolvedElsif) (Labelled ResolvedIf) (Labelled ResolvedLoop) (Part ResolvedStatement) body_step arm_step case_step elsif_step if_step loop_step statement_step x) in
    subst (Holds known_loop) (sym rolls) (loop_holds (record { scheme = x.scheme; statements = map of_statement x.statements; end_name = x.end_name }) label (each_of (Holds known_statement) of_statement x.statements ss))

arm_level : (x : Arm-F Body Arm Case Elsif If Loop Statement) → Each OfStatement x.statements → OfArm (roll-Arm x)
unfolding of_arm of_statement
arm_level x ss is_last = let rolls = ap (λ f. f is_last) (fold-roll-Arm (Labelled ResolvedBody) (Bool → Part ResolvedArm) (Labelled ResolvedCase) (Part ResolvedElsif) (Labelled ResolvedIf) (Labelled ResolvedLoop) (Part ResolvedStatement) body_step arm_step case_step elsif_step if_step loop_step statement_step x) in
    subst (HoldsInCase known_arm) (sym rolls) (arm_holds (record { choices = x.choices; statements = map of_statement x.statements }) is_last (each_of (Holds known_statement) of_statement x.statements ss))

case_level : (x : Case-F Body Arm Case Elsif If Loop Statement) → Each OfArm x.arms → OfCase (roll-Case x)
unfolding of_case of_arm
case_level x arms label = let rolls = ap (λ f. f label) (fold-roll-Case (Labelled ResolvedBody) (Bool → Part ResolvedArm) (Labelled ResolvedCase) (Part ResolvedElsif) (Labelled ResolvedIf) (Labelled ResolvedLoop) (Part ResolvedStatement) body_step arm_step case_step elsif_step if_step loop_step statement_step x) in
    subst (Holds known_case) (sym rolls) (case_holds (record { subject = x.subject; arms = map of_arm x.arms; end_name = x.end_name }) label
    (each_last (HoldsInCase known_arm) (map of_arm x.arms) (each_of (λ arm. (is_last : Bool) → HoldsInCase known_arm (arm is_last)) of_arm x.arms arms)))

statement_level : (x : Statement-F Body Arm Case Elsif If Loop Statement) → OfBody x.body → OfStatement (roll-Statement x)
unfolding of_body of_statement
statement_level x h = let rolls = fold-roll-Statement (Labelled ResolvedBody) (Bool → Part ResolvedArm) (Labelled ResolvedCase) (Part ResolvedElsif) (Labelled ResolvedIf) (Labelled ResolvedLoop) (Part ResolvedStatement) body_step arm_step case_step elsif_step if_step loop_step statement_step x in
    subst (Holds known_statement) (sym rolls) (statement_holds (record { line = x.line; label = x.label; body = of_body x.body }) (h x.label))

-- what the statements that a body has in it have to be
abbrev HasParts : Body-F Body Arm Case Elsif If Loop Statement → Type 0
HasParts (Body-F.If s) = OfIf s
HasParts (Body-F.Case s) = OfCase s
HasParts (Body-F.Loop s) = OfLoop s
HasParts _ = Unit {0}

parts_hold : (x : Body-F Body Arm Case Elsif If Loop Statement) → HasParts x → (label : Option Token)
    → Holds known_body (body_step (map-Body Body Arm Case Elsif If Loop Statement (Labelled ResolvedBody) (Bool → Part ResolvedArm) (Labelled ResolvedCase) (Part ResolvedElsif) (Labelled ResolvedIf) (Labelled ResolvedLoop) (Part ResolvedStatement) of_body of_arm of_case of_elsif of_if of_loop of_statement x) label)
unfolding body_step
parts_hold (Body-F.Wait s) h label = wait_holds s
parts_hold (Body-F.Assert s) h label = assertion_holds s
parts_hold (Body-F.Report s) h label = report_holds s
parts_hold (Body-F.Signal s) h label = assignment_holds s
parts_hold (Body-F.Variable s) h label = variable_holds s
parts_hold (Body-F.If s) h label = if_body_holds (of_if s label) (h label)
parts_hold (Body-F.Case s) h label = case_body_holds (of_case s label) (h label)
parts_hold (Body-F.Loop s) h label = loop_body_holds (of_loop s label) (h label)
parts_hold (Body-F.Next j) h label = next_holds j
parts_hold (Body-F.Exit j) h label = exit_holds j
parts_hold Body-F.Null h label = null_holds

body_level : (x : Body-F Body Arm Case Elsif If Loop Statement) → HasParts x → OfBody (roll-Body x)
unfolding of_body of_arm of_case of_elsif of_if of_loop of_statement
body_level x h label = let rolls = ap (λ f. f label) (fold-roll-Body (Labelled ResolvedBody) (Bool → Part ResolvedArm) (Labelled ResolvedCase) (Part ResolvedElsif) (Labelled ResolvedIf) (Labelled ResolvedLoop) (Part ResolvedStatement) body_step arm_step case_step elsif_step if_step loop_step statement_step x) in subst (Holds known_body) (sym rolls) (parts_hold x h label)

has_parts : {B A C E I L S : Type 0} (y : Body-F B A C E I L S) (b : B → Body) (a : A → Arm) (c : C → Case) (e : E → Elsif) (i : I → If) (l : L → Loop) (s : S → Statement)
    → ((x : C) → OfCase (c x)) → ((x : I) → OfIf (i x)) → ((x : L) → OfLoop (l x)) → HasParts (map-Body B A C E I L S Body Arm Case Elsif If Loop Statement b a c e i l s y)
has_parts (Body-F.If x) b a c e i l s hc hi hl = hi x
has_parts (Body-F.Case x) b a c e i l s hc hi hl = hc x
has_parts (Body-F.Loop x) b a c e i l s hc hi hl = hl x
has_parts (Body-F.Wait x) b a c e i l s hc hi hl = tt
has_parts (Body-F.Assert x) b a c e i l s hc hi hl = tt
has_parts (Body-F.Report x) b a c e i l s hc hi hl = tt
has_parts (Body-F.Signal x) b a c e i l s hc hi hl = tt
has_parts (Body-F.Variable x) b a c e i l s hc hi hl = tt
has_parts (Body-F.Next x) b a c e i l s hc hi hl = tt
has_parts (Body-F.Exit x) b a c e i l s hc hi hl = tt
has_parts Body-F.Null b a c e i l s hc hi hl = tt

-- ---- all levels

pub statement_known : (s : Statement) → OfStatement s
statement_known = ind-Statement OfBody OfArm OfCase OfElsif OfIf OfLoop OfStatement
    (λ x y is. body_level x (subst HasParts is (has_parts y (λ e. e.0) (λ e. e.0) (λ e. e.0) (λ e. e.0) (λ e. e.0) (λ e. e.0) (λ e. e.0) (λ e. e.1) (λ e. e.1) (λ e. e.1))))
    (λ x y is. arm_level x (subst (λ (z : Arm-F Body Arm Case Elsif If Loop Statement). Each OfStatement z.statements) is (each_beside OfStatement y.statements)))
    (λ x y is. case_level x (subst (λ (z : Case-F Body Arm Case Elsif If Loop Statement). Each OfArm z.arms) is (each_beside OfArm y.arms)))
    (λ x y is. elsif_level x (subst (λ (z : Elsif-F Body Arm Case Elsif If Loop Statement). Each OfStatement z.statements) is (each_beside OfStatement y.statements)))
    (λ x y is. if_level x (subst (λ (z : If-F Body Arm Case Elsif If Loop Statement). Each OfStatement z.statements) is (each_beside OfStatement y.statements))
    (subst (λ (z : If-F Body Arm Case Elsif If Loop Statement). Each OfElsif z.elsifs) is (each_beside OfElsif y.elsifs)) (subst (λ (z : If-F Body Arm Case Elsif If Loop Statement). Each OfStatement z.otherwise) is (each_beside OfStatement y.otherwise)))
    (λ x y is. loop_level x (subst (λ (z : Loop-F Body Arm Case Elsif If Loop Statement). Each OfStatement z.statements) is (each_beside OfStatement y.statements)))
    (λ x y is. statement_level x (subst (λ (z : Statement-F Body Arm Case Elsif If Loop Statement). OfBody z.body) is y.body.1))
