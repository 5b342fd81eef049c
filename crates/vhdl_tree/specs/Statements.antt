-- Sequential statements, one relation a production (IEEE Std 1076-2008, clause 10).
use Rattle.std.specs.Prelude.{ℕ, zero, suc, Option, Some, None, List, [], ◌∷◌}
use Rattle.vhdl_tokens.specs.declared.token.Kind.TheVariants as kind
use Rattle.vhdl_tokens.specs.declared.token.Token.{Token}
use Rattle.vhdl_tokens.specs.declared.token.Delimiter.TheVariants as delimiter
use Rattle.vhdl_tokens.specs.declared.reserved.Reserved.{Reserved}
use Rattle.vhdl_tokens.specs.declared.reserved.Reserved.TheVariants as reserved
use Rattle.vhdl_tree.specs.declared.declarations.Bounds.{Bounds}
use Rattle.vhdl_tree.specs.declared.expressions.Expr.{Expr}
use Rattle.vhdl_tree.specs.declared.expressions.Name.{Name}
use Rattle.vhdl_tree.specs.declared.expressions.Choice.{Choice}
use Rattle.vhdl_tree.specs.declared.statements.Statement.{Statement, roll-Statement}
use Rattle.vhdl_tree.specs.declared.statements.Body.{Body}
use Rattle.vhdl_tree.specs.declared.statements.Body.TheVariants as body
use Rattle.vhdl_tree.specs.declared.statements.Wait.{Wait}
use Rattle.vhdl_tree.specs.declared.statements.Assertion.{Assertion}
use Rattle.vhdl_tree.specs.declared.statements.Report.{Report}
use Rattle.vhdl_tree.specs.declared.statements.Delay.{Delay}
use Rattle.vhdl_tree.specs.declared.statements.Delay.TheVariants as delay
use Rattle.vhdl_tree.specs.declared.statements.Element.{Element}
use Rattle.vhdl_tree.specs.declared.statements.SignalAssignment.{SignalAssignment}
use Rattle.vhdl_tree.specs.declared.statements.VariableAssignment.{VariableAssignment}
use Rattle.vhdl_tree.specs.declared.statements.If.{If, roll-If}
use Rattle.vhdl_tree.specs.declared.statements.Elsif.{Elsif, roll-Elsif}
use Rattle.vhdl_tree.specs.declared.statements.Case.{Case, roll-Case}
use Rattle.vhdl_tree.specs.declared.statements.Arm.{Arm, roll-Arm}
use Rattle.vhdl_tree.specs.declared.statements.Scheme.{Scheme}
use Rattle.vhdl_tree.specs.declared.statements.Scheme.TheVariants as scheme
use Rattle.vhdl_tree.specs.declared.statements.Loop.{Loop, roll-Loop}
use Rattle.vhdl_tree.specs.declared.statements.Jump.{Jump}
use Rattle.vhdl_tree.specs.Words.{Span, tok, id, word, mark, line_of}
use Rattle.vhdl_tree.specs.Lists.{Many, Preceded, Separated, Perhaps, IsToken, IsOptional}
use Rattle.vhdl_tree.specs.Expressions.{Expression, NameOf, Choices}
use Rattle.vhdl_tree.specs.Ranges.{IsBounds}

-- ---- trees that a production has

abbrev pub statement_of : ℕ → Option Token → Body → Statement
statement_of line label b = roll-Statement (record { line = line; label = label; body = b })

abbrev pub if_of : Expr → List Statement → List Elsif → List Statement → Option Token → If
if_of condition statements elsifs otherwise name =
    roll-If (record { condition = condition; statements = statements; elsifs = elsifs; otherwise = otherwise; end_name = name })

abbrev pub elsif_of : Expr → List Statement → Elsif
elsif_of condition statements = roll-Elsif (record { condition = condition; statements = statements })

abbrev pub case_of : Expr → List Arm → Option Token → Case
case_of subject arms name = roll-Case (record { subject = subject; arms = arms; end_name = name })

abbrev pub arm_of : List Choice → List Statement → Arm
arm_of choices statements = roll-Arm (record { choices = choices; statements = statements })

abbrev pub loop_of : Scheme → List Statement → Option Token → Loop
loop_of s statements name = roll-Loop (record { scheme = s; statements = statements; end_name = name })

-- ---- what holds no statements

-- [ delay ], where delay ::= transport | [ reject expression ] inertial
pub data IsDelay : List Token → Delay → List Token → Type 0 where
  absent : {ts : List Token} → IsDelay ts delay.Inertial ts
  transport : {us : List Token} {x : Span} → IsDelay (word reserved.Transport x ∷ us) delay.Transport us
  reject : {ts us : List Token} {x y : Span} {a : Expr} → Expression ts a (word reserved.Inertial y ∷ us)
      → IsDelay (word reserved.Reject x ∷ ts) (delay.Reject a) us
  inertial : {us : List Token} {x : Span} → IsDelay (word reserved.Inertial x ∷ us) delay.Inertial us

-- element ::= expression [ after expression ]
pub data IsElement : List Token → Element → List Token → Type 0 where
  element : {ts us vs : List Token} {a : Expr} {after : Option Expr} → Expression ts a us → Perhaps (kind.Word reserved.After) Expression us after vs
      → IsElement ts (record { value = a; after = after }) vs

-- waveform ::= element { , element }
abbrev pub IsWaveform : List Token → List Element → List Token → Type 0
IsWaveform = Separated (kind.Delimiter delimiter.Comma) IsElement

-- names ::= name { , name }
abbrev pub IsNames : List Token → List Name → List Token → Type 0
IsNames = Separated (kind.Delimiter delimiter.Comma) NameOf

-- [ on names ]
pub data IsOn : List Token → List Name → List Token → Type 0 where
  absent : {ts : List Token} → IsOn ts [] ts
  names : {ts us : List Token} {x : Span} {all : List Name} → IsNames ts all us → IsOn (word reserved.On x ∷ ts) all us

-- wait [ on names ] [ until expression ] [ for expression ] ;
pub data IsWait : List Token → Wait → List Token → Type 0 where
  wait : {ts us vs ws : List Token} {x y : Span} {names : List Name} {until time : Option Expr} → IsOn ts names us
      → Perhaps (kind.Word reserved.Until) Expression us until vs → Perhaps (kind.Word reserved.For) Expression vs time (mark delimiter.Semicolon y ∷ ws)
      → IsWait (word reserved.Wait x ∷ ts) (record { word = word reserved.Wait x; on = names; until = until; time = time }) ws

-- [ severity id ]
abbrev pub IsSeverity : List Token → Option Token → List Token → Type 0
IsSeverity = Perhaps (kind.Word reserved.Severity) (IsToken kind.Identifier)

-- assert expression [ report STRING ] [ severity id ] ;
pub data IsAssertion : List Token → Assertion → List Token → Type 0 where
  assertion : {ts us vs ws : List Token} {x y : Span} {a : Expr} {text severity : Option Token} → Expression ts a us
      → Perhaps (kind.Word reserved.Report) (IsToken kind.Text) us text vs → IsSeverity vs severity (mark delimiter.Semicolon y ∷ ws)
      → IsAssertion (word reserved.Assert x ∷ ts) (record { condition = a; text = text; severity = severity }) ws

-- report STRING [ severity id ] ;
pub data IsReport : List Token → Report → List Token → Type 0 where
  report : {ts us : List Token} {x y z : Span} {severity : Option Token} → IsSeverity ts severity (mark delimiter.Semicolon z ∷ us)
      → IsReport (word reserved.Report x ∷ tok kind.Text y ∷ ts) (record { text = tok kind.Text y; severity = severity }) us

-- name <= [ delay ] waveform ;
pub data IsSignalAssignment : List Token → SignalAssignment → List Token → Type 0 where
  assigned : {ts us vs ws : List Token} {x y : Span} {n : Name} {d : Delay} {all : List Element} → NameOf ts n (mark delimiter.LessEqual x ∷ us)
      → IsDelay us d vs → IsWaveform vs all (mark delimiter.Semicolon y ∷ ws)
      → IsSignalAssignment ts (record { target = n; delay = d; waveform = all }) ws

-- name := expression ;
pub data IsVariableAssignment : List Token → VariableAssignment → List Token → Type 0 where
  assigned : {ts us vs : List Token} {x y : Span} {n : Name} {a : Expr} → NameOf ts n (mark delimiter.Assign x ∷ us)
      → Expression us a (mark delimiter.Semicolon y ∷ vs) → IsVariableAssignment ts (record { target = n; value = a }) vs

-- next [ id ] [ when expression ] ;
-- exit [ id ] [ when expression ] ;
pub data IsJump (w : Reserved) : List Token → Jump → List Token → Type 0 where
  jump : {ts us vs : List Token} {x y : Span} {label : Option Token} {condition : Option Expr} → IsOptional kind.Identifier ts label us
      → Perhaps (kind.Word reserved.When) Expression us condition (mark delimiter.Semicolon y ∷ vs)
      → IsJump w (word w x ∷ ts) (record { word = word w x; label = label; condition = condition }) vs

-- [ scheme ], where scheme ::= while expression | for id in bounds
pub data IsScheme : List Token → Scheme → List Token → Type 0 where
  forever : {ts : List Token} → IsScheme ts scheme.Forever ts
  while_ : {ts us : List Token} {x : Span} {a : Expr} → Expression ts a us → IsScheme (word reserved.While x ∷ ts) (scheme.While a) us
  for_ : {ts us : List Token} {x y z : Span} {b : Bounds} → IsBounds ts b us
      → IsScheme (word reserved.For x ∷ id y ∷ word reserved.In z ∷ ts) (scheme.For (id y) b) us

-- end w [ id ] ;
pub data IsEnd (w : Reserved) : List Token → Option Token → List Token → Type 0 where
  closed : {ts us : List Token} {x y z : Span} {name : Option Token} → IsOptional kind.Identifier ts name (mark delimiter.Semicolon z ∷ us)
      → IsEnd w (word reserved.End x ∷ word w y ∷ ts) name us

-- ---- the productions that hold statements, over the lists of statements that stand one statement further in

module _ (Statements : List Token → List Statement → List Token → Type 0) where
  -- expression then { statement }
  pub data IsElsif : List Token → Elsif → List Token → Type 0 where
    elsif_ : {ts us vs : List Token} {x : Span} {a : Expr} {all : List Statement} → Expression ts a (word reserved.Then x ∷ us) → Statements us all vs
        → IsElsif ts (elsif_of a all) vs

  -- [ else { statement } ]
  pub data IsElse : List Token → List Statement → List Token → Type 0 where
    absent : {ts : List Token} → IsElse ts [] ts
    otherwise : {ts us : List Token} {x : Span} {all : List Statement} → Statements ts all us → IsElse (word reserved.Else x ∷ ts) all us

  -- if expression then { statement } { elsif expression then { statement } } [ else { statement } ] end if [ id ] ;
  pub data IsIf : List Token → If → List Token → Type 0 where
    if_ : {ts us vs ws xs ys : List Token} {x y : Span} {a : Expr} {all rest : List Statement} {elsifs : List Elsif} {name : Option Token}
        → Expression ts a (word reserved.Then y ∷ us) → Statements us all vs → Preceded (kind.Word reserved.Elsif) IsElsif vs elsifs ws
        → IsElse ws rest xs → IsEnd reserved.If xs name ys → IsIf (word reserved.If x ∷ ts) (if_of a all elsifs rest name) ys

  -- arm ::= when choices => { statement }
  pub data IsArm : List Token → Arm → List Token → Type 0 where
    arm : {ts us vs : List Token} {x y : Span} {choices : List Choice} {all : List Statement} → Choices ts choices (mark delimiter.Arrow y ∷ us)
        → Statements us all vs → IsArm (word reserved.When x ∷ ts) (arm_of choices all) vs

  -- arm { arm }
  pub data IsArms : List Token → List Arm → List Token → Type 0 where
    several : {ts us vs : List Token} {a : Arm} {all : List Arm} → IsArm ts a us → Many IsArm us all vs → IsArms ts (a ∷ all) vs

  -- case expression is arm { arm } end case [ id ] ;
  pub data IsCase : List Token → Case → List Token → Type 0 where
    case_ : {ts us vs ws : List Token} {x y : Span} {a : Expr} {arms : List Arm} {name : Option Token} → Expression ts a (word reserved.Is y ∷ us)
        → IsArms us arms vs → IsEnd reserved.Case vs name ws → IsCase (word reserved.Case x ∷ ts) (case_of a arms name) ws

  -- [ scheme ] loop { statement } end loop [ id ] ;
  pub data IsLoop : List Token → Loop → List Token → Type 0 where
    loop_ : {ts us vs ws : List Token} {x : Span} {s : Scheme} {all : List Statement} {name : Option Token}
        → IsScheme ts s (word reserved.Loop x ∷ us) → Statements us all vs → IsEnd reserved.Loop vs name ws → IsLoop ts (loop_of s all name) ws

  -- statement_body: one of the statements above, or null ;
  pub data IsBody : List Token → Body → List Token → Type 0 where
    wait : {ts us : List Token} {a : Wait} → IsWait ts a us → IsBody ts (body.Wait a) us
    assertion : {ts us : List Token} {a : Assertion} → IsAssertion ts a us → IsBody ts (body.Assert a) us
    report : {ts us : List Token} {a : Report} → IsReport ts a us → IsBody ts (body.Report a) us
    signal : {ts us : List Token} {a : SignalAssignment} → IsSignalAssignment ts a us → IsBody ts (body.Signal a) us
    variable : {ts us : List Token} {a : VariableAssignment} → IsVariableAssignment ts a us → IsBody ts (body.Variable a) us
    if_ : {ts us : List Token} {a : If} → IsIf ts a us → IsBody ts (body.If a) us
    case_ : {ts us : List Token} {a : Case} → IsCase ts a us → IsBody ts (body.Case a) us
    loop_ : {ts us : List Token} {a : Loop} → IsLoop ts a us → IsBody ts (body.Loop a) us
    next : {ts us : List Token} {a : Jump} → IsJump reserved.Next ts a us → IsBody ts (body.Next a) us
    exit : {ts us : List Token} {a : Jump} → IsJump reserved.Exit ts a us → IsBody ts (body.Exit a) us
    null : {us : List Token} {x y : Span} → IsBody (word reserved.Null x ∷ mark delimiter.Semicolon y ∷ us) body.Null us

  -- statement ::= [ id : ] statement_body
  pub data IsStatement : List Token → Statement → List Token → Type 0 where
    unlabelled : {ts us : List Token} {b : Body} → IsBody ts b us → IsStatement ts (statement_of (line_of ts) None b) us
    labelled : {ts us : List Token} {x y : Span} {b : Body} → IsBody ts b us
        → IsStatement (id x ∷ mark delimiter.Colon y ∷ ts) (statement_of x.line (Some (id x)) b) us

-- ---- without the parameter: statements that nest less deep than a number, and then any

-- { statement }
abbrev pub StatementsWithin : ℕ → List Token → List Statement → List Token → Type 0
StatementsWithin zero ts all us = ⊥
StatementsWithin (suc depth) ts all us = Many (IsStatement (StatementsWithin depth)) ts all us

abbrev pub StatementsOf : List Token → List Statement → List Token → Type 0
StatementsOf ts all us = (depth : ℕ) × StatementsWithin depth ts all us
