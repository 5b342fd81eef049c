-- The statements that may stand behind a label, as the readers divide them.
use Rattle.std.proofs.Common.{◌≡◌, Bool, false, List, ◌∷◌, Option, Some, None, subst}
use Rattle.vhdl_tokens.specs.declared.token.Token.{Token}
use Rattle.vhdl_tokens.specs.declared.token.Delimiter.TheVariants as delimiter
use Rattle.vhdl_tree.specs.declared.units.Process.{Process}
use Rattle.vhdl_tree.specs.declared.units.ConcurrentAssignment.{ConcurrentAssignment}
use Rattle.vhdl_tree.specs.declared.units.Instantiation.{Instantiation}
use Rattle.vhdl_tree.specs.declared.units.ConcurrentBody.{ConcurrentBody}
use Rattle.vhdl_tree.specs.declared.units.ConcurrentBody.TheVariants as a_body
use Rattle.vhdl_tree.specs.Words.{Span, id, mark}
use Rattle.vhdl_tree.specs.Units.{IsLabel, IsPostponed, IsProcess, IsConcurrentAssignment, IsInstantiation, IsConcurrent, concurrent_of}
use Rattle.vhdl_reader_expressions.proofs.Sound.{placed}

-- a process or an assignment, which is postponed or not
pub data IsBodyOf (postponed : Bool) : List Token → ConcurrentBody → List Token → Type 0 where
  process : {ts us : List Token} {p : Process} → IsProcess postponed ts p us → IsBodyOf postponed ts (a_body.Process p) us
  assignment : {ts us : List Token} {a : ConcurrentAssignment} → IsConcurrentAssignment postponed ts a us → IsBodyOf postponed ts (a_body.Assignment a) us

-- the same with the word postponed before it
pub data IsBody : List Token → ConcurrentBody → List Token → Type 0 where
  body : {ts us vs : List Token} {postponed : Bool} {b : ConcurrentBody} → IsPostponed ts postponed us → IsBodyOf postponed us b vs → IsBody ts b vs

-- what may follow a label
pub data IsLabelled : List Token → ConcurrentBody → List Token → Type 0 where
  unnamed : {ts us : List Token} {b : ConcurrentBody} → IsBody ts b us → IsLabelled ts b us
  instance : {ts us : List Token} {i : Instantiation} → IsInstantiation ts i us → IsLabelled ts (a_body.Instance i) us

-- a body behind what may be a label is a statement
with_body : {ts us vs ws : List Token} {label : Option Token} {postponed : Bool} {b : ConcurrentBody} → IsLabel ts label us → IsPostponed us postponed vs → IsBodyOf postponed vs b ws
    → IsConcurrent ts (concurrent_of ts label b) ws
with_body l q (IsBodyOf.process r) = IsConcurrent.process l q r
with_body l q (IsBodyOf.assignment r) = IsConcurrent.assignment l q r

pub body_is : {ts us vs : List Token} {label : Option Token} {b : ConcurrentBody} → IsLabel ts label us → IsBody us b vs → IsConcurrent ts (concurrent_of ts label b) vs
body_is l (IsBody.body q r) = with_body l q r

-- so is what may follow a label behind one
pub labelled_is : {ts us vs : List Token} {x y : Span} {b : ConcurrentBody} → id x ∷ mark delimiter.Colon y ∷ us ≡ ts → IsLabelled us b vs
    → IsConcurrent ts (concurrent_of ts (Some (id x)) b) vs
labelled_is e (IsLabelled.unnamed r) = body_is (placed IsLabel e IsLabel.present) r
labelled_is {vs = vs} {x = x} e (IsLabelled.instance {i = i} r) = subst (λ zs. IsConcurrent zs (concurrent_of zs (Some (id x)) (a_body.Instance i)) vs) e (IsConcurrent.instance r)

-- an assignment that isn't postponed is a body
pub plain_is : {ts us : List Token} {b : ConcurrentBody} → IsBodyOf false ts b us → IsConcurrent ts (concurrent_of ts None b) us
plain_is r = body_is IsLabel.absent (IsBody.body IsPostponed.absent r)
