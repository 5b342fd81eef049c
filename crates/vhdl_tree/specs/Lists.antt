-- Repetition in a grammar. `R ts a us`: the tokens ts are those of a, and then us.
use Rattle.std.specs.Prelude.{◌≡◌, Option, Some, None, List, [], ◌∷◌}
use Rattle.vhdl_tokens.specs.declared.token.Kind.{Kind}
use Rattle.vhdl_tokens.specs.declared.token.Token.{Token}
use Rattle.vhdl_tree.specs.Words.{Span, tok}

-- { x }
pub data Many {A : Type 0} (R : List Token → A → List Token → Type 0) : List Token → List A → List Token → Type 0 where
  none : {ts : List Token} → Many R ts [] ts
  more : {ts us vs : List Token} {a : A} {all : List A} → R ts a us → Many R us all vs → Many R ts (a ∷ all) vs

-- { w x }: each with a token of kind w before it
pub data Preceded {A : Type 0} (w : Kind) (R : List Token → A → List Token → Type 0) : List Token → List A → List Token → Type 0 where
  none : {ts : List Token} → Preceded w R ts [] ts
  more : {us vs ws : List Token} {x : Span} {a : A} {all : List A} → R us a vs → Preceded w R vs all ws → Preceded w R (tok w x ∷ us) (a ∷ all) ws

-- x { w x }
pub data Separated {A : Type 0} (w : Kind) (R : List Token → A → List Token → Type 0) : List Token → List A → List Token → Type 0 where
  several : {ts us vs : List Token} {a : A} {all : List A} → R ts a us → Preceded w R us all vs → Separated w R ts (a ∷ all) vs

-- { op x }: each with a token of the table before it, which says how the member is made
pub data Operations {O A B : Type 0} (table : Option Kind → Option O) (make : O → A → B) (R : List Token → A → List Token → Type 0)
    : List Token → List B → List Token → Type 0 where
  none : {ts : List Token} → Operations table make R ts [] ts
  more : {us vs ws : List Token} {k : Kind} {x : Span} {op : O} {a : A} {all : List B}
      → table (Some k) ≡ Some op → R us a vs → Operations table make R vs all ws → Operations table make R (tok k x ∷ us) (make op a ∷ all) ws

-- [ w x ]
pub data Perhaps {A : Type 0} (w : Kind) (R : List Token → A → List Token → Type 0) : List Token → Option A → List Token → Type 0 where
  absent : {ts : List Token} → Perhaps w R ts None ts
  present : {us vs : List Token} {x : Span} {a : A} → R us a vs → Perhaps w R (tok w x ∷ us) (Some a) vs

-- a token of this kind, which is itself in the tree
pub data IsToken (w : Kind) : List Token → Token → List Token → Type 0 where
  single : {us : List Token} {x : Span} → IsToken w (tok w x ∷ us) (tok w x) us

-- [ token ]
pub data IsOptional (w : Kind) : List Token → Option Token → List Token → Type 0 where
  absent : {ts : List Token} → IsOptional w ts None ts
  present : {us : List Token} {x : Span} → IsOptional w (tok w x ∷ us) (Some (tok w x)) us
