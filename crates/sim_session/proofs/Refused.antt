-- Why a text isn't read: each error of a reader is the text's own.
use Rattle.std.proofs.Common.{◌≡◌, ◌⊎◌, ℕ, List, Option, Some, None, Result, Ok, Err, IsErrOf, IsErrAnd, inl, inr, refl, subst}
use Rattle.std.proofs.lemmas.Result.{err_from_is_err_and}
use Rattle.vhdl_tokens.specs.declared.token.Token.{Token}
use Rattle.vhdl_tokens.specs.declared.token.TokenError.{TokenError}
use Rattle.vhdl_tokens.specs.declared.token.TokenError.TheVariants as token
use Rattle.vhdl_tokens.specs.Text.{Tokens, Refuses}
use Rattle.vhdl_tree.specs.declared.units.DesignFile.{DesignFile}
use Rattle.vhdl_tree.specs.Units.{Sentence}
use Rattle.vhdl_tree.specs.Faults.{NestsWell}
use Rattle.vhdl_reader.specs.declared.error.SyntaxError.{SyntaxError}
use Rattle.vhdl_reader.specs.declared.error.SyntaxError.TheVariants as syntax
use Rattle.vhdl_reader.specs.Judgement.{Judges}
use Rattle.vhdl_names.specs.Static.{Static}
use Rattle.sim_design.specs.declared.Design.{Design}
use Rattle.first_form.specs.FirstForm.{IsForm}
use Rattle.sim_session.specs.declared.fault.DesignFault.TheVariants as design
use Rattle.sim_session.specs.declared.fault.SessionFault.{SessionFault}
use Rattle.sim_session.specs.declared.fault.SessionFault.TheVariants as fault
use Rattle.sim_session.specs.Faults.{fault_of_tokens, fault_of_syntax}
use Rattle.sim_session.specs.Text.{IsTreeOf, IsRead, IsMet, IsBuilt, IsDesignOf}

abbrev failed : {A E : Type 0} → E → Result A E
failed e = Err e

abbrev done : {A E : Type 0} → A → Result A E
done a = Ok a

-- an answer that is a value, or this error
pub is_error : {A E : Type 0} (e m : E) → ⊥ ⊎ IsErrOf (failed {A = A} e) m → e ≡ m
is_error e m (inl h) = absurd h
is_error e m (inr h) = cc

pub is_found : {A E Q : Type 0} (a : A) (m : E) → Q ⊎ IsErrOf (done {E = E} a) m → Q
is_found a m (inl h) = h
is_found a m (inr h) = absurd cc

-- what is answered for an error
pub read_as : (r : Result Design SessionFault) (e : SessionFault) (text : List ℕ) → IsErrAnd r (λ f. f ≡ e) → IsRead (Err e) text → IsRead r text
read_as r e text err h =
    let p = err_from_is_err_and r err in
    rw (p.1, p.2) h

pub tokens_refused : (text : List ℕ) (e : TokenError) → Refuses text e → ((list : List Token) → Tokens text list → e ≡ token.NoMemory) → IsRead (Err (fault_of_tokens e)) text
tokens_refused text (token.BadByte place) h only = record { why = h; none = λ d f. let is = only f.reads.tokens f.reads.spelled in absurd cc }
tokens_refused text (token.BadLiteral place) h only = record { why = h; none = λ d f. let is = only f.reads.tokens f.reads.spelled in absurd cc }
tokens_refused text token.NoMemory h only = tt

-- what is built of a tree that meets the static rules is its design
pub built_is : (r : Result Design SessionFault) (text : List ℕ) (tree : DesignFile) → Static text tree None → IsBuilt r text tree → IsDesignOf r text tree
built_is (Ok d) text tree meets h = (meets, h)
built_is (Err (fault.Design design.NotBuilt)) text tree meets h = (meets, h)
built_is (Err (fault.Design (design.Static f))) text tree meets h = absurd h
built_is (Err (fault.Design (design.BadByte place))) text tree meets h = absurd h
built_is (Err (fault.Design (design.BadLiteral place))) text tree meets h = absurd h
built_is (Err (fault.Design (design.Syntax place))) text tree meets h = absurd h
built_is (Err (fault.Design (design.Nesting place))) text tree meets h = absurd h
built_is (Err fault.Host) text tree meets h = absurd h
built_is (Err fault.NoMemory) text tree meets h = tt

-- a tree that breaks a rule has no design for that
pub unmet_is : (e : SessionFault) (text : List ℕ) (tree : DesignFile) → IsMet (Err e) text tree → IsDesignOf (Err e) text tree
unmet_is (fault.Design (design.Static f)) text tree h = h
unmet_is (fault.Design design.NotBuilt) text tree h = absurd h
unmet_is (fault.Design (design.BadByte place)) text tree h = absurd h
unmet_is (fault.Design (design.BadLiteral place)) text tree h = absurd h
unmet_is (fault.Design (design.Syntax place)) text tree h = absurd h
unmet_is (fault.Design (design.Nesting place)) text tree h = absurd h
unmet_is fault.Host text tree h = absurd h
unmet_is fault.NoMemory text tree h = tt

module _ (text : List ℕ) (list : List Token) (spelled : Tokens text list) (alone : (other : List Token) → Tokens text other → other ≡ list) where
  -- of a text of the language the tokens are these
  moved : (tree : DesignFile) → IsTreeOf text tree → Sentence list tree × NestsWell list
  moved tree h = let same = alone h.tokens h.spelled in (subst (λ ts. Sentence ts tree) same h.sentence, subst NestsWell same h.nests)

  pub syntax_refused : (e : SyntaxError) → Judges list (Err e) → ((tree : DesignFile) → Sentence list tree → NestsWell list → e ≡ syntax.NoMemory) → IsRead (Err (fault_of_syntax e)) text
  syntax_refused (syntax.Syntax place) h only = record {
    why = record { tokens = list; spelled = spelled; breaks = h };
    none = λ d f. let m = moved f.tree f.reads in let is = only f.tree m.0 m.1 in absurd cc;
  }
  syntax_refused (syntax.Nesting place) h only = record {
    why = record { tokens = list; spelled = spelled; breaks = h };
    none = λ d f. let m = moved f.tree f.reads in let is = only f.tree m.0 m.1 in absurd cc;
  }
  syntax_refused syntax.NoMemory h only = tt

  module _ (tree : DesignFile) (judged : Judges list (Ok tree)) (one : (other : DesignFile) → Sentence list other → NestsWell list → other ≡ tree) where
    pub is_tree : IsTreeOf text tree
    is_tree = record { tokens = list; spelled = spelled; sentence = judged.0; nests = judged.1 }

    -- why there is no design is the text's
    pub design_refused : (e : SessionFault) → IsDesignOf (Err e) text tree → IsRead (Err e) text
    design_refused (fault.Design (design.Static f)) h = record {
      why = record { tree = tree; reads = is_tree; breaks = h };
      none = λ d g. let m = moved g.tree g.reads in let meets : Static text tree None = subst (λ t. Static text t None) (one g.tree m.0 m.1) g.meets in meets f h.0;
    }
    design_refused (fault.Design design.NotBuilt) h = record {
      why = record { tree = tree; reads = is_tree; meets = h.0; none = h.1 };
      none = λ d g. let m = moved g.tree g.reads in h.1 d (subst (λ t. IsForm text t d) (one g.tree m.0 m.1) g.form);
    }
    design_refused (fault.Design (design.BadByte place)) h = absurd h
    design_refused (fault.Design (design.BadLiteral place)) h = absurd h
    design_refused (fault.Design (design.Syntax place)) h = absurd h
    design_refused (fault.Design (design.Nesting place)) h = absurd h
    design_refused fault.Host h = absurd h
    design_refused fault.NoMemory h = tt

    pub form_found : (d : Design) → IsDesignOf (Ok d) text tree → IsRead (Ok d) text
    form_found d h = record { tree = tree; reads = is_tree; meets = h.0; form = h.1 }
