-- A fault of the tokens up to one is a fault of all of them, and a list of tokens has one at most.
use Rattle.std.proofs.Common.{◌≡◌, ℕ, ◌+◌, ◌<◌, ◌≤◌, List, length, take, inl, inr, sym, ap, ◌∙◌, arith}
use Rattle.std.proofs.lemmas.List.{length-take-le, take-take}
use Rattle.std.proofs.lemmas.Bool.{cases_order}
use Rattle.vhdl_tokens.specs.declared.token.Token.{Token}
use Rattle.vhdl_tree.specs.declared.units.DesignFile.{DesignFile}
use Rattle.vhdl_tree.specs.Units.{Sentence}
use Rattle.vhdl_tree.specs.Faults.{BeginsSentence, IsSyntaxFault, OneSyntaxFault}

pub front_breaks : (ts : List Token) (deep place : ℕ) → deep < length ts → place ≤ deep → IsSyntaxFault (take (deep + 1) ts) place → IsSyntaxFault ts place
front_breaks ts deep place inside before b = let whole : length (take (deep + 1) ts) ≡ deep + 1 = length-take-le (deep + 1) ts (omega arith) in record {
  within = omega arith;
  early = λ less others tree same s. b.early (omega (arith, whole)) others tree (same ∙ sym (take-take (place + 1) (deep + 1) ts (omega arith))) s;
  ends = λ is tree s. absurd (omega arith);
  begins = record {
    others = b.begins.others;
    tree = b.begins.tree;
    same = b.begins.same ∙ take-take place (deep + 1) ts (omega arith);
    sentence = b.begins.sentence;
  };
}

-- fewer tokens are the same too
fewer_same : (less many : ℕ) (others ts : List Token) → less ≤ many → take many others ≡ take many ts → take less others ≡ take less ts
fewer_same less many others ts le same = sym (take-take less many others le) ∙ ap (take less) same ∙ take-take less many ts le

-- where a design file begins with the tokens before a place, the syntax fault doesn't stand before that
pub not_before : (ts : List Token) (place k : ℕ) → place ≤ length ts → BeginsSentence ts place → IsSyntaxFault ts k → k < place → ⊥
not_before ts place k within b fault less = fault.early (omega arith) b.others b.tree (fewer_same (k + 1) place b.others ts (omega arith) b.same) b.sentence

pub one_fault : OneSyntaxFault
one_fault ts place other f g = elim (cases_order place other) [
  | inl same ↦ same
  | inr (inl less) ↦ absurd (not_before ts other place g.within g.begins f less)
  | inr (inr less) ↦ absurd (not_before ts place other f.within f.begins g less)
]

-- so it stands there or behind
pub at_or_behind : (ts : List Token) (place k : ℕ) → place ≤ length ts → BeginsSentence ts place → IsSyntaxFault ts k → place ≤ k
at_or_behind ts place k within b fault = elim (cases_order place k) [
  | inl same ↦ omega arith
  | inr (inl less) ↦ omega arith
  | inr (inr less) ↦ absurd (not_before ts place k within b fault less)
]
