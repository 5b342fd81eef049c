-- What the parts of the reading come to.
use Rattle.std.proofs.Common.{◌≡◌, ℕ, ◌+◌, ◌<◌, ◌≤◌, Bool, true, false, inl, inr, List, length, take, Result, Ok, Err, nat_le, if◌then◌else◌, refl, ◌∙◌, subst, arith}
use Rattle.std.proofs.lemmas.Bool.{leb-true, leb-false, cases_order}
use Rattle.std.proofs.lemmas.List.{length-take-le, take-take}
use Rattle.vhdl_tokens.specs.declared.token.Token.{Token}
use Rattle.vhdl_tree.specs.declared.units.DesignFile.{DesignFile}
use Rattle.vhdl_tree.specs.Faults.{NestsWell, BeginsSentence, IsSyntaxFault, IsNestingFault, IsNestingRefusal}
use Rattle.vhdl_reader.specs.declared.error.SyntaxError.{SyntaxError}
use Rattle.vhdl_reader.specs.declared.error.SyntaxError.TheVariants as error
use Rattle.vhdl_reader.specs.Judgement.{Judges, Parses, at_depth}
use Rattle.vhdl_reader.proofs.Cut.{front_breaks, at_or_behind}

-- another token that is too deep first is no earlier one
same_nesting : (tokens : List Token) (deep other : ℕ) → IsNestingFault tokens deep → IsNestingFault tokens other → deep ≤ other
same_nesting tokens deep other nests also = elim (cases_order deep other) [
  | inl same ↦ omega arith
  | inr (inl less) ↦ omega arith
  | inr (inr less) ↦ absurd (nests.first other less also.deep)
]

pub judged_well : (tokens : List Token) (r : Result DesignFile SyntaxError) → NestsWell tokens → Parses tokens r → Judges tokens r
judged_well tokens (Ok tree) well h = (h, well)
judged_well tokens (Err (error.Syntax place)) well h = record { fault = h; first = λ deep nests. absurd (well deep nests.within nests.deep) }
judged_well tokens (Err (error.Nesting place)) well h = absurd h
judged_well tokens (Err error.NoMemory) well h = tt

-- where a design file begins with the tokens up to the one that is too deep
nesting_first : (tokens : List Token) (deep : ℕ) → IsNestingFault tokens deep → BeginsSentence tokens (deep + 1) → IsNestingRefusal tokens deep
nesting_first tokens deep nests begins = record {
  fault = nests;
  first = λ syntax_at f. let w = nests.within in let le : deep + 1 ≤ syntax_at = at_or_behind tokens (deep + 1) syntax_at (omega arith) begins f in omega arith;
}

syntax_or : (tokens : List Token) (deep place : ℕ) (b : Bool) → nat_le place deep ≡ b → IsNestingFault tokens deep → IsSyntaxFault (take (deep + 1) tokens) place
    → Judges tokens (Err (if b then error.Syntax place else error.Nesting deep))
syntax_or tokens deep place true is nests h = let le : place ≤ deep = leb-true place deep is in record {
  fault = front_breaks tokens deep place nests.within le h;
  first = λ other also. let more : deep ≤ other = same_nesting tokens deep other nests also in omega arith;
}
syntax_or tokens deep place false is nests h = let w = nests.within in let whole : length (take (deep + 1) tokens) ≡ deep + 1 = length-take-le (deep + 1) tokens (omega arith) in let within = h.within in
    let behind : deep < place = leb-false place deep is in let last : place ≡ deep + 1 = omega arith in
    nesting_first tokens deep nests (record {
      others = h.begins.others;
      tree = h.begins.tree;
      same = subst (λ n. take n h.begins.others ≡ take n (take (deep + 1) tokens)) last h.begins.same ∙ take-take (deep + 1) (deep + 1) tokens (omega arith);
      sentence = h.begins.sentence;
    })

pub judged_deep : (tokens : List Token) (deep : ℕ) (r : Result DesignFile SyntaxError) → IsNestingFault tokens deep → Parses (take (deep + 1) tokens) r → Judges tokens (Err (at_depth r deep))
judged_deep tokens deep (Ok tree) nests h = nesting_first tokens deep nests (record {
  others = take (deep + 1) tokens;
  tree = tree;
  same = take-take (deep + 1) (deep + 1) tokens (omega arith);
  sentence = h;
})
judged_deep tokens deep (Err (error.Syntax place)) nests h = syntax_or tokens deep place (nat_le place deep) refl nests h
judged_deep tokens deep (Err (error.Nesting place)) nests h = absurd h
judged_deep tokens deep (Err error.NoMemory) nests h = tt
