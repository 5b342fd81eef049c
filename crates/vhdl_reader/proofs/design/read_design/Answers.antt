use Rattle.std.proofs.Common.{◌∙◌, sym, subst, Err}
use Rattle.vhdl_reader.specs.Judgement.{Judges, Parses}
use Rattle.vhdl_reader.proofs.Deep.{none_deep, some_deep}
use Rattle.vhdl_reader.proofs.Judged.{judged_well, judged_deep}
use Rattle.vhdl_reader.proofs.design.read_design.Goals as goal

pub returns-in-None-clause-judged : goal.returns-in-None-clause-judged
returns-in-None-clause-judged c = judged_well c.args.tokens.now c.parse.result (none_deep c.args.tokens.now (sym c.first_deep.ensures.found ∙ c.in-None.is)) c.parse.ensures.parses

pub returns-in-Some-clause-judged : goal.returns-in-Some-clause-judged
returns-in-Some-clause-judged c = subst (λ e. Judges c.args.tokens.now (Err e)) (sym c.at_depth.ensures)
    (judged_deep c.args.tokens.now c.in-Some.deep c.parse-in-Some.result (some_deep c.args.tokens.now c.in-Some.deep (sym c.first_deep.ensures.found ∙ c.in-Some.is))
    (subst (λ ts. Parses ts c.parse-in-Some.result) c.split_at.ensures.front c.parse-in-Some.ensures.parses))

pub returns-in-Some-clause-only : goal.returns-in-Some-clause-only
returns-in-Some-clause-only c = λ tree s well. let nests = some_deep c.args.tokens.now c.in-Some.deep (sym c.first_deep.ensures.found ∙ c.in-Some.is) in absurd (well c.in-Some.deep nests.within nests.deep)
