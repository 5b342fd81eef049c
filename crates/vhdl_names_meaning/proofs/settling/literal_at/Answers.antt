use Rattle.vhdl_names_meaning.proofs.LiteralsAt.{literal_there, literal_nowhere}
use Rattle.vhdl_names_meaning.proofs.settling.literal_at.Goals as goal

pub returns-in-Some : goal.returns-in-Some
returns-in-Some c = literal_there c.args.base c.args.entries.now c.in-Some.position c.in-Some.ensures

pub returns-in-None : goal.returns-in-None
returns-in-None c = literal_nowhere c.args.base c.args.entries.now c.in-None.ensures
