use Rattle.vhdl_reader_expressions.proofs.grammar.+simple.Given as goal

abbrev pub decreases-simple : goal.decreases-simple
decreases-simple l = l.depth
