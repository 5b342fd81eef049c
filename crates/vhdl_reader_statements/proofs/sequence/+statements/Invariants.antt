use Rattle.vhdl_reader_statements.proofs.sequence.+statements.Given as goal

abbrev pub decreases-statements : goal.decreases-statements
decreases-statements l = l.depth
