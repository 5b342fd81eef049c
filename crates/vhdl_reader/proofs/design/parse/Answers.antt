use Rattle.std.proofs.Common.{arith}
use Rattle.vhdl_reader.proofs.Parsed.{never_spent, ok_parses, ok_gives, error_parses, error_gives}
use Rattle.vhdl_reader.proofs.design.parse.Goals as goal

pub returns-in-Ok-clause-parses : goal.returns-in-Ok-clause-parses
returns-in-Ok-clause-parses c = ok_parses c.args.tokens.now c.new-cursor.result c.whole_file.new.tokens _ (omega arith) c.new-cursor.ensures c.whole_file.result c.whole_file.ensures
    c.in-Ok.file c.in-Ok.is

pub returns-in-Ok-clause-only : goal.returns-in-Ok-clause-only
returns-in-Ok-clause-only c = ok_gives c.args.tokens.now c.new-cursor.result c.whole_file.new.tokens _ (omega arith) c.new-cursor.ensures c.whole_file.result c.whole_file.ensures
    c.in-Ok.file c.in-Ok.is

pub returns-in-Err-clause-parses : goal.returns-in-Err-clause-parses
returns-in-Err-clause-parses c = error_parses c.args.tokens.now c.new-cursor.result c.whole_file.new.tokens _ (omega arith) c.new-cursor.ensures c.whole_file.result c.whole_file.ensures
    c.in-Err.stop c.error_at.result c.left.result c.in-Err.is c.left.ensures c.error_at.ensures

pub returns-in-Err-clause-only : goal.returns-in-Err-clause-only
returns-in-Err-clause-only c = error_gives c.args.tokens.now c.new-cursor.result c.whole_file.new.tokens _ (omega arith) c.new-cursor.ensures c.whole_file.result c.whole_file.ensures
    c.in-Err.stop c.error_at.result c.left.result c.in-Err.is c.left.ensures c.error_at.ensures

pub error_at-requires : goal.error_at-requires
error_at-requires c = never_spent c.args.tokens.now c.new-cursor.result c.whole_file.new.tokens _ (omega arith) c.new-cursor.ensures c.whole_file.result c.whole_file.ensures
    c.in-Err.stop c.in-Err.is
