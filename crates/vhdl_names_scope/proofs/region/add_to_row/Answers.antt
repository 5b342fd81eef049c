use Rattle.std.proofs.Common.{string_bytes}
use Rattle.std.specs.Prelude.{Some}
use Rattle.std.proofs.lemmas.Map.Text.{btree_map_updates_text}
use Rattle.vhdl_names_scope.proofs.region.add_to_row.Goals as goal

pub returns : goal.returns
returns c r = btree_map_updates_text (string_bytes c.args.right) c.args.row.now c.insert.new.self (Some c.args.shared) c.in_ok-insert.ensures.updates r
