use Rattle.std.proofs.Common.{string_bytes}
use Rattle.std.specs.BTreeMap.{get_by_text}
use Rattle.std.specs.Prelude.{Some}
use Rattle.std.specs.Str.{bytes_eq}
use Rattle.std.proofs.lemmas.Map.Text.{btree_map_updates_text}
use Rattle.vhdl_names_scope.proofs.Kept.{put_there}
use Rattle.vhdl_names_scope.proofs.region.put_row.Goals as goal

pub returns-in-Ok-clause-ok : goal.returns-in-Ok-clause-ok
returns-in-Ok-clause-ok c l r =
    put_there (bytes_eq (string_bytes c.args.left) l) (get_by_text c.args.sharings.now l) (get_by_text c.insert.new.self l) c.args.row r
    (btree_map_updates_text (string_bytes c.args.left) c.args.sharings.now c.insert.new.self (Some c.args.row) c.in-Ok.ensures.updates l)
