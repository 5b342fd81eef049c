use Rattle.std.specs.BTreeMap.{get_by_text}
use Rattle.std.specs.Prelude.{None}
use Rattle.std.specs.Str.{bytes_eq}
use Rattle.std.proofs.lemmas.Map.Text.{btree_map_updates_text}
use Rattle.vhdl_names_scope.proofs.Kept.{still_there}
use Rattle.vhdl_names_scope.proofs.region.take_row.Goals as goal

pub returns-in-Some-clause-rest : goal.returns-in-Some-clause-rest
returns-in-Some-clause-rest c l r k h =
    still_there (bytes_eq c.args.left.now l) (get_by_text c.args.sharings.now l) (get_by_text c.remove.new.self l) r k
    (btree_map_updates_text c.args.left.now c.args.sharings.now c.remove.new.self None c.remove.ensures.updates l) h
