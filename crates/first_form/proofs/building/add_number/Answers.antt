use Rattle.std.proofs.lemmas.Map.Text.{btree_map_updates_str}
use Rattle.first_form.proofs.Names.{none_there}
use Rattle.first_form.proofs.building.add_number.Goals as goal

pub returns : goal.returns
returns c = (
  none_there _ _ c.contains_key.ensures c.if-contains_key.false,
  λ q. btree_map_updates_str c.args.name.now c.args.numbers.now c.insert.new.self _ c.in_ok-insert.ensures.updates q,
)
