use Rattle.std.proofs.Common.{string_bytes, ap, ◌∙◌}
use Rattle.std.specs.BTreeMap.{get_by_text}
use Rattle.vhdl_names_scope.specs.Tables.{shared_at}
use Rattle.vhdl_names_scope.proofs.Kept.{kept, none_kept}
use Rattle.vhdl_names_scope.proofs.region.keep.Goals as goal

pub returns-in_err-put_row : goal.returns-in_err-put_row
returns-in_err-put_row c = none_kept _ _ c.args.shared c.args.sharings.now c.take_row-row.new.sharings c.put_row.new.sharings c.take_row-row.ensures.rest c.in_err-put_row.ensures.err

pub returns : goal.returns
returns c =
    kept _ _ c.args.shared c.args.sharings.now c.take_row-row.new.sharings c.put_row.new.sharings (get_by_text c.take_row-row.result) (get_by_text c.add_to_row.new.row)
    (λ r. c.take_row-row.ensures.row r ∙ ap (λ l. shared_at c.args.sharings.now l r) c.as_str.ensures.value) c.take_row-row.ensures.rest c.in_ok-add_to_row.ensures c.in_ok-put_row.ensures.ok
