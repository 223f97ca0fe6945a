use Rattle.std.proofs.Common.{◌∙◌}
use Rattle.iv_dump.proofs.Told.{late_made}
use Rattle.iv_dump.proofs.parts.push_late.Goals as goal

pub returns : goal.returns
returns c =
    late_made c.args.tables.now c.args.scripts.now c.push_created-created.new.scripts c.push_additions-added.new.scripts c.args.table.now c.args.rows.now c.args.constraints.now
    c.as_slice.result.now c.as_slice-2.result.now c.push_additions-added.result (c.as_slice.ensures.value ∙ c.in_ok-first.ensures) (c.as_slice-2.ensures.value ∙ c.in_ok-keys.ensures)
    c.in_ok-created.ensures c.push_additions-added.ensures
