use Rattle.iv_store_plain.proofs.Suspects.{new_else}
use Rattle.iv_store_plain.proofs.touched.touch_new.Goals as goal

pub returns-else-has_rows-clause-ok : goal.returns-else-has_rows-clause-ok
returns-else-has_rows-clause-ok c =
    new_else c.args.rows.now c.args.constraints.now c.first-item.result c.args.touched.now.items c.in-len1-up.len_at_least c.first-item.is c.if-has_rows.ensures
