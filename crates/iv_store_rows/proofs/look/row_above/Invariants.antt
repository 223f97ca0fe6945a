use Rattle.std.proofs.Common.{◌≡◌, length, filter, nat_lt}
use Rattle.iv_expr.specs.Scopes.{row_above, table_rows}
use Rattle.iv_store_rows.specs.InSlots.{live_rows}
use Rattle.iv_store_rows.specs.Filing.{held_for}
use Rattle.iv_store_rows.proofs.look.row_above.Given as goal

abbrev pub invariant-loop-next : goal.invariant-loop-next
invariant-loop-next l = row_above l.after (table_rows (live_rows l.slots) l.table) ≡ row_above l.number (table_rows (live_rows l.slots) l.table)

abbrev pub decreases-loop-next : goal.decreases-loop-next
decreases-loop-next l = length (filter (λ r. nat_lt l.after r) (held_for l.numbers l.table).rows)
