use Rattle.iv_dump.proofs.Told.{rows_more}
use Rattle.iv_dump.proofs.queries.rows_of_each.Goals as goal

pub loop-table-preserved : goal.loop-table-preserved
loop-table-preserved g c =
    rows_more (g.X.Executor.state c.args.database.now) c.args.tables.now c.loop-table.table-index c.loop-table.lists.items _ c.table-item.result _
    c.loop-table.invariant c.loop-table-test.true c.table-item.is c.in_ok-rows_named.ensures c.in_ok-push.ensures.items
