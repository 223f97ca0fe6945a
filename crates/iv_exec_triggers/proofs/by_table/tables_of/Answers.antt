use Rattle.std.proofs.Common.{sym, subst, arith}
use Rattle.iv_exec_triggers.specs.ByTable.{OfTablesBelow}
use Rattle.iv_exec_triggers.proofs.Merges.{drop_read}
use Rattle.iv_exec_triggers.proofs.by_table.tables_of.Goals as goal

pub loop-change-preserved : goal.loop-change-preserved
loop-change-preserved c =
    let next = drop_read c.args.changes.now c.loop-change.change-index c.change-item.result c.change-item.is (omega arith) in
    record {
      few = c.with_table-tables.ensures.few;
      within = λ more enough rest. c.loop-change.invariant.within more (omega (arith, c.with_table-tables.ensures.most, enough))
          (subst (OfTablesBelow more) (sym next) (omega (arith, c.with_table-tables.ensures.within, enough), rest));
    }
