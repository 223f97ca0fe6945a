use Rattle.std.proofs.Common.{◌+◌, arith}
use Rattle.iv_store_faults.proofs.WatchTables.{tabled_all, tabled_next}
use Rattle.iv_store_faults.proofs.table_constraints.with_constraints.Goals as goal

pub loop-place-preserved : goal.loop-place-preserved
loop-place-preserved c = λ olds long m.
    tabled_next olds c.args.more.now c.loop-place.place (c.args.first + c.loop-place.place) c.index-more-place.result c.loop-place.lists.items c.note.new.tables.items
    c.loop-place-test.true c.index-more-place.is (omega (arith, long)) (c.loop-place.invariant olds long m) c.in_ok-note.ensures

pub returns : goal.returns
returns c = λ olds long m. tabled_all olds c.args.more.now c.loop-place.place c.loop-place.lists.items (omega (arith, c.loop-place-test.false)) (c.loop-place.invariant olds long m)
