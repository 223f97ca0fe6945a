use Rattle.std.proofs.Common.{refl, arith}
use Rattle.iv_exec_waves.proofs.Applied.{applying_starts, all_applied, kept_more, looked_more, step_applied, step_taken}
use Rattle.iv_exec_waves.proofs.applying.apply_all.Goals as goal

pub loop-change-init : goal.loop-change-init
loop-change-init g c =
    let old = g.K.ReferencingRows.view c.args.store.now in
    record {
      applying = applying_starts old.tables old.base c.args.changes.now c.requires;
      kept = refl;
      looked_up = omega arith;
    }

pub apply-requires : goal.apply-requires
apply-requires g c =
    let old = g.K.ReferencingRows.view c.args.store.now in
    step_taken old.base old c.args.changes.now (g.K.ReferencingRows.view c.loop-change.store) c.loop-change.change-index c.change-item.result c.change-item.is (omega arith)
    c.loop-change.invariant.kept c.loop-change.invariant.applying

pub loop-change-preserved : goal.loop-change-preserved
loop-change-preserved g c =
    let old = g.K.ReferencingRows.view c.args.store.now in
    let now = g.K.ReferencingRows.view c.loop-change.store in
    let later = g.K.ReferencingRows.view c.apply.new.store in
    record {
      applying = step_applied old.tables old.base c.args.changes.now now later c.loop-change.change-index c.change-item.result c.change-item.is (omega arith)
          c.in_ok-apply.ensures.ok c.loop-change.invariant.applying;
      kept = kept_more old now later c.change-item.result c.loop-change.invariant.kept c.in_ok-apply.ensures.ok;
      looked_up = looked_more old now c.loop-change.change-index _ _ _ c.loop-change.invariant.kept c.loop-change.invariant.looked_up c.in_ok-apply.ensures.looked_up;
    }

pub returns-clause-applied : goal.returns-clause-applied
returns-clause-applied g c =
    let old = g.K.ReferencingRows.view c.args.store.now in
    all_applied old.tables old.base c.args.changes.now (g.K.ReferencingRows.view c.loop-change.store).base c.loop-change.change-index c.requires (omega arith) c.loop-change.invariant.applying
