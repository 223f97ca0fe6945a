use Rattle.std.proofs.Common.{◌+◌, ◌++◌, ◌∙◌, ap, arith, drop, false, filter_map, get_or}
use Rattle.iv_exec_actions.specs.Following.{change_at, sets_at}
use Rattle.iv_exec_actions.proofs.Numbers.{rising_rest, made_next, flagged_next}
use Rattle.iv_exec_actions.proofs.next.next_changes.Goals as goal

pub loop-number-preserved : goal.loop-number-preserved
loop-number-preserved g c =
    let f = change_at c.args.catalogue.now c.args.affected_keys.now c.args.changes.now (g.K.ReferencingRows.view c.args.store.now).base.rows in
    let numbers = c.args.numbers.now in
    let i = c.loop-number.number-index in
    record {
      above = rising_rest _ _ numbers i (omega arith) c.loop-number.invariant.above c.in_ok-push_change.ensures.last;
      so_far =
          ap (λ l. l ++ filter_map f (drop (i + 1) numbers)) c.in_ok-push_change.ensures.pushed
          ∙ made_next f c.loop-number.next.changes numbers i (omega arith) ∙ c.loop-number.invariant.so_far;
      flagged = λ id.
          flagged_next (sets_at c.args.catalogue.now c.args.affected_keys.now c.args.changes.now (g.K.ReferencingRows.view c.args.store.now).base.rows id)
          (get_or c.loop-number.flags.items id false) (get_or c.push_change.new.flags.items id false) numbers i (omega arith) (c.in_ok-push_change.ensures.flagged id)
          ∙ c.loop-number.invariant.flagged id;
    }
