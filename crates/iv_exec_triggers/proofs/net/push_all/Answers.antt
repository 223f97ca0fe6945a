use Rattle.std.proofs.Common.{◌≡◌, ◌+◌, ◌∙◌, ◌++◌, [], ◌∷◌, drop, ap, sym, subst, arith}
use Rattle.iv_expr.specs.Changes.{Wave, RisingChangesFrom, last_row}
use Rattle.iv_exec_triggers.proofs.Merges.{drop_read, pushed_rises, pushed_so_far}
use Rattle.iv_exec_triggers.proofs.net.push_all.Goals as goal

pub loop-change-preserved : goal.loop-change-preserved
loop-change-preserved c =
    let next : drop c.loop-change.change-index c.args.more.now ≡ c.change-item.result ∷ drop (c.loop-change.change-index + 1) c.args.more.now =
    drop_read c.args.more.now c.loop-change.change-index c.change-item.result c.change-item.is (omega arith) in
    let copy : c.in_ok-copy.copy ≡ c.change-item.result = c.in_ok-copy.ensures in
    let more : c.push.new.self.changes ≡ c.loop-change.net.changes ++ c.change-item.result ∷ [] = ap (λ (w : Wave). w.changes) c.in_ok-push.ensures.ok ∙ ap (λ x. c.loop-change.net.changes ++ x ∷ []) copy in
    record {
      so_far = pushed_so_far _ _ _ _ more ∙ ap (λ l. c.loop-change.net.changes ++ l) (sym next) ∙ c.loop-change.invariant.so_far;
      columns = ap (λ (w : Wave). w.columns) c.in_ok-push.ensures.ok ∙ c.loop-change.invariant.columns;
      rises = pushed_rises _ _ _ _ more (subst (RisingChangesFrom (last_row c.loop-change.net.changes)) next c.loop-change.invariant.rises);
    }
