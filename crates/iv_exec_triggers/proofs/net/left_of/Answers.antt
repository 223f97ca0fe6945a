use Rattle.std.proofs.Common.{◌≡◌, ◌+◌, ◌∙◌, ◌++◌, ◌≤◌, [], ◌∷◌, drop, filter_map, ap, sym, subst, arith}
use Rattle.std.specs.List.{cons_option}
use Rattle.iv_expr.specs.Changes.{Wave, RisingChangesFrom, last_row}
use Rattle.iv_exec_triggers.specs.Merging.{kept}
use Rattle.iv_exec_triggers.proofs.ChangesAt.{rising_lower}
use Rattle.iv_exec_triggers.proofs.Merges.{drop_read, kept_so_far}
use Rattle.iv_exec_triggers.proofs.net.left_of.Goals as goal

pub loop-change-preserved : goal.loop-change-preserved
loop-change-preserved c =
    let next : drop c.loop-change.change-index c.args.wave.now ≡ c.change-item.result ∷ drop (c.loop-change.change-index + 1) c.args.wave.now =
    drop_read c.args.wave.now c.loop-change.change-index c.change-item.result c.change-item.is (omega arith) in
    let copy : c.in_ok-copy.copy ≡ c.change-item.result = c.in_ok-copy.ensures in
    let more : c.push_kept.new.net.changes ≡ c.loop-change.left.changes ++ cons_option (kept c.change-item.result) [] =
    c.in_ok-push_kept.ensures.changes ∙ ap (λ x. c.loop-change.left.changes ++ cons_option (kept x) []) copy in
    let last : last_row c.push_kept.new.net.changes ≤ c.change-item.result.row = subst (λ x. last_row c.push_kept.new.net.changes ≤ x.row) copy c.in_ok-push_kept.ensures.last in
    let changes =
    kept_so_far c.loop-change.left.changes c.push_kept.new.net.changes (filter_map kept (drop (c.loop-change.change-index + 1) c.args.wave.now)) c.change-item.result more
    ∙ ap (λ l. c.loop-change.left.changes ++ filter_map kept l) (sym next) ∙ ap (λ (w : Wave). w.changes) c.loop-change.invariant.so_far in
    let columns = c.in_ok-push_kept.ensures.columns ∙ ap (λ (w : Wave). w.columns) c.loop-change.invariant.so_far in
    let rises = subst (RisingChangesFrom (last_row c.loop-change.left.changes)) next c.loop-change.invariant.rises in
    record {
      so_far = λ i. record { changes = changes i; columns = columns i };
      rises = rising_lower _ _ _ last rises.1;
    }
