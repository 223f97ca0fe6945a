use Rattle.std.proofs.Common.{◌<◌, ◌∙◌, ◌++◌, [], ◌∷◌, length, ap, arith}
use Rattle.iv_expr.specs.Changes.{Wave}
use Rattle.iv_exec_triggers.proofs.Merges.{drop_read, older_step, newer_step, joined_step}
use Rattle.iv_exec_triggers.proofs.net.merge.Goals as goal

pub loop-at-preserved-then-before-after : goal.loop-at-preserved-then-before-after
loop-at-preserved-then-before-after c =
    let at_less : c.loop-at.at < length c.args.older.now = omega arith in
    let to_less : c.loop-at.to < length c.args.newer.now = omega arith in
    let pushed = c.in_ok-push.ensures.ok in
    let merging =
    older_step c.args.older.now c.args.newer.now c.loop-at.net.changes c.push.new.self.changes c.loop-at.at c.loop-at.to c.index-older-at.result c.index-newer-to.result
    c.loop-at.invariant.merging at_less to_less
    (drop_read c.args.older.now c.loop-at.at c.index-older-at.result c.index-older-at.is at_less)
    (drop_read c.args.newer.now c.loop-at.to c.index-newer-to.result c.index-newer-to.is to_less)
    c.if-before-after.true
    (ap (λ (w : Wave). w.changes) pushed ∙ ap (λ x. c.loop-at.net.changes ++ x ∷ []) c.in_ok-copy.ensures) in
    record { merging = merging; columns = ap (λ (w : Wave). w.columns) pushed ∙ c.loop-at.invariant.columns }

pub loop-at-preserved-then-after-before : goal.loop-at-preserved-then-after-before
loop-at-preserved-then-after-before c =
    let at_less : c.loop-at.at < length c.args.older.now = omega arith in
    let to_less : c.loop-at.to < length c.args.newer.now = omega arith in
    let pushed = c.in_ok-push-2.ensures.ok in
    let merging =
    newer_step c.args.older.now c.args.newer.now c.loop-at.net.changes c.push-then-after-before.new.self.changes c.loop-at.at c.loop-at.to c.index-older-at.result c.index-newer-to.result
    c.loop-at.invariant.merging at_less to_less
    (drop_read c.args.older.now c.loop-at.at c.index-older-at.result c.index-older-at.is at_less)
    (drop_read c.args.newer.now c.loop-at.to c.index-newer-to.result c.index-newer-to.is to_less)
    c.if-after-before.true
    (ap (λ (w : Wave). w.changes) pushed ∙ ap (λ x. c.loop-at.net.changes ++ x ∷ []) c.in_ok-copy-2.ensures) in
    record { merging = merging; columns = ap (λ (w : Wave). w.columns) pushed ∙ c.loop-at.invariant.columns }

pub loop-at-preserved : goal.loop-at-preserved
loop-at-preserved c =
    let at_less : c.loop-at.at < length c.args.older.now = omega arith in
    let to_less : c.loop-at.to < length c.args.newer.now = omega arith in
    let merging =
    joined_step c.args.older.now c.args.newer.now c.loop-at.net.changes c.push_joined.new.net.changes c.loop-at.at c.loop-at.to c.index-older-at.result c.index-newer-to.result
    c.loop-at.invariant.merging at_less to_less
    (drop_read c.args.older.now c.loop-at.at c.index-older-at.result c.index-older-at.is at_less)
    (drop_read c.args.newer.now c.loop-at.to c.index-newer-to.result c.index-newer-to.is to_less)
    (omega arith) c.in_ok-push_joined.ensures.changes c.in_ok-push_joined.ensures.last in
    record { merging = merging; columns = c.in_ok-push_joined.ensures.columns ∙ c.loop-at.invariant.columns }
