use Rattle.std.proofs.Common.{◌≡◌, ◌<◌, ◌++◌, [], ◌∷◌, sym}
use Rattle.iv_expr.specs.Changes.{last_row}
use Rattle.iv_expr.proofs.Changes.{rising_push, last_row_push}
use Rattle.iv_expr.proofs.wave.Wave.push.Goals as goal

pub invariant_of-self-2 : goal.invariant_of-self-2
invariant_of-self-2 c =
    let before = c.self.inside.changes.items in
    let above : last_row before < c.args.change.row = rw (← c.self.view_is) at c.requires in
    let after : c.push.new.self.items ≡ before ++ c.args.change ∷ [] = c.in_ok-push.ensures.items in
    rw after (sym (last_row_push before c.args.change), rising_push before c.args.change c.self.invariant.1 above)
