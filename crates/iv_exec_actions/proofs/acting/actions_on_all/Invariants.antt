use Rattle.std.proofs.Common.{◌≡◌, ◌++◌, drop}
use Rattle.iv_exec_actions.specs.RowActions.{actions_on_all}
use Rattle.iv_exec_actions.proofs.acting.actions_on_all.Given as goal

abbrev pub invariant-loop-change : goal.invariant-loop-change
invariant-loop-change g l =
    let later = (g.K.ReferencingRows.view l.store).base.rows in
    l.actions.items ++ actions_on_all l.affected_keys l.changes later (drop l.change-index l.next)
    ≡ actions_on_all l.affected_keys l.changes later l.next
