use Rattle.std.proofs.Common.{◌≡◌, drop}
use Rattle.iv_account.specs.Accounts.{faults_told}
use Rattle.iv_account.specs.Telling.{and_told}
use Rattle.iv_state.proofs.telling.tell_faults.Given as goal

abbrev pub invariant-loop-fault : goal.invariant-loop-fault
invariant-loop-fault g l =
    let rows = (g.K.ReferencingRows.view l.store).base.rows in
    and_told l.account (faults_told l.catalogue rows (drop l.fault-index l.faults)) ≡ and_told l.initial.account (faults_told l.catalogue rows l.faults)
