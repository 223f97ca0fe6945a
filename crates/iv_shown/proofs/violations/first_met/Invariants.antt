use Rattle.std.proofs.Common.{◌≡◌, drop}
use Rattle.iv_shown.specs.Pending.{first_met}
use Rattle.iv_shown.proofs.violations.first_met.Given as goal

abbrev pub invariant-loop-fault : goal.invariant-loop-fault
invariant-loop-fault l =
    first_met l.session.state.database.rows (drop l.fault-index l.pending) l.own l.constraint l.row
    ≡ first_met l.session.state.database.rows l.pending l.own l.constraint l.row
