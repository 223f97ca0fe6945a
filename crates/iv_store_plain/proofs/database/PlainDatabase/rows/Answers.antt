use Rattle.std.proofs.Common.{subst}
use Rattle.iv_expr.specs.Scopes.{Rises}
use Rattle.iv_machine.proofs.OneChange.{rises}
use Rattle.iv_store_plain.proofs.database.PlainDatabase.rows.Goals as goal

pub returns-clause-rising : goal.returns-clause-rising
returns-clause-rising c =
    subst (λ d. Rises 0 d.rows) c.self.view_is (rises 0 c.self.inside.rows.items c.self.inside.next c.self.invariant.rising c.self.invariant.next)
