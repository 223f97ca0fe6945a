use Rattle.iv_restate.specs.Seen.{naming_seen, ranges_seen}
use Rattle.iv_restate.proofs.Steps.{exists_written}
use Rattle.iv_restate.proofs.condition.+condition_of.Goals as goal

pub condition_of-returns-in-Exists : goal.condition_of-returns-in-Exists
condition_of-returns-in-Exists t c =
    exists_written (naming_seen c.args.naming.now) (ranges_seen c.args.scope.now) c.in-Exists.range c.args.cond.now c.in-Exists.a c.get-in-Exists.result.now
    c.exists_of.result c.in-Exists.is c.get-in-Exists.ensures c.exists_of.ensures
