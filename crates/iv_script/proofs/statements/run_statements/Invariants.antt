use Rattle.std.proofs.Common.{◌≡◌, ◌≤◌, ◌+◌, length}
use Rattle.iv_step.specs.Pending.{FaultsRise}
use Rattle.iv_script.proofs.Runs.{Onward}
use Rattle.iv_script.proofs.statements.run_statements.Given as goal

abbrev pub invariant-loop-statement : goal.invariant-loop-statement
invariant-loop-statement g l = record {
  counted : l.number + length l.rest ≡ length l.statements;
  accepted_few : l.point.tally.accepted ≤ l.number;
  refused_few : l.point.tally.refused ≤ l.number;
  memory_refusals_few : l.point.tally.memory_refused ≤ l.number;
  untold_few : l.point.tally.untold ≤ l.number;
  asked : l.telling.style.explain ≡ (g.S.Executor.told l.session).asked;
  rise : FaultsRise l.point.listed.items;
  onward : Onward g.S.Executor.sure_store l.telling.style (g.S.Executor.state l.initial.session) (g.S.Executor.state l.session) l.point.listed.items l.statements l.rest l.number l.point.tally (g.W.Sink.state l.initial.writer) (g.W.Sink.state l.writer);
}

abbrev pub decreases-loop-statement : goal.decreases-loop-statement
decreases-loop-statement g l = length l.rest
