use Rattle.std.proofs.Common.{◌≤◌, ◌+◌, length}
use Rattle.std.specs.Vec.{vec_capacity, vec_len}
use Rattle.iv_session.proofs.AllRan.{Ran}
use Rattle.iv_session.proofs.EachExecuted.{Went}
use Rattle.iv_session.proofs.session.Session.run_all.Given as goal

abbrev pub invariant-loop-statement : goal.invariant-loop-statement
invariant-loop-statement g l = record {
  room : vec_len l.outcomes + length l.rest ≤ vec_capacity l.outcomes;
  ran : Ran l.initial.self.state l.self.state l.statements l.rest l.outcomes.items;
  went : Went g.K.Keeper.sure l.initial.self l.self l.statements l.rest l.outcomes.items;
}

abbrev pub decreases-loop-statement : goal.decreases-loop-statement
decreases-loop-statement g l = length l.rest
