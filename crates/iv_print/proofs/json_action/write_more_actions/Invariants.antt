use Rattle.std.proofs.Common.{length}
use Rattle.std.specs.List.{flat_map}
use Rattle.iv_print.specs.JsonAccounts.{further_action}
use Rattle.iv_text.proofs.WriteLemmas.{Wrote}
use Rattle.iv_print.proofs.json_action.write_more_actions.Given as goal

abbrev pub invariant-loop-acted : goal.invariant-loop-acted
invariant-loop-acted g l =
    Wrote (flat_map (further_action l.fn.catalogue) l.fn.actions) (flat_map (further_action l.fn.catalogue) l.rest) (g.W.Sink.state l.initial.sink) (g.W.Sink.state l.sink)

abbrev pub decreases-loop-acted : goal.decreases-loop-acted
decreases-loop-acted g l = length l.rest
