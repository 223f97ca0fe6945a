use Rattle.std.proofs.Common.{◌∙◌, sym, ◌+◌, drop}
use Rattle.iv_resolve_scope.specs.Seen.{ranges_seen}
use Rattle.iv_resolution.specs.Changes.{tuple_clashes, value_clashes}
use Rattle.iv_resolve_statements.specs.Targets.{targets_seen}
use Rattle.iv_resolve_scope.proofs.Places.{or_true, or_false}
use Rattle.iv_resolve_statements.proofs.Pairs.{tuple_step}
use Rattle.iv_resolve_statements.proofs.targets.tuple_clashes.Goals as goal

pub returns-then-value_clashes : goal.returns-then-value_clashes
returns-then-value_clashes c =
    or_true (tuple_clashes (targets_seen c.args.targets.now) (ranges_seen c.args.ranges.now) c.args.tuple.now) (value_clashes c.in-Some.kind (ranges_seen c.args.ranges.now) c.index-tuple-at.result)
    (tuple_clashes (drop (c.loop-at.at + 1) (targets_seen c.args.targets.now)) (ranges_seen c.args.ranges.now) (drop (c.loop-at.at + 1) c.args.tuple.now))
    (c.loop-at.invariant ∙ tuple_step (targets_seen c.args.targets.now) (ranges_seen c.args.ranges.now) c.args.tuple.now c.loop-at.at c.in-Some.kind c.index-tuple-at.result (sym c.type_at.ensures ∙ c.in-Some.is) c.loop-at-test.true c.index-tuple-at.is)
    (sym c.value_clashes.ensures ∙ c.if-value_clashes.true)

pub loop-at-preserved : goal.loop-at-preserved
loop-at-preserved c =
    or_false (tuple_clashes (targets_seen c.args.targets.now) (ranges_seen c.args.ranges.now) c.args.tuple.now) (value_clashes c.in-Some.kind (ranges_seen c.args.ranges.now) c.index-tuple-at.result)
    (tuple_clashes (drop (c.loop-at.at + 1) (targets_seen c.args.targets.now)) (ranges_seen c.args.ranges.now) (drop (c.loop-at.at + 1) c.args.tuple.now))
    (c.loop-at.invariant ∙ tuple_step (targets_seen c.args.targets.now) (ranges_seen c.args.ranges.now) c.args.tuple.now c.loop-at.at c.in-Some.kind c.index-tuple-at.result (sym c.type_at.ensures ∙ c.in-Some.is) c.loop-at-test.true c.index-tuple-at.is)
    (sym c.value_clashes.ensures ∙ c.if-value_clashes.false)
