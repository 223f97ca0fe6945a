use Rattle.std.proofs.Common.{◌∙◌, sym, ◌+◌, drop}
use Rattle.iv_resolve_scope.specs.Seen.{ranges_seen}
use Rattle.iv_resolution.specs.Changes.{clashes_with, values_clash}
use Rattle.iv_resolve_statements.specs.Targets.{targets_seen}
use Rattle.iv_resolve_scope.proofs.Places.{or_true, or_false}
use Rattle.iv_resolve_statements.proofs.Pairs.{values_step}
use Rattle.iv_resolve_statements.proofs.targets.values_clash.Goals as goal

pub returns-then-clashes_with : goal.returns-then-clashes_with
returns-then-clashes_with c =
    or_true (values_clash (targets_seen c.args.targets.now) (ranges_seen c.args.ranges.now) c.args.values.now) (clashes_with c.in-Some.kind (ranges_seen c.args.ranges.now) c.index-values-at.result)
    (values_clash (drop (c.loop-at.at + 1) (targets_seen c.args.targets.now)) (ranges_seen c.args.ranges.now) (drop (c.loop-at.at + 1) c.args.values.now))
    (c.loop-at.invariant ∙ values_step (targets_seen c.args.targets.now) (ranges_seen c.args.ranges.now) c.args.values.now c.loop-at.at c.in-Some.kind c.index-values-at.result (sym c.type_at.ensures ∙ c.in-Some.is) c.loop-at-test.true c.index-values-at.is)
    (sym c.clashes_with.ensures ∙ c.if-clashes_with.true)

pub loop-at-preserved : goal.loop-at-preserved
loop-at-preserved c =
    or_false (values_clash (targets_seen c.args.targets.now) (ranges_seen c.args.ranges.now) c.args.values.now) (clashes_with c.in-Some.kind (ranges_seen c.args.ranges.now) c.index-values-at.result)
    (values_clash (drop (c.loop-at.at + 1) (targets_seen c.args.targets.now)) (ranges_seen c.args.ranges.now) (drop (c.loop-at.at + 1) c.args.values.now))
    (c.loop-at.invariant ∙ values_step (targets_seen c.args.targets.now) (ranges_seen c.args.ranges.now) c.args.values.now c.loop-at.at c.in-Some.kind c.index-values-at.result (sym c.type_at.ensures ∙ c.in-Some.is) c.loop-at-test.true c.index-values-at.is)
    (sym c.clashes_with.ensures ∙ c.if-clashes_with.false)
