use Rattle.std.proofs.Common.{◌∙◌, sym, ap, ◌+◌, drop, option_map}
use Rattle.iv_resolve_scope.specs.Seen.{ranges_seen}
use Rattle.iv_resolve_reasons.specs.Seen.{shape_seen, target_seen, targets_named}
use Rattle.iv_resolve_reasons.specs.Shapes.{shape_of_value, shape_of_values}
use Rattle.iv_resolve_reasons.proofs.Pairs.{found_first, found_later, none_mapped, some_mapped, values_step}
use Rattle.iv_resolve_reasons.proofs.tuples.shape_of_values.Goals as goal

pub loop-at-preserved : goal.loop-at-preserved
loop-at-preserved c =
    found_later (shape_of_values c.args.table.now (targets_named c.args.targets.now) (ranges_seen c.args.ranges.now) c.args.tuple.now)
    (shape_of_value c.args.table.now (target_seen c.in-Some.target) (ranges_seen c.args.ranges.now) c.index-tuple-at.result)
    (shape_of_values c.args.table.now (drop (c.loop-at.at + 1) (targets_named c.args.targets.now)) (ranges_seen c.args.ranges.now) (drop (c.loop-at.at + 1) c.args.tuple.now))
    (option_map shape_seen c.shape_of_value-fault.result)
    (c.loop-at.invariant
    ∙ values_step c.args.table.now (targets_named c.args.targets.now) (ranges_seen c.args.ranges.now) c.args.tuple.now c.loop-at.at (target_seen c.in-Some.target) c.index-tuple-at.result
    (sym c.target_at.ensures ∙ ap (option_map target_seen) c.in-Some.is) c.loop-at-test.true c.index-tuple-at.is)
    c.shape_of_value-fault.ensures
    (none_mapped shape_seen c.shape_of_value-fault.result (sym c.is_some.ensures ∙ c.if-is_some.false))

pub returns-then-is_some : goal.returns-then-is_some
returns-then-is_some c =
    found_first (shape_of_values c.args.table.now (targets_named c.args.targets.now) (ranges_seen c.args.ranges.now) c.args.tuple.now)
    (shape_of_value c.args.table.now (target_seen c.in-Some.target) (ranges_seen c.args.ranges.now) c.index-tuple-at.result)
    (shape_of_values c.args.table.now (drop (c.loop-at.at + 1) (targets_named c.args.targets.now)) (ranges_seen c.args.ranges.now) (drop (c.loop-at.at + 1) c.args.tuple.now))
    (option_map shape_seen c.shape_of_value-fault.result)
    (c.loop-at.invariant
    ∙ values_step c.args.table.now (targets_named c.args.targets.now) (ranges_seen c.args.ranges.now) c.args.tuple.now c.loop-at.at (target_seen c.in-Some.target) c.index-tuple-at.result
    (sym c.target_at.ensures ∙ ap (option_map target_seen) c.in-Some.is) c.loop-at-test.true c.index-tuple-at.is)
    c.shape_of_value-fault.ensures
    (some_mapped shape_seen c.shape_of_value-fault.result (sym c.is_some.ensures ∙ c.if-is_some.true))
