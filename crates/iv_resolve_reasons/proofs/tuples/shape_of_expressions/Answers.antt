use Rattle.std.proofs.Common.{◌∙◌, sym, ap, ◌+◌, drop, option_map}
use Rattle.iv_resolve_scope.specs.Seen.{ranges_seen}
use Rattle.iv_resolve_reasons.specs.Seen.{shape_seen, target_seen, targets_named}
use Rattle.iv_resolve_reasons.specs.Shapes.{shape_of_expression, shape_of_expressions}
use Rattle.iv_resolve_reasons.proofs.Pairs.{found_first, found_later, none_mapped, some_mapped, expressions_step}
use Rattle.iv_resolve_reasons.proofs.tuples.shape_of_expressions.Goals as goal

pub loop-at-preserved : goal.loop-at-preserved
loop-at-preserved c =
    found_later (shape_of_expressions c.args.table.now (targets_named c.args.targets.now) (ranges_seen c.args.ranges.now) c.args.values.now)
    (shape_of_expression c.args.table.now (target_seen c.in-Some.target) (ranges_seen c.args.ranges.now) c.index-values-at.result)
    (shape_of_expressions c.args.table.now (drop (c.loop-at.at + 1) (targets_named c.args.targets.now)) (ranges_seen c.args.ranges.now) (drop (c.loop-at.at + 1) c.args.values.now))
    (option_map shape_seen c.shape_of_expression-fault.result)
    (c.loop-at.invariant
    ∙ expressions_step c.args.table.now (targets_named c.args.targets.now) (ranges_seen c.args.ranges.now) c.args.values.now c.loop-at.at (target_seen c.in-Some.target) c.index-values-at.result
    (sym c.target_at.ensures ∙ ap (option_map target_seen) c.in-Some.is) c.loop-at-test.true c.index-values-at.is)
    c.shape_of_expression-fault.ensures
    (none_mapped shape_seen c.shape_of_expression-fault.result (sym c.is_some.ensures ∙ c.if-is_some.false))

pub returns-then-is_some : goal.returns-then-is_some
returns-then-is_some c =
    found_first (shape_of_expressions c.args.table.now (targets_named c.args.targets.now) (ranges_seen c.args.ranges.now) c.args.values.now)
    (shape_of_expression c.args.table.now (target_seen c.in-Some.target) (ranges_seen c.args.ranges.now) c.index-values-at.result)
    (shape_of_expressions c.args.table.now (drop (c.loop-at.at + 1) (targets_named c.args.targets.now)) (ranges_seen c.args.ranges.now) (drop (c.loop-at.at + 1) c.args.values.now))
    (option_map shape_seen c.shape_of_expression-fault.result)
    (c.loop-at.invariant
    ∙ expressions_step c.args.table.now (targets_named c.args.targets.now) (ranges_seen c.args.ranges.now) c.args.values.now c.loop-at.at (target_seen c.in-Some.target) c.index-values-at.result
    (sym c.target_at.ensures ∙ ap (option_map target_seen) c.in-Some.is) c.loop-at-test.true c.index-values-at.is)
    c.shape_of_expression-fault.ensures
    (some_mapped shape_seen c.shape_of_expression-fault.result (sym c.is_some.ensures ∙ c.if-is_some.true))
