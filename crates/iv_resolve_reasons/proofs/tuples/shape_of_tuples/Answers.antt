use Rattle.std.proofs.Common.{List, ◌∙◌, sym, ap, ◌+◌, drop, option_map}
use Rattle.iv_syntax.specs.declared.statement.ValueOrDefault.{ValueOrDefault}
use Rattle.iv_resolve_scope.specs.Seen.{ranges_seen}
use Rattle.iv_resolve_reasons.specs.Seen.{shape_seen, targets_named}
use Rattle.iv_resolve_reasons.specs.Shapes.{shape_of_tuple, shape_of_tuples}
use Rattle.iv_resolve_reasons.proofs.Pairs.{found_later, none_mapped, tuples_step}
use Rattle.iv_resolve_reasons.proofs.tuples.shape_of_tuples.Goals as goal

pub loop-at-preserved : goal.loop-at-preserved
loop-at-preserved c =
    found_later (shape_of_tuples c.args.table.now (targets_named c.args.targets.now) (ranges_seen c.args.ranges.now) 1 c.args.tuples.now)
    (shape_of_tuple c.args.table.now (targets_named c.args.targets.now) (ranges_seen c.args.ranges.now) (c.loop-at.at + 1) c.index-tuples-at.result)
    (shape_of_tuples c.args.table.now (targets_named c.args.targets.now) (ranges_seen c.args.ranges.now) (c.loop-at.at + 1 + 1) (drop (c.loop-at.at + 1) c.args.tuples.now))
    (option_map shape_seen c.shape_of_tuple-fault.result)
    (c.loop-at.invariant
    ∙ tuples_step c.args.table.now (targets_named c.args.targets.now) (ranges_seen c.args.ranges.now) (c.loop-at.at + 1) c.args.tuples.now c.loop-at.at c.index-tuples-at.result
    c.loop-at-test.true c.index-tuples-at.is)
    (c.shape_of_tuple-fault.ensures
    ∙ ap (λ (t : List ValueOrDefault). shape_of_tuple c.args.table.now (targets_named c.args.targets.now) (ranges_seen c.args.ranges.now) (c.loop-at.at + 1) t) c.as_slice-tuple.ensures)
    (none_mapped shape_seen c.shape_of_tuple-fault.result (sym c.is_some.ensures ∙ c.if-is_some.false))
