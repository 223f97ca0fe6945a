use Rattle.std.proofs.Common.{◌∙◌, sym, ap, ◌+◌, drop, option_map}
use Rattle.iv_resolution.specs.Scopes.{named_column, named_columns}
use Rattle.iv_resolve_reasons.specs.Seen.{shape_seen, target_seen, targets_named}
use Rattle.iv_resolve_reasons.specs.Shapes.{shape_of_column, shape_of_columns}
use Rattle.iv_resolve_reasons.proofs.Pairs.{found_first, found_later, none_mapped, some_mapped, columns_step}
use Rattle.iv_resolve_reasons.proofs.tuples.shape_of_columns.Goals as goal

pub loop-at-preserved : goal.loop-at-preserved
loop-at-preserved c =
    found_later (shape_of_columns c.args.table.now (targets_named c.args.targets.now) c.args.from.now (named_columns c.args.columns.now))
    (shape_of_column c.args.table.now (target_seen c.in-Some.target) c.args.from.now (named_column c.index-columns-at.result))
    (shape_of_columns c.args.table.now (drop (c.loop-at.at + 1) (targets_named c.args.targets.now)) c.args.from.now (named_columns (drop (c.loop-at.at + 1) c.args.columns.now)))
    (option_map shape_seen c.shape_of_column-fault.result)
    (c.loop-at.invariant
    ∙ columns_step c.args.table.now (targets_named c.args.targets.now) c.args.from.now c.args.columns.now c.loop-at.at (target_seen c.in-Some.target) c.index-columns-at.result
    (sym c.target_at.ensures ∙ ap (option_map target_seen) c.in-Some.is) c.loop-at-test.true c.index-columns-at.is)
    c.shape_of_column-fault.ensures
    (none_mapped shape_seen c.shape_of_column-fault.result (sym c.is_some.ensures ∙ c.if-is_some.false))

pub returns-then-is_some : goal.returns-then-is_some
returns-then-is_some c =
    found_first (shape_of_columns c.args.table.now (targets_named c.args.targets.now) c.args.from.now (named_columns c.args.columns.now))
    (shape_of_column c.args.table.now (target_seen c.in-Some.target) c.args.from.now (named_column c.index-columns-at.result))
    (shape_of_columns c.args.table.now (drop (c.loop-at.at + 1) (targets_named c.args.targets.now)) c.args.from.now (named_columns (drop (c.loop-at.at + 1) c.args.columns.now)))
    (option_map shape_seen c.shape_of_column-fault.result)
    (c.loop-at.invariant
    ∙ columns_step c.args.table.now (targets_named c.args.targets.now) c.args.from.now c.args.columns.now c.loop-at.at (target_seen c.in-Some.target) c.index-columns-at.result
    (sym c.target_at.ensures ∙ ap (option_map target_seen) c.in-Some.is) c.loop-at-test.true c.index-columns-at.is)
    c.shape_of_column-fault.ensures
    (some_mapped shape_seen c.shape_of_column-fault.result (sym c.is_some.ensures ∙ c.if-is_some.true))
