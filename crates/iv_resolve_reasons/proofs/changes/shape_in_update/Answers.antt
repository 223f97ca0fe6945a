use Rattle.std.proofs.Common.{option_map}
use Rattle.iv_resolve_scope.specs.Seen.{names_seen, ranges_seen}
use Rattle.iv_resolve_reasons.specs.Seen.{scope_seen, shape_seen}
use Rattle.iv_resolve_reasons.proofs.Targeted.{update_by}
use Rattle.iv_resolve_reasons.proofs.changes.shape_in_update.Goals as goal

pub returns : goal.returns
returns c =
    update_by (scope_seen c.args.scope.now) (names_seen c.scope_names-names.result) (ranges_seen c.args.ranges.now) c.args.update.now c.as_str-table.result.now c.stored_columns.result.now
    (option_map shape_seen c.shape_in_set-set.result) (option_map shape_seen c.shape_in_filter.result) (option_map shape_seen c.first_shape.result)
    c.first_shape.ensures c.as_str-table.ensures c.stored_columns.ensures c.scope_names-names.ensures.names c.shape_in_set-set.ensures c.shape_in_filter.ensures
