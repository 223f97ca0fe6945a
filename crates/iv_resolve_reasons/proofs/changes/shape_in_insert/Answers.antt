use Rattle.std.proofs.Common.{ℕ, List, ◌∙◌, ap, sym}
use Rattle.iv_catalogue.specs.declared.catalogue.Column.{Column}
use Rattle.iv_resolution.specs.Changes.{stored_columns}
use Rattle.iv_resolution.specs.Scopes.{named_columns}
use Rattle.iv_resolve_scope.specs.Seen.{ranges_seen}
use Rattle.iv_resolve_reasons.specs.Seen.{scope_seen}
use Rattle.iv_resolve_reasons.specs.Shapes.{Target, shape_in_insert, shape_of_source, targets_of}
use Rattle.iv_resolve_reasons.proofs.changes.shape_in_insert.Goals as goal

pub returns-in-Rows : goal.returns-in-Rows
returns-in-Rows c =
    c.shape_of_source.ensures
    ∙ ap (λ (ts : List Target). shape_of_source c.as_str-name.result.now ts (scope_seen c.args.scope.now) (ranges_seen c.args.ranges.now) c.in-Rows.source)
    (c.targets_of-targets.ensures ∙ ap (λ (cs : List Column). targets_of (named_columns cs) c.in-Rows.columns) c.stored_columns-stored.ensures)
    ∙ ap (λ (n : List ℕ). shape_of_source n (targets_of (named_columns (stored_columns c.args.scope.now.tables.now n)) c.in-Rows.columns) (scope_seen c.args.scope.now) (ranges_seen c.args.ranges.now) c.in-Rows.source) c.as_str-name.ensures
    ∙ ap (shape_in_insert (scope_seen c.args.scope.now) (ranges_seen c.args.ranges.now)) (sym c.in-Rows.is)
