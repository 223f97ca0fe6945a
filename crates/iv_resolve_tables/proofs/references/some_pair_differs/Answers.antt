use Rattle.std.proofs.Common.{◌∙◌, ◌+◌, Option, sym, ap, drop, zip}
use Rattle.iv_syntax.specs.declared.table.ColumnType.{ColumnType}
use Rattle.iv_resolution.specs.Constraints.{types_differ}
use Rattle.iv_resolution.specs.Scopes.{type_named}
use Rattle.iv_resolve_scope.specs.Seen.{columns_seen}
use Rattle.iv_resolve_scope.proofs.Places.{or_true, or_false}
use Rattle.iv_resolve_tables.specs.Keys.{key_names}
use Rattle.iv_resolve_tables.specs.Pairs.{some_pair_differs}
use Rattle.iv_resolve_tables.proofs.ReferencePairs.{pair_step}
use Rattle.iv_resolve_tables.proofs.references.some_pair_differs.Goals as goal

pub returns-then-types_differ : goal.returns-then-types_differ
returns-then-types_differ c =
    or_true (some_pair_differs (columns_seen c.args.columns.now) (columns_seen c.args.others.now) (zip c.args.referencing.now (key_names c.args.referenced.now)))
    (types_differ (type_named (columns_seen c.args.columns.now) c.index-referencing-at.result) (type_named (columns_seen c.args.others.now) c.in-Some.name.now))
    (some_pair_differs (columns_seen c.args.columns.now) (columns_seen c.args.others.now) (zip (drop (c.loop-at.at + 1) c.args.referencing.now) (drop (c.loop-at.at + 1) (key_names c.args.referenced.now))))
    (c.loop-at.invariant ∙ pair_step (columns_seen c.args.columns.now) (columns_seen c.args.others.now) c.args.referencing.now (key_names c.args.referenced.now) c.loop-at.at c.index-referencing-at.result c.in-Some.name.now c.loop-at-test.true c.index-referencing-at.is (sym c.in-Some.ensures))
    (ap (λ t. types_differ (type_named (columns_seen c.args.columns.now) t) (type_named (columns_seen c.args.others.now) c.in-Some.name.now)) (sym c.as_str.ensures)
    ∙ ap (λ (o : Option ColumnType). types_differ o (type_named (columns_seen c.args.others.now) c.in-Some.name.now)) (sym c.type_named-kind.ensures)
    ∙ ap (types_differ c.type_named-kind.result) (sym c.type_named.ensures) ∙ sym c.types_differ.ensures ∙ c.if-types_differ.true)

pub loop-at-preserved : goal.loop-at-preserved
loop-at-preserved c =
    or_false (some_pair_differs (columns_seen c.args.columns.now) (columns_seen c.args.others.now) (zip c.args.referencing.now (key_names c.args.referenced.now)))
    (types_differ (type_named (columns_seen c.args.columns.now) c.index-referencing-at.result) (type_named (columns_seen c.args.others.now) c.in-Some.name.now))
    (some_pair_differs (columns_seen c.args.columns.now) (columns_seen c.args.others.now) (zip (drop (c.loop-at.at + 1) c.args.referencing.now) (drop (c.loop-at.at + 1) (key_names c.args.referenced.now))))
    (c.loop-at.invariant ∙ pair_step (columns_seen c.args.columns.now) (columns_seen c.args.others.now) c.args.referencing.now (key_names c.args.referenced.now) c.loop-at.at c.index-referencing-at.result c.in-Some.name.now c.loop-at-test.true c.index-referencing-at.is (sym c.in-Some.ensures))
    (ap (λ t. types_differ (type_named (columns_seen c.args.columns.now) t) (type_named (columns_seen c.args.others.now) c.in-Some.name.now)) (sym c.as_str.ensures)
    ∙ ap (λ (o : Option ColumnType). types_differ o (type_named (columns_seen c.args.others.now) c.in-Some.name.now)) (sym c.type_named-kind.ensures)
    ∙ ap (types_differ c.type_named-kind.result) (sym c.type_named.ensures) ∙ sym c.types_differ.ensures ∙ c.if-types_differ.false)
