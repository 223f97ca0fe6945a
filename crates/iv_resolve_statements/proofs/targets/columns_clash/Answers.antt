use Rattle.std.proofs.Common.{◌∙◌, sym, ◌+◌, drop}
use Rattle.iv_resolve_scope.specs.Seen.{columns_seen}
use Rattle.iv_resolution.specs.Changes.{columns_clash, kinds_clash}
use Rattle.iv_resolve_statements.specs.Targets.{targets_seen}
use Rattle.iv_resolve_scope.proofs.Places.{or_true, or_false}
use Rattle.iv_resolve_statements.proofs.Pairs.{columns_step}
use Rattle.iv_resolve_statements.proofs.targets.columns_clash.Goals as goal

pub returns-then-kinds_clash : goal.returns-then-kinds_clash
returns-then-kinds_clash c =
    or_true (columns_clash (targets_seen c.args.targets.now) (columns_seen c.args.columns.now)) (kinds_clash c.in-Some.into c.in-Some-type_at.from)
    (columns_clash (drop (c.loop-at.at + 1) (targets_seen c.args.targets.now)) (drop (c.loop-at.at + 1) (columns_seen c.args.columns.now)))
    (c.loop-at.invariant ∙ columns_step (targets_seen c.args.targets.now) (columns_seen c.args.columns.now) c.loop-at.at c.in-Some.into c.in-Some-type_at.from (sym c.type_at.ensures ∙ c.in-Some.is) (sym c.in-Some-type_at.is ∙ c.type_at-in-loop-at.ensures))
    (sym c.kinds_clash.ensures ∙ c.if-kinds_clash.true)

pub loop-at-preserved : goal.loop-at-preserved
loop-at-preserved c =
    or_false (columns_clash (targets_seen c.args.targets.now) (columns_seen c.args.columns.now)) (kinds_clash c.in-Some.into c.in-Some-type_at.from)
    (columns_clash (drop (c.loop-at.at + 1) (targets_seen c.args.targets.now)) (drop (c.loop-at.at + 1) (columns_seen c.args.columns.now)))
    (c.loop-at.invariant ∙ columns_step (targets_seen c.args.targets.now) (columns_seen c.args.columns.now) c.loop-at.at c.in-Some.into c.in-Some-type_at.from (sym c.type_at.ensures ∙ c.in-Some.is) (sym c.in-Some-type_at.is ∙ c.type_at-in-loop-at.ensures))
    (sym c.kinds_clash.ensures ∙ c.if-kinds_clash.false)
