use Rattle.std.proofs.Common.{ap, ◌∙◌}
use Rattle.iv_laws_kept.specs.Kept.{is_referenced}
use Rattle.iv_laws_kept.specs.GroupFlags.{violating_of}
use Rattle.iv_store_following.proofs.Referring.{flagged_like, side_parts}
use Rattle.iv_store_following.proofs.reference.move_child.Goals as goal

pub returns-clause-flagged : goal.returns-clause-flagged
returns-clause-flagged c = λ constraints id after all at is there right.
    let r = c.args.r.now in
    let later = is_referenced constraints after r.key in
    c.move_row.ensures.flagged later
    (λ key moves e given.
    let parts = side_parts c.args.constraint.now r.key c.args.change.now.table c.args.change.now.new key is.rule_is e given in
    ap later parts.2 ∙ c.moved_is_referenced-referenced.ensures.told moves parts.0 parts.1 constraints id c.args.constraint.now after all at is there)
    (flagged_like later c.args.constraint.now.rule c.args.groups.now.groups c.moved_is_referenced-referenced.new.groups.groups c.args.id (violating_of c.args.violating.now c.args.id) c.moved_is_referenced-referenced.ensures.kept right)
