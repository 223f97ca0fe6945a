use Rattle.std.proofs.Common.{refl, sym, ap, ◌∙◌}
use Rattle.iv_laws_kept.specs.Kept.{is_referenced}
use Rattle.iv_laws_kept.specs.GroupFlags.{violating_of}
use Rattle.iv_store_violating.specs.Shown.{shown_of}
use Rattle.iv_store_following.specs.BorrowedChange.{is_key, is_one_key}
use Rattle.iv_store_following.proofs.Referenced.{half_way}
use Rattle.iv_store_following.proofs.Referring.{half_stays, later_stays, flagged_like, new_told, old_told, one_stays}
use Rattle.iv_store_following.proofs.Steps.{violating_stay}
use Rattle.iv_store_following.proofs.reference.refer_sides.Goals as goal

pub returns-then-is_one_key-clause-flagged : goal.returns-then-is_one_key-clause-flagged
returns-then-is_one_key-clause-flagged c = λ constraints id groups after all at is there present follow right.
    let r = c.args.r.now in
    violating_stay (is_referenced constraints groups r.key) (is_referenced constraints after r.key) c.args.constraint.now.rule (shown_of c.args.groups.now.groups c.args.id) (shown_of c.args.groups.now.groups c.args.id)
    (violating_of c.args.violating.now c.args.id) refl
    (one_stays r c.args.change.now constraints id c.args.constraint.now groups after all at is follow present
    ((λ i. is_one_key (sym c.old_referenced_key-old.ensures i) (sym c.new_referenced_key-new.ensures i)) ∙ sym c.is_one_key.ensures ∙ c.if-is_one_key.true)) right

pub returns-clause-flagged : goal.returns-clause-flagged
returns-clause-flagged c = λ constraints id groups after all at is there present follow right.
    let r = c.args.r.now in
    let change = c.args.change.now in
    let k = c.args.constraint.now.rule in
    let before = is_referenced constraints groups r.key in
    let later = is_referenced constraints after r.key in
    let half = half_way before later r.key change in
    flagged_like later k c.refer-2.new.groups.groups c.args.groups.now.groups c.args.id (violating_of c.refer-2.new.violating c.args.id)
    (sym (c.refer-2.ensures.kept ∙ c.refer.ensures.kept ∙ c.old_is_referenced-referenced.ensures.kept))
    (c.refer-2.ensures.flagged half later
    (λ key e. new_told r change constraints id c.args.constraint.now groups after all at is follow key (sym c.new_referenced_key-new.ensures ∙ e))
    (λ other given differs. later_stays r change constraints id c.args.constraint.now groups after all at is follow other given (ap (λ o. is_key o other) (sym c.new_referenced_key-new.ensures) ∙ differs))
    (c.refer.ensures.flagged before half
    (λ key e. old_told r change constraints id c.args.constraint.now groups after all at is follow (shown_of c.args.groups.now.groups r.named) c.old_is_referenced-referenced.result there c.old_is_referenced-referenced.ensures.told key (sym c.old_referenced_key-old.ensures ∙ e))
    (λ other given differs. half_stays r change constraints id c.args.constraint.now groups after all at is follow other given (ap (λ o. is_key o other) (sym c.old_referenced_key-old.ensures) ∙ differs))
    (flagged_like before k c.args.groups.now.groups c.old_is_referenced-referenced.new.groups.groups c.args.id (violating_of c.args.violating.now c.args.id) c.old_is_referenced-referenced.ensures.kept right)))
