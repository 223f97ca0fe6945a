use Rattle.std.proofs.Common.{sym, ◌∙◌}
use Rattle.iv_store_groups.specs.Groups.{groups_of}
use Rattle.iv_store_violating.specs.Shown.{shown_of}
use Rattle.iv_store_following.specs.BorrowedChange.{is_one_key}
use Rattle.iv_store_following.proofs.NoGroups.{none_counted, none_kept}
use Rattle.iv_store_following.proofs.SideKeys.{stays_moved}
use Rattle.iv_store_following.proofs.step.move_row.Goals as goal

pub returns-then-count_groups-eq0-clause-moved : goal.returns-then-count_groups-eq0-clause-moved
returns-then-count_groups-eq0-clause-moved c = λ key.
    let groups = groups_of c.args.groups.now.groups c.args.id in
    stays_moved c.args.constraint.now c.args.change.now (shown_of c.args.groups.now.groups c.args.id) key
    (none_kept c.args.change.now c.args.constraint.now groups
    (none_counted groups c.count_groups.result c.count_groups.ensures.count c.if-count_groups-eq0.true) c.requires.ready)
    c.requires.ready.present (c.recall_order.ensures c.args.id key)

pub returns-then-is_one_key-clause-moved : goal.returns-then-is_one_key-clause-moved
returns-then-is_one_key-clause-moved c = λ key.
    stays_moved c.args.constraint.now c.args.change.now (shown_of c.args.groups.now.groups c.args.id) key
    ((λ i. is_one_key (sym c.old_key-old.ensures i) (sym c.new_key-new.ensures i)) ∙ sym c.is_one_key.ensures ∙ c.if-is_one_key.true)
    c.requires.ready.present (c.recall_order.ensures c.args.id key)
