use Rattle.iv_laws_kept.specs.GroupFlags.{violating_of}
use Rattle.iv_store_following.proofs.Referring.{both_moved}
use Rattle.iv_store_following.proofs.reference.move_reference.Goals as goal

pub returns-clause-moved : goal.returns-clause-moved
returns-clause-moved c =
    both_moved c.args.r.now c.args.change.now c.args.constraint.now c.args.groups.now.groups c.refer_sides.new.groups.groups c.move_child.new.groups.groups c.args.id
    (violating_of c.args.violating.now c.args.id) (violating_of c.refer_sides.new.violating c.args.id) (violating_of c.move_child.new.violating c.args.id)
    c.refer_sides.ensures.kept c.refer_sides.ensures.flagged c.move_child.ensures.moved c.move_child.ensures.flagged
