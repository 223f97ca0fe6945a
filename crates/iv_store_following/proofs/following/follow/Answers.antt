use Rattle.iv_store_following.proofs.Follows.{is_present, named_apart, whole}
use Rattle.iv_store_following.proofs.following.follow.Goals as goal

pub move_references-requires-clause-named : goal.move_references-requires-clause-named
move_references-requires-clause-named c = λ k r e.
    named_apart c.args.lists.now.constraints.now c.args.lists.now.references.now c.args.change.now.table c.args.lists.now.keys.now c.args.lists.now.foreign_keys.now c.move_keys.new.groups.groups c.move_keys.new.violating
    c.requires.met c.requires.references c.requires.named (λ n less. c.move_keys.ensures.watched n (c.requires.watched n less)) k r e

pub returns : goal.returns
returns c =
    whole c.args.lists.now.constraints.now c.args.lists.now.references.now c.args.change.now c.args.lists.now.keys.now c.args.lists.now.foreign_keys.now c.requires.met c.requires.references c.requires.named
    c.args.groups.now c.move_keys.new.groups c.move_references.new.groups c.args.violating.now c.move_keys.new.violating c.move_references.new.violating
    (is_present c.args.lists.now.constraints.now c.args.change.now c.args.groups.now.groups c.requires.ready) c.move_keys.ensures c.move_references.ensures
