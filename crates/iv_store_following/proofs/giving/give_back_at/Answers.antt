use Rattle.std.proofs.Common.{◌≡◌, ℕ, ◌-◌, Bool, length, ap, sym, ◌∙◌, subst}
use Rattle.iv_store_groups.specs.Groups.{groups_of}
use Rattle.iv_laws_kept.specs.GroupFlags.{violating_of}
use Rattle.iv_store_violating.specs.Flagging.{flag}
use Rattle.iv_store_following.specs.Turns.{moved_flag}
use Rattle.iv_store_following.proofs.Given.{all_given_dead, all_given_live}
use Rattle.iv_store_following.proofs.giving.give_back_at.Goals as goal

pub returns-then-give_back : goal.returns-then-give_back
returns-then-give_back c =
    all_given_dead c.args.groups.now c.give_back.new.self c.args.violating.now c.follow_group.new.violating c.args.id c.args.place
    (c.recall_groups.ensures.apart c.args.id) c.requires.watched.in_groups c.requires.place c.give_back.ensures.groups
    (sym c.give_back.ensures.dead ∙ c.if-give_back.true) c.follow_group.ensures.count c.follow_group.ensures.places c.follow_group.ensures.others
    (λ p. c.follow_group.ensures.flags p
    ∙ ap (λ (n : ℕ). moved_flag (flag (violating_of c.args.violating.now c.args.id) (n - 1)) (n - 1) c.args.place p (flag (violating_of c.args.violating.now c.args.id) p)) c.count_groups-last.ensures.count)
    c.give_back.ensures.looked_up

pub returns-else-give_back : goal.returns-else-give_back
returns-else-give_back c =
    all_given_live c.args.groups.now c.give_back.new.self c.args.violating.now c.args.id c.args.place c.requires.watched.in_groups
    (sym c.give_back.ensures.dead ∙ c.if-give_back.false) c.give_back.ensures.groups c.give_back.ensures.looked_up
