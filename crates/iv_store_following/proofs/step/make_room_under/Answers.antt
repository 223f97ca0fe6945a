use Rattle.std.proofs.Common.{ap, ◌∙◌, ◌+◌, ◌≤◌, length, subst}
use Rattle.iv_laws_kept.specs.Kept.{rows_in}
use Rattle.iv_laws_kept.specs.GroupFlags.{violating_of}
use Rattle.iv_store_violating.specs.Shown.{shown_of}
use Rattle.iv_store_following.proofs.Steps.{rows_in_more, flagged_more}
use Rattle.iv_store_following.proofs.Watched.{watched_more}
use Rattle.iv_store_following.proofs.step.make_room_under.Goals as goal

pub returns-clause-stay : goal.returns-clause-stay
returns-clause-stay c = record {
  rows = λ key. ap (λ groups. rows_in groups key) c.in_ok-make_room.ensures.ok ∙ rows_in_more c.args.key.now key (shown_of c.args.groups.now.groups c.args.id);
  flagged = λ is_referenced right.
      flagged_more is_referenced c.args.constraint.now.rule (shown_of c.args.groups.now.groups c.args.id) (shown_of c.make_room.new.groups.groups c.args.id)
      (violating_of c.args.violating.now c.args.id) (violating_of c.cover_places.new.self c.args.id) c.args.key.now c.in_ok-make_room.ensures.ok (c.cover_places.ensures.flags c.args.id) right;
}

pub returns-clause-watched : goal.returns-clause-watched
returns-clause-watched c =
    watched_more c.args.groups.now.groups c.make_room.new.groups.groups c.args.violating.now c.cover_places.new.self c.args.id c.args.key.now c.requires.watched
    c.make_room.ensures.count c.cover_places.ensures.count c.in_ok-make_room.ensures.ok
    (subst (λ n. n + 1 ≤ length (violating_of c.cover_places.new.self c.args.id)) c.count_groups.ensures.count c.in_ok-cover_places.ensures.ok)
