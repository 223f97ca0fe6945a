use Rattle.std.proofs.Common.{sym, ap, ◌∙◌}
use Rattle.iv_store_groups.specs.Groups.{GroupOf}
use Rattle.iv_store_groups.proofs.GroupsLemmas.{Placed, placed, missing}
use Rattle.iv_store_groups.proofs.key_index.room_under.Goals as goal

pub returns-in-Some : goal.returns-in-Some
returns-in-Some c =
    let x : GroupOf = c.index-groups-place.result in
    let at : Placed c.args.groups.now c.args.key.now c.in-Some.place = placed c.args.groups.now c.args.key.now c.in-Some.place (sym c.in-Some.ensures.place) in
    c.room.ensures ∙ ap (λ (g : GroupOf). g.held.room) c.index-groups-place.is ∙ sym (ap (λ h. h.room) (at.held_is x))

pub returns-in-None : goal.returns-in-None
returns-in-None c = sym (ap (λ h. h.room) (missing c.args.groups.now c.args.key.now (sym c.in-None.ensures.place)).held_is)
