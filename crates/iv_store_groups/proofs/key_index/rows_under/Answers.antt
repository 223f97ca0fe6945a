use Rattle.std.proofs.Common.{sym, ap, ◌∙◌}
use Rattle.iv_store_groups.specs.Groups.{GroupOf}
use Rattle.iv_store_groups.proofs.GroupsLemmas.{Placed, placed, missing}
use Rattle.iv_store_groups.proofs.key_index.rows_under.Goals as goal

pub returns-in-Some-clause-value : goal.returns-in-Some-clause-value
returns-in-Some-clause-value c =
    let x : GroupOf = c.index-groups-place.result in
    let at : Placed c.args.groups.now c.args.key.now c.in-Some.place = placed c.args.groups.now c.args.key.now c.in-Some.place (sym c.in-Some.ensures.place) in
    c.rows.ensures.value ∙ ap (λ (g : GroupOf). g.held.rows) c.index-groups-place.is ∙ sym (ap (λ h. h.rows) (at.held_is x))

pub returns-in-None-clause-value : goal.returns-in-None-clause-value
returns-in-None-clause-value c = c.new.ensures ∙ sym (ap (λ h. h.rows) (missing c.args.groups.now c.args.key.now (sym c.in-None.ensures.place)).held_is)
