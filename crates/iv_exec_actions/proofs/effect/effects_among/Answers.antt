use Rattle.std.proofs.Common.{◌≡◌, subst, IfOk}
use Rattle.iv_exec_actions.proofs.Grouping.{effects_at_places}
use Rattle.iv_exec_actions.proofs.effect.effects_among.Goals as goal

pub returns : goal.returns
returns c =
    subst (λ l. IfOk c.effects_at_places.result (λ v. v.items ≡ l))
    (effects_at_places c.args.catalogue.now c.args.affected_keys.now c.places_on-places.result.now c.table.result c.args.before.now c.args.after.now c.table.ensures c.places_on-places.ensures)
    c.effects_at_places.ensures
