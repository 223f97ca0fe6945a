use Rattle.std.proofs.Common.{◌≡◌, ◌++◌, subst, OnOk}
use Rattle.iv_exec_actions.proofs.ActingKeys.{actions_at_places}
use Rattle.iv_exec_actions.proofs.acting.push_among.Goals as goal

pub returns : goal.returns
returns c =
    subst (λ l. OnOk c.push_at_places.result (c.push_at_places.new.actions.items ≡ c.args.actions.now.items ++ l))
    (actions_at_places c.args.affected_keys.now c.places_on-places.result.now c.table.result c.args.before.now c.args.after.now c.table.ensures c.places_on-places.ensures)
    c.push_at_places.ensures
