use Rattle.std.proofs.Common.{◌∙◌, ap}
use Rattle.std.specs.Option.{option_map}
use Rattle.iv_exec_actions.specs.AffectedForeignKey.{AffectedForeignKey}
use Rattle.iv_exec_actions.proofs.Grouping.{first_at_places}
use Rattle.iv_exec_actions.proofs.restrict.first_restricting.Goals as goal

pub returns : goal.returns
returns c =
    c.first_among.ensures
    ∙ ap (option_map (λ (x : AffectedForeignKey). x.reference.id))
    (first_at_places c.args.affected_keys.now c.places_on.result.now c.table.result c.args.row.now c.table.ensures c.places_on.ensures)
