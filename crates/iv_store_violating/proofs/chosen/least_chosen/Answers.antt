use Rattle.std.proofs.Common.{refl, filter}
use Rattle.iv_machine.specs.Databases.{first, is_chosen}
use Rattle.iv_laws_kept.specs.Numbers.{in_rising_order}
use Rattle.iv_store_violating.proofs.Least.{least_step, first_chosen}
use Rattle.iv_store_violating.proofs.chosen.least_chosen.Goals as goal

pub loop-id-preserved : goal.loop-id-preserved
loop-id-preserved c =
    least_step (λ ids. first (in_rising_order (filter (is_chosen c.args.modes.now c.args.which) ids)))
    c.args.ids.now c.loop-id.id-index _ c.if_chosen.result c.loop-id.least c.lesser-least.result _
    c.loop-id-test.true refl
    (λ rest. first_chosen (is_chosen c.args.modes.now c.args.which) _ c.if_chosen.result rest c.if_chosen.ensures)
    c.lesser-least.ensures
    c.loop-id.invariant
