use Rattle.iv_laws_rows.specs.Changing.{StoreFits}
use Rattle.iv_tests_levels.proofs.steps.take_each.Given as goal

abbrev pub invariant-loop-step : goal.invariant-loop-step
invariant-loop-step g l = StoreFits l.catalogue (g.K.ReferencingRows.view l.store)
