use Rattle.std.proofs.Common.{◌∙◌, sym, arith}
use Rattle.iv_state.proofs.TakenOut.{between_next, between_ends}
use Rattle.iv_state.proofs.savepoints.take_named.Goals as goal

pub loop-place-preserved : goal.loop-place-preserved
loop-place-preserved g c = record {
  between = between_next c.args.name.now c.args.saves.now.saves (g.K.ReferencingRows.view c.args.store.now) c.loop-place.saves.saves (g.K.ReferencingRows.view c.loop-place.store)
      c.in-Some.place c.take_out.new.saves.saves (g.K.ReferencingRows.view c.take_out.new.store) (sym c.place_of.ensures.place ∙ c.in-Some.is) c.in-Some.ensures.within c.take_out.ensures.saves c.take_out.ensures.store c.loop-place.invariant.between;
  room = omega (arith, c.take_out.ensures.room, c.loop-place.invariant.room);
  not_looked_up = c.take_out.ensures.not_looked_up ∙ c.loop-place.invariant.not_looked_up;
}

pub returns-clause-without : goal.returns-clause-without
returns-clause-without g c = between_ends c.args.name.now c.args.saves.now.saves (g.K.ReferencingRows.view c.args.store.now) c.loop-place.saves.saves (g.K.ReferencingRows.view c.loop-place.store)
    (sym c.place_of.ensures.place ∙ c.in_default.is) c.loop-place.invariant.between
