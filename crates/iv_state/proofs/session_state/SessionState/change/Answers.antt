use Rattle.std.proofs.Common.{false, refl, not, Err}
use Rattle.iv_account.specs.Telling.{no_account}
use Rattle.iv_state.specs.Changing.{Changes, said_of}
use Rattle.iv_state.specs.Kept.{Parts, parts, current, state_of}
use Rattle.iv_state.proofs.Changed.{change_refused, stored}
use Rattle.iv_state.proofs.session_state.SessionState.change.Goals as goal

pub returns-in-Err-clause-follows : goal.returns-in-Err-clause-follows
returns-in-Err-clause-follows g c =
    let h : Parts = parts g.K.ReferencingRows.view c.self.inside in
    let changes : Changes (not h.active) h.store (said_of h.schema (current h.initial h.changed).modes h.limits c.args.statement.now h.store.base) (Err c.in-Err.refusal)
    (g.K.ReferencingRows.view c.run_change.new.store) (record { changes = c.run_change.new.work.changes; undone = c.run_change.new.work.undone }) =
    rw (← c.modes_now.ensures) c.in-Err.ensures.changes in
    rw (← c.self.view_is)
    (change_refused h c.args.statement.now (not h.active) c.in-Err.refusal c.told.result (g.K.ReferencingRows.view c.run_change.new.store)
    (record { state = state_of (stored h (g.K.ReferencingRows.view c.run_change.new.store)); work = record { changes = c.run_change.new.work.changes; undone = c.run_change.new.work.undone }; lookups = c.run_change.new.work.lookups; looked_up = g.K.ReferencingRows.lookups c.run_change.new.store; account = no_account false })
    changes c.told.ensures.other c.told.ensures.memory c.told.ensures.told refl)
