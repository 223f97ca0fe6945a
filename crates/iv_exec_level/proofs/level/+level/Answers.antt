use Rattle.std.proofs.Common.{◌≡◌, ℕ, List, refl, ap, sym, subst, ◌∙◌, arith}
use Rattle.iv_expr.specs.declared.wave.TableColumn.{TableColumn}
use Rattle.iv_machine.specs.Levels.{Firing, firings_run, nested_level}
use Rattle.iv_exec_triggers.specs.ByTable.{all_firings}
use Rattle.iv_catalogue.specs.Refusals.{is_memory_cause}
use Rattle.iv_account.specs.Accounts.{firings_told, nested_told}
use Rattle.iv_account.specs.Telling.{and_told}
use Rattle.iv_exec_level.specs.Settled.{Tells}
use Rattle.iv_exec_level.specs.Steps.{progress}
use Rattle.iv_exec_waves.proofs.Running.{left_by_both, left_by_refused}
use Rattle.iv_exec_waves.proofs.ToldOn.{told_on, told_unless}
use Rattle.iv_exec_level.proofs.Refusing.{answers_as}
use Rattle.iv_exec_level.proofs.Levels.{finished_is, finished_quietly, level_done, nested_opens, waves_done, waves_refused}
use Rattle.iv_exec_level.proofs.ToldLevels.{finished_told_is, nested_told_as, unless_as, waves_done_told, waves_refused_told}
use Rattle.iv_exec_level.proofs.ToldTurns.{rows_told, rows_told_refused, statements_told, statements_told_refused, triggers_told, triggers_told_refused}
use Rattle.iv_exec_level.proofs.Turns.{rows_refused, rows_so_far, statements_refused, statements_so_far, triggers_refused, triggers_so_far}
use Rattle.iv_exec_context.proofs.Answers.{anyway}
use Rattle.iv_account.specs.Accounts.{failure_told, fired_told, firing_told}
use Rattle.iv_account.specs.Failures.{when_failure}
use Rattle.iv_expr.specs.declared.row.StoredRow.{StoredRow}
use Rattle.iv_exec_level.proofs.ToldConditions.{body_told_after, nothing_after, when_failed}
use Rattle.iv_exec_level.proofs.level.+level.Goals as goal

pub finish-returns-in-Some-clause-answer : goal.finish-returns-in-Some-clause-answer
finish-returns-in-Some-clause-answer g t c columns net h =
    let start = progress (g.K.ReferencingRows.view c.args.store.now).base c.args.budget.now in
    let run = nested_level c.args.deeper c.args.context.now in
    let later = g.K.ReferencingRows.view c.fire_all.new.store in
    answers_as (λ (u : Unit {0}). progress later.base c.fire_all.new.budget) later.base.count c.fire_all.result _ _
    (sym (finished_is run c.args.context.now c.args.statement.now columns c.in-Some.changes net c.triggers.result.now
    start _ c.in_ok-check.ensures.answer (subst (λ x. Tells c.args.context.now c.args.statement.now columns net x) c.in-Some.is h)
    (c.triggers.ensures.triggers ∙ ap (λ s. s.triggers) c.catalogue.ensures)
    (ap (λ (columns : List TableColumn). firings_run run (all_firings c.args.statement.now columns c.in-Some.changes.transitions c.triggers.result.now)
    start) (sym c.deref.ensures.value)))) c.fire_all.ensures.answer

pub finish-returns-in-None-clause-answer : goal.finish-returns-in-None-clause-answer
finish-returns-in-None-clause-answer g t c columns net h =
    let start = progress (g.K.ReferencingRows.view c.args.store.now).base c.args.budget.now in
    finished_quietly (nested_level c.args.deeper c.args.context.now) c.args.context.now c.args.statement.now columns net
    start c.in_ok-check.ensures.answer (subst (λ x. Tells c.args.context.now c.args.statement.now columns net x) c.in-None.is h)

pub fire_all-returns-in_err-fire_trigger-clause-answer : goal.fire_all-returns-in_err-fire_trigger-clause-answer
fire_all-returns-in_err-fire_trigger-clause-answer g t c =
    let at = progress (g.K.ReferencingRows.view c.loop-at.store).base c.loop-at.budget in
    let run = nested_level c.args.deeper c.args.context.now in
    told_on _ _ c.from_residual.result c.in_err-fire_trigger.field-0.0 _ c.from_residual.ensures.1
    (triggers_refused _ run c.args.statement.now c.args.columns.now c.args.transitions.now c.args.triggers.now c.loop-at.at c.trigger_at-trigger.result.now
    at _ _ c.trigger_at-trigger.ensures.trigger c.loop-at.invariant.so_far c.in_err-fire_trigger.ensures.answer)

pub fire_all-returns-in_err-fire_trigger-clause-store : goal.fire_all-returns-in_err-fire_trigger-clause-store
fire_all-returns-in_err-fire_trigger-clause-store g t c =
    let old = g.K.ReferencingRows.view c.args.store.now in
    let now = g.K.ReferencingRows.view c.loop-at.store in
    left_by_refused _ tt c.from_residual.result c.in_err-fire_trigger.field-0.0 old now (g.K.ReferencingRows.view c.fire_trigger.new.store)
    (g.K.ReferencingRows.lookups c.args.store.now) (g.K.ReferencingRows.lookups c.loop-at.store)
    (g.K.ReferencingRows.lookups c.fire_trigger.new.store) c.from_residual.ensures.1
    c.loop-at.invariant.left c.in_err-fire_trigger.ensures.store

pub fire_all-loop-at-preserved : goal.fire_all-loop-at-preserved
fire_all-loop-at-preserved g t c =
    let run = nested_level c.args.deeper c.args.context.now in
    let tell = nested_told c.args.deeper c.args.context.now in
    let old = g.K.ReferencingRows.view c.args.store.now in
    let now = g.K.ReferencingRows.view c.loop-at.store in
    let at = progress now.base c.loop-at.budget in
    let later = g.K.ReferencingRows.view c.fire_trigger.new.store in
    record {
      within = omega arith;
      so_far = triggers_so_far run c.args.statement.now c.args.columns.now c.args.transitions.now c.args.triggers.now c.loop-at.at
          c.trigger_at-trigger.result.now
          at _ _ c.trigger_at-trigger.ensures.trigger c.in_ok-fire_trigger.ensures.answer c.loop-at.invariant.so_far;
      told = triggers_told run tell c.args.statement.now c.args.columns.now c.args.transitions.now c.args.triggers.now c.loop-at.at
          c.trigger_at-trigger.result.now
          c.trigger_at-trigger.ensures.trigger at _ c.loop-at.account c.fire_trigger.new.account _ c.in_ok-fire_trigger.ensures.answer
          c.in_ok-fire_trigger.ensures.told c.loop-at.invariant.told;
      left = left_by_both _ tt tt tt old now later (g.K.ReferencingRows.lookups c.args.store.now) (g.K.ReferencingRows.lookups c.loop-at.store)
          (g.K.ReferencingRows.lookups c.fire_trigger.new.store)
          c.loop-at.invariant.left c.in_ok-fire_trigger.ensures.store;
    }

pub fire_rows-returns-in_err-fire-clause-answer : goal.fire_rows-returns-in_err-fire-clause-answer
fire_rows-returns-in_err-fire-clause-answer g t c =
    let at = progress (g.K.ReferencingRows.view c.loop-at.store).base c.loop-at.budget in
    told_on _ _ c.from_residual.result c.in_err-fire.field-0.0 _ c.from_residual.ensures.1
    (rows_refused _ (nested_level c.args.deeper c.args.context.now) c.args.trigger.now c.args.transitions.now c.loop-at.at c.row_frame-frame.result
    at _ _ c.row_frame-frame.ensures.firing c.loop-at.invariant.so_far c.in_err-fire.ensures.answer)

pub fire_rows-returns-in_err-fire-clause-store : goal.fire_rows-returns-in_err-fire-clause-store
fire_rows-returns-in_err-fire-clause-store g t c =
    let old = g.K.ReferencingRows.view c.args.store.now in
    let now = g.K.ReferencingRows.view c.loop-at.store in
    left_by_refused _ tt c.from_residual.result c.in_err-fire.field-0.0 old now (g.K.ReferencingRows.view c.fire.new.store)
    (g.K.ReferencingRows.lookups c.args.store.now) (g.K.ReferencingRows.lookups c.loop-at.store) (g.K.ReferencingRows.lookups c.fire.new.store)
    c.from_residual.ensures.1
    c.loop-at.invariant.left c.in_err-fire.ensures.store

pub fire_rows-loop-at-preserved : goal.fire_rows-loop-at-preserved
fire_rows-loop-at-preserved g t c =
    let run = nested_level c.args.deeper c.args.context.now in
    let tell = nested_told c.args.deeper c.args.context.now in
    let old = g.K.ReferencingRows.view c.args.store.now in
    let now = g.K.ReferencingRows.view c.loop-at.store in
    let at = progress now.base c.loop-at.budget in
    let later = g.K.ReferencingRows.view c.fire.new.store in
    record {
      within = omega arith;
      so_far = rows_so_far run c.args.trigger.now c.args.transitions.now c.loop-at.at c.row_frame-frame.result
          at _ _ c.row_frame-frame.ensures.firing c.in_ok-fire.ensures.answer c.loop-at.invariant.so_far;
      told = rows_told run tell c.args.trigger.now c.args.transitions.now c.loop-at.at c.row_frame-frame.result
          c.row_frame-frame.ensures.firing at _ c.loop-at.account c.fire.new.account _ c.in_ok-fire.ensures.answer c.in_ok-fire.ensures.told
          c.loop-at.invariant.told;
      left = left_by_both _ tt tt tt old now later (g.K.ReferencingRows.lookups c.args.store.now) (g.K.ReferencingRows.lookups c.loop-at.store)
          (g.K.ReferencingRows.lookups c.fire.new.store)
          c.loop-at.invariant.left c.in_ok-fire.ensures.store;
    }

pub nested-returns-clause-answer : goal.nested-returns-clause-answer
nested-returns-clause-answer g t c =
    let old = g.K.ReferencingRows.view c.args.store.now in
    let later = g.K.ReferencingRows.view c.run_level.new.store in
    answers_as (λ (n : ℕ). record { database = later.base; rest = c.run_level.new.budget; size = n }) later.base.count c.run_level.result _ _
    (sym (nested_opens c.args.deeper c.args.context.now c.args.trigger c.args.statement.now c.args.frame.now old.base c.args.budget.now c.if-deeper-eq0.false)) c.run_level.ensures.answer

pub run_body-returns-in_err-run_statement-clause-store : goal.run_body-returns-in_err-run_statement-clause-store
run_body-returns-in_err-run_statement-clause-store g t c =
    let old = g.K.ReferencingRows.view c.args.store.now in
    let now = g.K.ReferencingRows.view c.loop-at.store in
    left_by_refused _ tt c.from_residual.result c.in_err-run_statement.field-0.0 old now (g.K.ReferencingRows.view c.run_statement.new.store)
    (g.K.ReferencingRows.lookups c.args.store.now) (g.K.ReferencingRows.lookups c.loop-at.store)
    (g.K.ReferencingRows.lookups c.run_statement.new.store) c.from_residual.ensures.1
    c.loop-at.invariant.left c.in_err-run_statement.ensures.store

pub run_level-returns-clause-answer : goal.run_level-returns-clause-answer
run_level-returns-clause-answer g t c =
    let old = g.K.ReferencingRows.view c.args.store.now in
    let later = g.K.ReferencingRows.view c.run_waves.new.store in
    answers_as (λ (n : ℕ). record { database = later.base; rest = c.run_waves.new.budget; size = n }) later.base.count c.run_waves.result _ _
    (sym (level_done c.args.deeper c.args.context.now c.args.statement.now c.args.frame.now old.base c.args.budget.now _ _ c.if-budget-eq0.false c.in_ok-changes.ensures.answer refl)) c.run_waves.ensures.answer

pub run_waves-returns-clause-answer : goal.run_waves-returns-clause-answer
run_waves-returns-clause-answer g t c =
    let run = nested_level c.args.deeper c.args.context.now in
    let old = g.K.ReferencingRows.view c.args.store.now in
    waves_done run c.args.context.now c.args.statement.now old.base (g.K.ReferencingRows.view c.settle_waves.new.store).base
    c.args.budget.now c.settle_waves.new.budget c.args.changes.items c.in_ok-told.told _ _ c.in_ok-told.ensures.answer
    (c.len-size.ensures ∙ c.args.changes.ok.0) c.in_ok-finish.ensures.answer

pub run_waves-returns-in_err-finish-clause-answer : goal.run_waves-returns-in_err-finish-clause-answer
run_waves-returns-in_err-finish-clause-answer g t c =
    let run = nested_level c.args.deeper c.args.context.now in
    let old = g.K.ReferencingRows.view c.args.store.now in
    told_on _ _ c.from_residual-in_err-finish.result c.in_err-finish.field-0.0 _ c.from_residual-in_err-finish.ensures.1
    (waves_refused _ run c.args.context.now c.args.statement.now old.base (g.K.ReferencingRows.view c.settle_waves.new.store).base
    c.args.budget.now c.settle_waves.new.budget c.args.changes.items c.in_ok-told.told _ c.in_ok-told.ensures.answer c.in_err-finish.ensures.answer)

pub run_waves-returns-clause-store : goal.run_waves-returns-clause-store
run_waves-returns-clause-store g t c =
    let old = g.K.ReferencingRows.view c.args.store.now in
    let settled = g.K.ReferencingRows.view c.settle_waves.new.store in
    left_by_both _ c.in_ok-told.told tt c.len-size.result old settled (g.K.ReferencingRows.view c.finish.new.store)
    (g.K.ReferencingRows.lookups c.args.store.now) (g.K.ReferencingRows.lookups c.settle_waves.new.store) (g.K.ReferencingRows.lookups c.finish.new.store)
    c.in_ok-told.ensures.store c.in_ok-finish.ensures.store

pub run_waves-returns-in_err-finish-clause-store : goal.run_waves-returns-in_err-finish-clause-store
run_waves-returns-in_err-finish-clause-store g t c =
    let old = g.K.ReferencingRows.view c.args.store.now in
    let settled = g.K.ReferencingRows.view c.settle_waves.new.store in
    left_by_refused _ c.in_ok-told.told c.from_residual-in_err-finish.result c.in_err-finish.field-0.0 old settled
    (g.K.ReferencingRows.view c.finish.new.store) (g.K.ReferencingRows.lookups c.args.store.now)
    (g.K.ReferencingRows.lookups c.settle_waves.new.store) (g.K.ReferencingRows.lookups c.finish.new.store)
    c.from_residual-in_err-finish.ensures.1 c.in_ok-told.ensures.store c.in_err-finish.ensures.store

pub run_body-returns-in_err-run_statement-clause-answer : goal.run_body-returns-in_err-run_statement-clause-answer
run_body-returns-in_err-run_statement-clause-answer g t c =
    let at = progress (g.K.ReferencingRows.view c.loop-at.store).base c.loop-at.budget in
    let run = nested_level c.args.deeper c.args.context.now in
    let x : Firing = record { trigger = c.args.trigger.now; frame = c.args.frame.now } in
    told_on _ _ c.from_residual.result c.in_err-run_statement.field-0.0 _ c.from_residual.ensures.1
    (statements_refused _ run x c.as_slice-body.result.now c.loop-at.place c.loop-at.at c.statement_at-statement.result.now
    at _ _ c.statement_at-statement.ensures.statement c.loop-at.invariant.so_far c.in_err-run_statement.ensures.answer)

pub run_body-loop-at-preserved : goal.run_body-loop-at-preserved
run_body-loop-at-preserved g t c =
    let run = nested_level c.args.deeper c.args.context.now in
    let tell = nested_told c.args.deeper c.args.context.now in
    let x : Firing = record { trigger = c.args.trigger.now; frame = c.args.frame.now } in
    let old = g.K.ReferencingRows.view c.args.store.now in
    let now = g.K.ReferencingRows.view c.loop-at.store in
    let at = progress now.base c.loop-at.budget in
    let later = g.K.ReferencingRows.view c.run_statement.new.store in
    record {
      within = omega arith;
      counted = omega (arith, c.loop-at.invariant.counted);
      so_far = statements_so_far run x c.as_slice-body.result.now c.loop-at.place c.loop-at.at c.statement_at-statement.result.now
          at _ _ c.statement_at-statement.ensures.statement c.in_ok-run_statement.ensures.answer c.loop-at.invariant.so_far;
      told = statements_told run tell x c.as_slice-body.result.now c.loop-at.place c.loop-at.at c.statement_at-statement.result.now
          c.statement_at-statement.ensures.statement at _ c.loop-at.account c.run_statement.new.account _ c.in_ok-run_statement.ensures.answer
          c.in_ok-run_statement.ensures.told c.loop-at.invariant.told;
      left = left_by_both _ tt tt tt old now later (g.K.ReferencingRows.lookups c.args.store.now) (g.K.ReferencingRows.lookups c.loop-at.store)
          (g.K.ReferencingRows.lookups c.run_statement.new.store)
          c.loop-at.invariant.left c.in_ok-run_statement.ensures.store;
    }

pub finish-returns-in-Some-clause-told : goal.finish-returns-in-Some-clause-told
finish-returns-in-Some-clause-told g t c columns net h =
    let start = progress (g.K.ReferencingRows.view c.args.store.now).base c.args.budget.now in
    let run = nested_level c.args.deeper c.args.context.now in
    let tell = nested_told c.args.deeper c.args.context.now in
    unless_as c.fire_all.result _ _
    (λ fired. finished_told_is run tell c.args.context.now c.args.statement.now columns net
    start c.args.account.now c.check.new.account c.in_ok-check.ensures.answer c.in_ok-check.ensures.told
    c.in-Some.changes c.triggers.result.now c.fire_all.new.account
    (subst (λ x. Tells c.args.context.now c.args.statement.now columns net x) c.in-Some.is h)
    (c.triggers.ensures.triggers ∙ ap (λ s. s.triggers) c.catalogue.ensures)
    (fired ∙ ap (λ (columns : List TableColumn). and_told c.check.new.account (firings_told run tell (all_firings c.args.statement.now columns c.in-Some.changes.transitions c.triggers.result.now) start)) c.deref.ensures.value))
    c.fire_all.ensures.told

pub fire_all-returns-in_err-fire_trigger-clause-told : goal.fire_all-returns-in_err-fire_trigger-clause-told
fire_all-returns-in_err-fire_trigger-clause-told g t c =
    let at = progress (g.K.ReferencingRows.view c.loop-at.store).base c.loop-at.budget in
    let run = nested_level c.args.deeper c.args.context.now in
    let tell = nested_told c.args.deeper c.args.context.now in
    told_unless c.from_residual.result c.in_err-fire_trigger.field-0.0 _ c.from_residual.ensures.1
    (triggers_told_refused run tell c.args.statement.now c.args.columns.now c.args.transitions.now c.args.triggers.now c.loop-at.at c.trigger_at-trigger.result.now
    c.trigger_at-trigger.ensures.trigger (is_memory_cause c.in_err-fire_trigger.field-0.0.cause) at _ c.loop-at.account c.fire_trigger.new.account _
    c.loop-at.invariant.told
    c.in_err-fire_trigger.ensures.answer c.in_err-fire_trigger.ensures.told)

pub fire_rows-returns-in_err-fire-clause-told : goal.fire_rows-returns-in_err-fire-clause-told
fire_rows-returns-in_err-fire-clause-told g t c =
    let at = progress (g.K.ReferencingRows.view c.loop-at.store).base c.loop-at.budget in
    let run = nested_level c.args.deeper c.args.context.now in
    let tell = nested_told c.args.deeper c.args.context.now in
    told_unless c.from_residual.result c.in_err-fire.field-0.0 _ c.from_residual.ensures.1
    (rows_told_refused run tell c.args.trigger.now c.args.transitions.now c.loop-at.at c.row_frame-frame.result
    c.row_frame-frame.ensures.firing (is_memory_cause c.in_err-fire.field-0.0.cause) at _ c.loop-at.account c.fire.new.account _ c.loop-at.invariant.told
    c.in_err-fire.ensures.answer c.in_err-fire.ensures.told)

pub run_body-returns-in_err-run_statement-clause-told : goal.run_body-returns-in_err-run_statement-clause-told
run_body-returns-in_err-run_statement-clause-told g t c =
    let at = progress (g.K.ReferencingRows.view c.loop-at.store).base c.loop-at.budget in
    let run = nested_level c.args.deeper c.args.context.now in
    let tell = nested_told c.args.deeper c.args.context.now in
    let x : Firing = record { trigger = c.args.trigger.now; frame = c.args.frame.now } in
    told_unless c.from_residual.result c.in_err-run_statement.field-0.0 _ c.from_residual.ensures.1
    (statements_told_refused run tell x c.as_slice-body.result.now c.loop-at.place c.loop-at.at c.statement_at-statement.result.now
    c.statement_at-statement.ensures.statement (is_memory_cause c.in_err-run_statement.field-0.0.cause) at _ c.loop-at.account
    c.run_statement.new.account _ c.loop-at.invariant.told
    c.in_err-run_statement.ensures.answer c.in_err-run_statement.ensures.told)

pub nested-returns-clause-told : goal.nested-returns-clause-told
nested-returns-clause-told g t c =
    let old = g.K.ReferencingRows.view c.args.store.now in
    nested_told_as c.run_level.result c.args.deeper c.args.context.now c.args.trigger c.args.statement.now c.args.frame.now
    old.base c.args.budget.now c.args.account.now c.run_level.new.account c.if-deeper-eq0.false c.run_level.ensures.told

pub run_waves-returns-clause-told : goal.run_waves-returns-clause-told
run_waves-returns-clause-told g t c =
    let run = nested_level c.args.deeper c.args.context.now in
    let tell = nested_told c.args.deeper c.args.context.now in
    let old = g.K.ReferencingRows.view c.args.store.now in
    waves_done_told run tell c.args.context.now c.args.statement.now old.base (g.K.ReferencingRows.view c.settle_waves.new.store).base
    c.args.budget.now c.settle_waves.new.budget c.args.changes.items c.in_ok-told.told c.args.account.now c.settle_waves.new.account c.finish.new.account
    c.in_ok-told.ensures.answer c.in_ok-told.ensures.told c.in_ok-finish.ensures.told

pub run_waves-returns-in_err-finish-clause-told : goal.run_waves-returns-in_err-finish-clause-told
run_waves-returns-in_err-finish-clause-told g t c =
    let run = nested_level c.args.deeper c.args.context.now in
    let tell = nested_told c.args.deeper c.args.context.now in
    let old = g.K.ReferencingRows.view c.args.store.now in
    told_unless c.from_residual-in_err-finish.result c.in_err-finish.field-0.0 _ c.from_residual-in_err-finish.ensures.1
    (waves_refused_told run tell c.args.context.now c.args.statement.now old.base (g.K.ReferencingRows.view c.settle_waves.new.store).base
    c.args.budget.now c.settle_waves.new.budget c.args.changes.items c.in_ok-told.told c.args.account.now c.settle_waves.new.account c.finish.new.account
    c.in_ok-told.ensures.answer c.in_ok-told.ensures.told (is_memory_cause c.in_err-finish.field-0.0.cause) c.in_err-finish.ensures.told)

pub run_where_true-returns-in-Err-clause-told : goal.run_where_true-returns-in-Err-clause-told
run_where_true-returns-in-Err-clause-told g t c =
    let at = progress (g.K.ReferencingRows.view c.args.store.now).base c.args.budget.now in
    let run = nested_level c.args.deeper c.args.context.now in
    let tell = nested_told c.args.deeper c.args.context.now in
    let x : Firing = record { trigger = c.args.trigger.now; frame = c.args.frame.now } in
    anyway (is_memory_cause c.of.result.cause) (c.tell_when.new.account ≡ and_told c.args.account.now (firing_told run tell x at))
    (c.in_ok-tell_when-in-Err.ensures.told
    ∙ ap (λ (rows : List StoredRow). and_told c.args.account.now (failure_told c.in-Err.cause (when_failure rows c.args.trigger.now c.args.frame.now)))
    (g.met.K.ChangeableRows.rows_are c.args.store.now)
    ∙ ap (and_told c.args.account.now) (sym (c.in-Err.ensures.told (when_failed x at) (fired_told run tell x at))))

pub run_where_true-returns-then-is_true-clause-told : goal.run_where_true-returns-then-is_true-clause-told
run_where_true-returns-then-is_true-clause-told g t c =
    let at = progress (g.K.ReferencingRows.view c.args.store.now).base c.args.budget.now in
    let run = nested_level c.args.deeper c.args.context.now in
    let tell = nested_told c.args.deeper c.args.context.now in
    let x : Firing = record { trigger = c.args.trigger.now; frame = c.args.frame.now } in
    body_told_after run tell x at c.args.account.now c.ran_or_skipped.new.self c.in-Ok.when
    (c.in-Ok.ensures.told (when_failed x at) (fired_told run tell x at)) c.in_ok-ran_or_skipped.ensures.told
    c.run_body.result c.run_body.new.account c.if-is_true.ensures c.run_body.ensures.told

pub run_where_true-returns-else-is_true-clause-told : goal.run_where_true-returns-else-is_true-clause-told
run_where_true-returns-else-is_true-clause-told g t c =
    let at = progress (g.K.ReferencingRows.view c.args.store.now).base c.args.budget.now in
    let run = nested_level c.args.deeper c.args.context.now in
    let tell = nested_told c.args.deeper c.args.context.now in
    let x : Firing = record { trigger = c.args.trigger.now; frame = c.args.frame.now } in
    nothing_after run tell x at c.args.account.now c.ran_or_skipped.new.self c.in-Ok.when
    (c.in-Ok.ensures.told (when_failed x at) (fired_told run tell x at)) c.in_ok-ran_or_skipped.ensures.told
    c.if-is_true.ensures
