-- BEFORE triggers that suit are well-typed on changes that fit.
use Rattle.std.proofs.Common.{◌≡◌, ℕ, Bool, true, false, not, ◌&&◌, ◌==◌, if◌then◌else◌, List, [], ◌∙◌, Option, Some, None, is_none, Result, Ok, Err, refl, sym, ap, find, filter, slice_get, slice_set}
use Rattle.std.proofs.lemmas.Bool.{and_parts, not-true}
use Rattle.std.specs.List.{list_all}
use Rattle.iv_laws_rows.specs.Types.{Value, StoredRow, Change, Table, Cause, Refusal, BodyStatement, DataStatement, Trigger}
use Rattle.iv_laws_rows.specs.Types.cause.{Signal}
use Rattle.iv_laws_rows.specs.Types.body
use Rattle.iv_expr.specs.Evaluation.{value}
use Rattle.iv_expr.specs.Scopes.{Frame, no_frame, scope_of}
use Rattle.iv_expr.specs.Suiting.{suits}
use Rattle.iv_syntax.specs.declared.trigger.TriggerEvent.TheVariants as event
use Rattle.iv_machine.specs.Context.{Context, while_running, each, in_turn}
use Rattle.iv_machine.specs.Proposals.{holds, stored_value, table_of, event_of, set_columns}
use Rattle.iv_machine.specs.BeforeTriggers.{is_before, for_each_row, is_before_statement, is_before_this, same_event, is_on, is_on_columns, event_of_change, placed_statements, is_signal, unless_signal, before_statement_run, before_statement, change_frame, with_new_value, change_after_statement, before_row_run, change_after_trigger, changes_after_triggers}
use Rattle.iv_laws_fitting.specs.PlanShapes.{table_kinds, is_there, action_suits, trigger_suits}
use Rattle.iv_laws_fitting.proofs.Running.{expression_plain, holds_plain}
use Rattle.iv_laws_levels.proofs.Chains.{not_ok, ok_same, step_of}
use Rattle.iv_laws_levels.proofs.Members.{all_in, of_filter}
use Rattle.iv_laws_rows.specs.RowFits.{side_fits, change_fits, changes_fit, rows_fit}
use Rattle.iv_laws_rows.specs.WellTyped.{RowTriggersAreWellTyped, StatementTriggersAreWellTyped}
use Rattle.iv_laws_rows.proofs.FittingChanges.{fitting, statement_fits, each_trigger_fits}
use Rattle.iv_laws_rows.proofs.FittingFrames.{on_parts, old_suits, new_suits, table_rows_suit, shape_of, Sees, statement_sees}
use Rattle.iv_laws_rows.proofs.FreeResults.{FreeCause, FreeRefusal, then_free, each_free, in_turn_free, plain_free, running_free, free_refused}
use Rattle.iv_laws_rows.proofs.MoreMembers.{enumerated_in}

-- ---- what a trigger suits

pub record Parts (tables : List Table) (t : Trigger) : Type 0 where
  pub when : suits (shape_of tables t) t.when ≡ true
  pub actions : list_all (action_suits tables (shape_of tables t) (table_kinds tables t.table)) t.body ≡ true

pub trigger_parts : (tables : List Table) (t : Trigger) → trigger_suits tables t ≡ true → Parts tables t
trigger_parts tables t s =
    let all = list_all (action_suits tables (shape_of tables t) (table_kinds tables t.table)) t.body in
    let p = and_parts (is_there tables t.table) (suits (shape_of tables t) t.when && all) s in
    let q = and_parts (suits (shape_of tables t) t.when) all p.1 in
    record { when = q.0; actions = q.1 }

-- WHEN is well-typed under a frame that has the kinds of the trigger's shape
pub when_free : (tables : List Table) (t : Trigger) (frame : Frame) (rows : List StoredRow) → trigger_suits tables t ≡ true → Sees tables t frame
    → rows_fit tables rows ≡ true → FreeCause (holds (scope_of frame rows) t.when)
when_free tables t frame rows s sees h =
    plain_free (holds (scope_of frame rows) t.when) (holds_plain (shape_of tables t) (scope_of frame rows) t.when (sees rows h) (trigger_parts tables t s).when)

-- ---- one change

-- a change that fits, on the trigger's table and event
pub record Meant (tables : List Table) (t : Trigger) (c : Change) : Type 0 where
  pub fits : change_fits tables c ≡ true
  pub on : is_on c.table (event_of_change c) t ≡ true

change_sees : (tables : List Table) (t : Trigger) (c : Change) → Meant tables t c → Sees tables t (change_frame c)
change_sees tables t c m rows fit =
    let f = fitting tables c m.fits in
    let on = on_parts t c m.on in
    record {
      ranges = tt;
      old = old_suits tables t.table t.granularity t.event c.old c.new on.1 (ap (λ n. side_fits tables n c.old) on.0 ∙ f.old);
      new = new_suits tables t.table t.granularity t.event c.old c.new on.1 f.side (ap (λ n. side_fits tables n c.new) on.0 ∙ f.new);
      transition = λ side. tt;
      tables = λ n. table_rows_suit tables n rows fit;
    }

-- a SET keeps the table and the event of a change
still_on : (t : Trigger) (c : Change) (column : ℕ) (v : Value)
    → is_on (with_new_value c column v).table (event_of_change (with_new_value c column v)) t ≡ is_on c.table (event_of_change c) t
still_on t c column v = by c.new refl
  where
    on : Change → Bool
    on x = is_on x.table (event_of_change x) t

    by : (new : Option (List Value)) → c.new ≡ new
        → on (elim new [ Some row ↦ record c { new = Some (slice_set row column v) } | None ↦ c ]) ≡ on c
    by None e = refl
    by (Some row) e =
        ap (λ (o : Option (List Value)). (t.table == c.table) && same_event t.event (if is_none c.old then event.Insert else (if is_none o then event.Delete else event.Update))) (sym e)

set_meant : (tables : List Table) (t : Trigger) (w : Context) (rows : List StoredRow) (place : ℕ) (statement : BodyStatement) (c d : Change)
    → change_after_statement w rows t place statement c ≡ Ok d → is_on c.table (event_of_change c) t ≡ true → is_on d.table (event_of_change d) t ≡ true
set_meant tables t w rows place (body.Set s) c d e h =
    let stored = step_of (stored_value w c.table s.column (value (scope_of (change_frame c) rows) s.value)) _ d e in
    ap (λ (x : Change). is_on x.table (event_of_change x) t) (sym (ok_same {E = Cause} (with_new_value c s.column stored.0) d stored.2))
    ∙ still_on t c s.column stored.0 ∙ h
set_meant tables t w rows place (body.Signal text) c d e h = absurd (not_ok _ d e)
set_meant tables t w rows place (body.Data statement) c d e h =
    ap (λ (x : Change). is_on x.table (event_of_change x) t) (sym (ok_same {E = Cause} c d e)) ∙ h

statement_free : (w : Context) (rows : List StoredRow) (t : Trigger) (place : ℕ) (statement : BodyStatement) (c : Change)
    → action_suits w.schema.tables (shape_of w.schema.tables t) (table_kinds w.schema.tables t.table) statement ≡ true
    → rows_fit w.schema.tables rows ≡ true → Meant w.schema.tables t c → FreeCause (change_after_statement w rows t place statement c)
statement_free w rows t place (body.Set s) c a h m =
    let tables = w.schema.tables in
    let on = on_parts t c m.on in
    then_free (λ x. x) (stored_value w c.table s.column (value (scope_of (change_frame c) rows) s.value)) (λ v. Ok (with_new_value c s.column v))
    (plain_free (stored_value w c.table s.column (value (scope_of (change_frame c) rows) s.value))
    (expression_plain w c.table s.column (slice_get (table_kinds tables t.table) s.column) (shape_of tables t) (scope_of (change_frame c) rows) s.value
    (change_sees tables t c m rows h) (ap (λ n. slice_get (table_kinds tables n) s.column) (sym on.0)) a))
    (λ v e. tt)
statement_free w rows t place (body.Signal text) c a h m = refl
statement_free w rows t place (body.Data statement) c a h m = tt

body_free : (w : Context) (rows : List StoredRow) (t : Trigger) (c : Change) → trigger_suits w.schema.tables t ≡ true
    → rows_fit w.schema.tables rows ≡ true → Meant w.schema.tables t c
    → FreeCause (in_turn (λ s. change_after_statement w rows t s.0 s.1) (placed_statements t) c)
body_free w rows t c s h m =
    in_turn_free (λ x. x) (Meant w.schema.tables t) (λ p. change_after_statement w rows t p.0 p.1) (placed_statements t)
    (λ p i d n.
    statement_free w rows t p.0 p.1 d
    (all_in (action_suits w.schema.tables (shape_of w.schema.tables t) (table_kinds w.schema.tables t.table)) p.1 t.body (trigger_parts w.schema.tables t s).actions (enumerated_in 1 t.body p i)) h n)
    (λ p i d after n e. record {
      fits = statement_fits w rows t p.0 p.1 d after e n.fits;
      on = set_meant w.schema.tables t w rows p.0 p.1 d after e n.on;
    })
    c m

trigger_free : (w : Context) (rows : List StoredRow) (t : Trigger) (c : Change) → trigger_suits w.schema.tables t ≡ true
    → rows_fit w.schema.tables rows ≡ true → change_fits w.schema.tables c ≡ true → FreeRefusal (change_after_trigger w rows t c)
trigger_free w rows t c s h g = by (is_on c.table (event_of_change c) t) refl
  where
    fires : Meant w.schema.tables t c → (b : Bool)
        → FreeCause (if b then in_turn (λ s. change_after_statement w rows t s.0 s.1) (placed_statements t) c else Ok c)
    fires m true = body_free w rows t c s h m
    fires m false = tt

    by : (b : Bool) → is_on c.table (event_of_change c) t ≡ b → FreeRefusal (if b then while_running t.id (before_row_run w rows t c) else Ok c)
    by false e = tt
    by true e =
        let m : Meant w.schema.tables t c = record { fits = g; on = e } in
        running_free t.id (before_row_run w rows t c)
        (then_free (λ x. x) (holds (scope_of (change_frame c) rows) t.when)
        (λ b. if b then in_turn (λ s. change_after_statement w rows t s.0 s.1) (placed_statements t) c else Ok c)
        (when_free w.schema.tables t (change_frame c) rows s (change_sees w.schema.tables t c m) h) (λ b f. fires m b))

-- ---- waves

pub row_triggers_free : (w : Context) (rows : List StoredRow) (ts : List Trigger) (changes : List Change) → list_all (trigger_suits w.schema.tables) ts ≡ true
    → rows_fit w.schema.tables rows ≡ true → changes_fit w.schema.tables changes ≡ true → FreeRefusal (changes_after_triggers w rows ts changes)
row_triggers_free w rows ts changes s h g =
    in_turn_free (λ (x : Refusal). x.cause) (λ cs. changes_fit w.schema.tables cs ≡ true) (λ t. each (change_after_trigger w rows t)) ts
    (λ t i cs fit.
    each_free (λ (x : Refusal). x.cause) (change_after_trigger w rows t) cs
    (λ c j. trigger_free w rows t c (all_in (trigger_suits w.schema.tables) t ts s i) h (all_in (change_fits w.schema.tables) c cs fit j)))
    (λ t i cs after fit e. each_trigger_fits w rows t cs after e fit)
    changes g

pub row_triggers_are_well_typed : RowTriggersAreWellTyped
row_triggers_are_well_typed w rows ts changes refusal s h g e =
    free_refused (λ (x : Refusal). x.cause) (changes_after_triggers w rows ts changes) refusal (row_triggers_free w rows ts changes s h g) e

-- ---- statements

signal_free : (t : Trigger) → FreeCause (unless_signal t)
signal_free t = by (find (λ s. is_signal s.1) (placed_statements t))
  where
    by : (o : Option (ℕ × BodyStatement)) → FreeCause (elim o as (λ x. Result (Unit {0}) Cause) [ Some s ↦ Err (Signal t.id s.0) | None ↦ Ok tt ])
    by (Some s) = refl
    by None = tt

statement_trigger_free : (w : Context) (rows : List StoredRow) (t : Trigger) → trigger_suits w.schema.tables t ≡ true → is_before_statement t ≡ true
    → rows_fit w.schema.tables rows ≡ true → FreeCause (before_statement_run rows t)
statement_trigger_free w rows t s b h =
    let once = not-true (for_each_row t) (and_parts (is_before t) (not (for_each_row t)) b).1 in
    then_free (λ x. x) (holds (scope_of no_frame rows) t.when) (λ fires. if fires then unless_signal t else Ok tt)
    (when_free w.schema.tables t no_frame rows s (statement_sees w.schema.tables t [] once refl refl) h) (λ fires e. by fires)
  where
    by : (fires : Bool) → FreeCause (if fires then unless_signal t else Ok (tt {0}))
    by true = signal_free t
    by false = tt

pub statement_triggers_free : (w : Context) (rows : List StoredRow) (d : DataStatement) → list_all (trigger_suits w.schema.tables) w.schema.triggers ≡ true
    → rows_fit w.schema.tables rows ≡ true → FreeRefusal (before_statement w rows d)
statement_triggers_free w rows d s h =
    in_turn_free (λ (x : Refusal). x.cause) (λ _. Unit {0}) (λ t _. while_running t.id (before_statement_run rows t)) (filter (is_before_this d) w.schema.triggers)
    (λ t i b p.
    let own = of_filter (is_before_this d) t w.schema.triggers i in
    running_free t.id (before_statement_run rows t)
    (statement_trigger_free w rows t (all_in (trigger_suits w.schema.tables) t w.schema.triggers s own.0)
    (and_parts (is_before_statement t) (is_on (table_of d) (event_of d) t)
    (and_parts (is_before_statement t && is_on (table_of d) (event_of d) t) (is_on_columns (set_columns d) t) own.1).0).0 h))
    (λ t i b after p f. tt)
    tt tt

pub statement_triggers_are_well_typed : StatementTriggersAreWellTyped
statement_triggers_are_well_typed w rows d refusal s h is =
    free_refused (λ (x : Refusal). x.cause) (before_statement w rows d) refusal (statement_triggers_free w rows d s h) is
