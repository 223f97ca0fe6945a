-- BEFORE triggers are without refusals of some kind, if conditions, the values of columns and SIGNAL are.
use Rattle.std.proofs.Common.{◌≡◌, ℕ, Bool, true, false, if◌then◌else◌, List, Option, Some, None, Result, Ok, Err, find, filter}
use Rattle.iv_laws_rows.specs.Types.{StoredRow, Change, Cause, Refusal, BodyStatement, DataStatement, Trigger}
use Rattle.iv_laws_rows.specs.Types.cause.{Signal}
use Rattle.iv_laws_rows.specs.Types.body
use Rattle.iv_expr.specs.declared.tree.Cond.{Cond}
use Rattle.iv_expr.specs.declared.tree.Expr.{Expr}
use Rattle.iv_expr.specs.Changes.{Wave}
use Rattle.iv_expr.specs.Evaluation.{value}
use Rattle.iv_expr.specs.Scopes.{Scope, no_frame, scope_of}
use Rattle.iv_machine.specs.Context.{Context, while_running, each, in_turn}
use Rattle.iv_machine.specs.Proposals.{holds, stored_value}
use Rattle.iv_machine.specs.BeforeTriggers.{is_before_row_on, is_before_this, is_on, event_of_change, placed_statements, is_signal, unless_signal, before_statement_run, before_statement, change_frame, with_new_value, change_after_statement, before_row_run, change_after_trigger, changes_after_triggers, wave_after_triggers}
use Rattle.iv_laws_rows.proofs.Without.{Without, each_without, in_turn_without, running_without, then_without}

abbrev pub WithoutRefusal : {A : Type 0} → (Cause → Bool) → Result A Refusal → Type 0
WithoutRefusal test r = Without (λ (x : Refusal). test x.cause) r

-- what a trigger evaluates, and its SIGNAL, are without such refusals
pub record Evaluates (test : Cause → Bool) : Type 0 where
  pub conditions : (s : Scope) (c : Cond) → Without test (holds s c)
  pub values : (w : Context) (table column : ℕ) (s : Scope) (e : Expr) → Without test (stored_value w table column (value s e))
  pub signals : (trigger place : ℕ) → test (Signal trigger place) ≡ false

-- ---- those of a statement

signal_without : (test : Cause → Bool) → Evaluates test → (t : Trigger) → Without test (unless_signal t)
signal_without test x t = by (find (λ s. is_signal s.1) (placed_statements t))
  where
    by : (o : Option (ℕ × BodyStatement)) → Without test (elim o as (λ x. Result (Unit {0}) Cause) [ Some s ↦ Err (Signal t.id s.0) | None ↦ Ok tt ])
    by (Some s) = x.signals t.id s.0
    by None = tt

run_without : (test : Cause → Bool) → Evaluates test → (rows : List StoredRow) (t : Trigger) → Without test (before_statement_run rows t)
run_without test x rows t =
    then_without test (holds (scope_of no_frame rows) t.when) (λ fires. if fires then unless_signal t else Ok tt) (x.conditions (scope_of no_frame rows) t.when) (λ fires e. by fires)
  where
    by : (fires : Bool) → Without test (if fires then unless_signal t else Ok (tt {0}))
    by true = signal_without test x t
    by false = tt

pub statement_triggers_without : (test : Cause → Bool) → Evaluates test → (w : Context) (rows : List StoredRow) (d : DataStatement) → WithoutRefusal test (before_statement w rows d)
statement_triggers_without test x w rows d =
    in_turn_without (λ (r : Refusal). test r.cause) (λ _. Unit {0}) (λ t _. while_running t.id (before_statement_run rows t)) (filter (is_before_this d) w.schema.triggers)
    (λ t i b p. running_without test t.id (before_statement_run rows t) (run_without test x rows t)) (λ t i b after p e. tt) tt tt

-- ---- those of rows

action_without : (test : Cause → Bool) → Evaluates test → (w : Context) (rows : List StoredRow) (t : Trigger) (place : ℕ) (statement : BodyStatement) (c : Change)
    → Without test (change_after_statement w rows t place statement c)
action_without test x w rows t place (body.Set s) c =
    then_without test (stored_value w c.table s.column (value (scope_of (change_frame c) rows) s.value)) (λ v. Ok (with_new_value c s.column v))
    (x.values w c.table s.column (scope_of (change_frame c) rows) s.value) (λ v e. tt)
action_without test x w rows t place (body.Signal text) c = x.signals t.id place
action_without test x w rows t place (body.Data statement) c = tt

row_run_without : (test : Cause → Bool) → Evaluates test → (w : Context) (rows : List StoredRow) (t : Trigger) (c : Change) → Without test (before_row_run w rows t c)
row_run_without test x w rows t c =
    then_without test (holds (scope_of (change_frame c) rows) t.when)
    (λ fires. if fires then in_turn (λ s. change_after_statement w rows t s.0 s.1) (placed_statements t) c else Ok c)
    (x.conditions (scope_of (change_frame c) rows) t.when) (λ fires e. by fires)
  where
    by : (fires : Bool) → Without test (if fires then in_turn (λ s. change_after_statement w rows t s.0 s.1) (placed_statements t) c else Ok c)
    by true =
        in_turn_without test (λ _. Unit {0}) (λ s. change_after_statement w rows t s.0 s.1) (placed_statements t)
        (λ s i d p. action_without test x w rows t s.0 s.1 d) (λ s i d after p e. tt) c tt
    by false = tt

trigger_without : (test : Cause → Bool) → Evaluates test → (w : Context) (rows : List StoredRow) (t : Trigger) (c : Change) → WithoutRefusal test (change_after_trigger w rows t c)
trigger_without test x w rows t c = by (is_on c.table (event_of_change c) t)
  where
    by : (on : Bool) → WithoutRefusal test (if on then while_running t.id (before_row_run w rows t c) else Ok c)
    by true = running_without test t.id (before_row_run w rows t c) (row_run_without test x w rows t c)
    by false = tt

pub row_triggers_without : (test : Cause → Bool) → Evaluates test → (w : Context) (rows : List StoredRow) (ts : List Trigger) (changes : List Change)
    → WithoutRefusal test (changes_after_triggers w rows ts changes)
row_triggers_without test x w rows ts changes =
    in_turn_without (λ (r : Refusal). test r.cause) (λ _. Unit {0}) (λ t. each (change_after_trigger w rows t)) ts
    (λ t i cs p. each_without (λ (r : Refusal). test r.cause) (change_after_trigger w rows t) cs (λ c j. trigger_without test x w rows t c)) (λ t i cs after p e. tt) changes tt

pub wave_triggers_without : (test : Cause → Bool) → Evaluates test → (w : Context) (rows : List StoredRow) (wave : Wave) → WithoutRefusal test (wave_after_triggers w rows wave)
wave_triggers_without test x w rows wave =
    then_without (λ (r : Refusal). test r.cause) (changes_after_triggers w rows (filter (is_before_row_on wave.columns) w.schema.triggers) wave.changes)
    (λ changes. Ok (record wave { changes = changes }))
    (row_triggers_without test x w rows (filter (is_before_row_on wave.columns) w.schema.triggers) wave.changes) (λ changes e. tt)
