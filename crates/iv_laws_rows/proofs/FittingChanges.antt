-- A wave that fits does as it is applied, and so do the rows after it.
use Rattle.std.proofs.Common.{◌≡◌, ℕ, ◌+◌, Bool, true, false, ◌&&◌, if◌then◌else◌, List, [], ◌∷◌, ◌∙◌, Option, Some, None, is_none, is_some, Ok, refl, sym, ap, filter, slice_get, slice_set}
use mathlib.Core.Bool.{or-true}
use Rattle.std.proofs.lemmas.Bool.{and_from, and_parts}
use Rattle.std.specs.List.{cons_option}
use Rattle.iv_laws_rows.specs.Types.{Value, StoredRow, Change, Table, Cause, Refusal, BodyStatement, Trigger}
use Rattle.iv_laws_rows.specs.Types.body
use Rattle.iv_expr.specs.Evaluation.{value}
use Rattle.iv_expr.specs.Scopes.{scope_of}
use Rattle.iv_machine.specs.Databases.{database_after}
use Rattle.iv_machine.specs.Context.{Context, while_running, each, in_turn}
use Rattle.iv_machine.specs.Proposals.{holds, stored_value}
use Rattle.iv_machine.specs.BeforeTriggers.{is_on, event_of_change, placed_statements, is_before_row_on, change_frame, with_new_value, change_after_statement, before_row_run, change_after_trigger}
use Rattle.iv_machine.specs.Waves.{with_numbers}
use Rattle.iv_laws_levels.specs.RisingRows.{Every}
use Rattle.iv_laws_levels.proofs.Chains.{not_ok, ok_same, step_of, ok_running}
use Rattle.iv_laws_levels.proofs.Settling.{applied_is}
use Rattle.iv_laws_levels.proofs.AppliedRows.{row_of, news}
use Rattle.iv_laws_levels.proofs.NumberedRows.{every_after}
use Rattle.iv_laws_rows.specs.RowFits.{side_fits, has_side, change_fits, changes_fit, row_fits, rows_fit}
use Rattle.iv_laws_rows.specs.Laws.{NumberedChangesFit, TriggeredChangesFit, AppliedWavesFit, RowsAfterFit}
use Rattle.iv_laws_fitting.specs.PlanShapes.{is_there}
use Rattle.iv_laws_rows.proofs.FittingValues.{pair_fits, stored_fits, set_fits}

-- ---- a change

-- what is known of a change that fits
pub record Fitting (tables : List Table) (c : Change) : Type 0 where
  pub there : is_there tables c.table ≡ true
  pub side : has_side c ≡ true
  pub old : side_fits tables c.table c.old ≡ true
  pub new : side_fits tables c.table c.new ≡ true

pub fitting : (tables : List Table) (c : Change) → change_fits tables c ≡ true → Fitting tables c
fitting tables c h =
    let p = and_parts (is_there tables c.table) (has_side c && (side_fits tables c.table c.old && side_fits tables c.table c.new)) h in
    let q = and_parts (has_side c) (side_fits tables c.table c.old && side_fits tables c.table c.new) p.1 in
    let r = and_parts (side_fits tables c.table c.old) (side_fits tables c.table c.new) q.1 in
    record { there = p.0; side = q.0; old = r.0; new = r.1 }

-- ---- numbers

pub numbered_changes_fit : NumberedChangesFit
numbered_changes_fit tables next [] h = refl
numbered_changes_fit tables next (c ∷ changes) h =
    let parts = and_parts (change_fits tables c) (changes_fit tables changes) h in
    elim (is_none c.old) as (λ b. changes_fit tables (if b then record c { row = next } ∷ with_numbers (next + 1) changes else c ∷ with_numbers next changes) ≡ true) [
      | true ↦ and_from _ _ parts.0 (numbered_changes_fit tables (next + 1) changes parts.1)
      | false ↦ and_from _ _ parts.0 (numbered_changes_fit tables next changes parts.1)
    ]

-- ---- BEFORE triggers

new_value_fits : (tables : List Table) (c : Change) (column : ℕ) (v : Value) → change_fits tables c ≡ true
    → pair_fits (slice_get tables c.table) (column, v) ≡ true → change_fits tables (with_new_value c column v) ≡ true
new_value_fits tables c column v h g = by_new c.new refl
  where
    by_new : (new : Option (List Value)) → c.new ≡ new
        → change_fits tables (elim new [ Some row ↦ record c { new = Some (slice_set row column v) } | None ↦ c ]) ≡ true
    by_new None e = h
    by_new (Some row) e =
        let f = fitting tables c h in
        and_from _ _ f.there (and_from _ _ (or-true (is_some c.old)) (and_from _ _ f.old (set_fits (slice_get tables c.table) row (column, v) (ap (side_fits tables c.table) (sym e) ∙ f.new) g)))

pub statement_fits : (w : Context) (rows : List StoredRow) (t : Trigger) (place : ℕ) (statement : BodyStatement) (c d : Change)
    → change_after_statement w rows t place statement c ≡ Ok d → change_fits w.schema.tables c ≡ true → change_fits w.schema.tables d ≡ true
statement_fits w rows t place (body.Set s) c d e h =
    let stored = step_of (stored_value w c.table s.column (value (scope_of (change_frame c) rows) s.value)) _ d e in
    ap (change_fits w.schema.tables) (sym (ok_same {E = Cause} (with_new_value c s.column stored.0) d stored.2))
    ∙ new_value_fits w.schema.tables c s.column stored.0 h (stored_fits w c.table s.column (value (scope_of (change_frame c) rows) s.value) stored.0 stored.1)
statement_fits w rows t place (body.Signal text) c d e h = absurd (not_ok _ d e)
statement_fits w rows t place (body.Data statement) c d e h = ap (change_fits w.schema.tables) (sym (ok_same {E = Cause} c d e)) ∙ h

body_fits : (w : Context) (rows : List StoredRow) (t : Trigger) (statements : List (ℕ × BodyStatement)) (c d : Change)
    → in_turn (λ s. change_after_statement w rows t s.0 s.1) statements c ≡ Ok d → change_fits w.schema.tables c ≡ true → change_fits w.schema.tables d ≡ true
body_fits w rows t [] c d e h = ap (change_fits w.schema.tables) (sym (ok_same {E = Cause} c d e)) ∙ h
body_fits w rows t (s ∷ rest) c d e h =
    let one = step_of (change_after_statement w rows t s.0 s.1 c) _ d e in
    body_fits w rows t rest one.0 d one.2 (statement_fits w rows t s.0 s.1 c one.0 one.1 h)

trigger_fits : (w : Context) (rows : List StoredRow) (t : Trigger) (c d : Change) → change_after_trigger w rows t c ≡ Ok d
    → change_fits w.schema.tables c ≡ true → change_fits w.schema.tables d ≡ true
trigger_fits w rows t c d e h = where_on (is_on c.table (event_of_change c) t) e
  where
    where_fires : (fires : Bool)
        → (if fires then in_turn (λ s. change_after_statement w rows t s.0 s.1) (placed_statements t) c else Ok c) ≡ Ok d → change_fits w.schema.tables d ≡ true
    where_fires true g = body_fits w rows t (placed_statements t) c d g h
    where_fires false g = ap (change_fits w.schema.tables) (sym (ok_same {E = Cause} c d g)) ∙ h

    where_on : (on : Bool) → (if on then while_running t.id (before_row_run w rows t c) else Ok c) ≡ Ok d → change_fits w.schema.tables d ≡ true
    where_on true g =
        let one = step_of (holds (scope_of (change_frame c) rows) t.when) _ d (ok_running t.id _ d g) in
        where_fires one.0 one.2
    where_on false g = ap (change_fits w.schema.tables) (sym (ok_same {E = Refusal} c d g)) ∙ h

pub each_trigger_fits : (w : Context) (rows : List StoredRow) (t : Trigger) (changes out : List Change) → each (change_after_trigger w rows t) changes ≡ Ok out
    → changes_fit w.schema.tables changes ≡ true → changes_fit w.schema.tables out ≡ true
each_trigger_fits w rows t [] out e h = ap (changes_fit w.schema.tables) (sym (ok_same {E = Refusal} [] out e))
each_trigger_fits w rows t (c ∷ changes) out e h =
    let parts = and_parts (change_fits w.schema.tables c) (changes_fit w.schema.tables changes) h in
    let one = step_of (change_after_trigger w rows t c) _ out e in
    let more = step_of (each (change_after_trigger w rows t) changes) _ out one.2 in
    ap (changes_fit w.schema.tables) (sym (ok_same {E = Refusal} (one.0 ∷ more.0) out more.2))
    ∙ and_from _ _ (trigger_fits w rows t c one.0 one.1 parts.0) (each_trigger_fits w rows t changes more.0 more.1 parts.1)

pub triggered_changes_fit : TriggeredChangesFit
triggered_changes_fit w rows [] changes out h e = ap (changes_fit w.schema.tables) (sym (ok_same {E = Refusal} changes out e)) ∙ h
triggered_changes_fit w rows (t ∷ ts) changes out h e =
    let one = step_of (each (change_after_trigger w rows t) changes) _ out e in
    triggered_changes_fit w rows ts one.0 out (each_trigger_fits w rows t changes one.0 one.1 h) one.2

pub applied_waves_fit : AppliedWavesFit
applied_waves_fit w db budget wave out h e =
    triggered_changes_fit w db.rows (filter (is_before_row_on wave.columns) w.schema.triggers) (with_numbers db.next wave.changes) out.changes
    (numbered_changes_fit w.schema.tables db.next wave.changes h) (applied_is w db budget wave out e).after_triggers

-- ---- rows

pub every_fits : (tables : List Table) (rows : List StoredRow) → rows_fit tables rows ≡ true → Every (λ r. row_fits tables r ≡ true) rows
every_fits tables [] h = tt
every_fits tables (r ∷ rows) h = let parts = and_parts (row_fits tables r) (rows_fit tables rows) h in (parts.0, every_fits tables rows parts.1)

pub from_every : (tables : List Table) (rows : List StoredRow) → Every (λ r. row_fits tables r ≡ true) rows → rows_fit tables rows ≡ true
from_every tables [] h = refl
from_every tables (r ∷ rows) h = and_from _ _ h.0 (from_every tables rows h.1)

news_fit : (tables : List Table) (changes : List Change) → changes_fit tables changes ≡ true → Every (λ r. row_fits tables r ≡ true) (news changes)
news_fit tables [] h = tt
news_fit tables (c ∷ changes) h =
    let parts = and_parts (change_fits tables c) (changes_fit tables changes) h in
    by c.new (fitting tables c parts.0).new (news_fit tables changes parts.1)
  where
    by : (new : Option (List Value)) → side_fits tables c.table new ≡ true → Every (λ r. row_fits tables r ≡ true) (news changes)
        → Every (λ r. row_fits tables r ≡ true) (cons_option (row_of c new) (news changes))
    by None g rest = rest
    by (Some values) g rest = (g, rest)

pub rows_after_fit : RowsAfterFit
rows_after_fit tables db wave h g =
    from_every tables (database_after db wave).rows
    (every_after (λ r. row_fits tables r ≡ true) db.rows wave.changes (every_fits tables db.rows h) (news_fit tables wave.changes g))
