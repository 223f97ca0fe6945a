-- Tables without triggers.
use Rattle.std.proofs.Common.{◌≡◌, refl, ℕ, ◌==◌, Bool, true, false, ◌&&◌, ◌||◌, if◌then◌else◌, List, [], ◌∷◌, ◌++◌, filter, Ok, ap, cond, sym, ◌∙◌}
use Rattle.std.specs.List.{list_any}
use Rattle.std.proofs.lemmas.Bool.{or_parts}
use Rattle.iv_expr.specs.declared.row.Change.{Change}
use Rattle.iv_expr.specs.declared.row.StoredRow.{StoredRow}
use Rattle.iv_expr.specs.declared.wave.TableColumn.{TableColumn}
use Rattle.iv_expr.specs.Evaluation.{and_then}
use Rattle.iv_expr.specs.Scopes.{no_frame}
use Rattle.iv_syntax.specs.declared.trigger.TriggerEvent.{TriggerEvent}
use Rattle.iv_catalogue.specs.declared.plan.DataStatement.{DataStatement}
use Rattle.iv_catalogue.specs.declared.plan.Trigger.{Trigger}
use Rattle.iv_machine.specs.BeforeTriggers.{before_row_run, before_statement, before_statement_run, change_after_trigger, change_frame, changes_after_triggers, event_of_change, is_before_row_on, is_before_statement, is_before_this, is_on, is_on_columns, same_event}
use Rattle.iv_machine.specs.Context.{Context, each, in_turn, while_running}
use Rattle.iv_machine.specs.Proposals.{event_of, set_columns, table_of}
use Rattle.iv_account.specs.Accounts.{before_each_told, before_rows_told, before_statement_told, before_row_run_told, before_triggers_told, trigger_told, told_in_turn, unless_refused, when_told}
use Rattle.iv_account.specs.Telling.{Account, and_told}
use Rattle.iv_account.proofs.Telling.{told_none}
use Rattle.iv_exec_context.specs.Triggered.{has_trigger, some_have_triggers}

-- a trigger that isn't on the table is none of the table and an event
pub not_on : (table : ℕ) (event : TriggerEvent) (t : Trigger) → (t.table == table) ≡ false → is_on table event t ≡ false
not_on table event t e = ap (λ b. b && same_event t.event event) e

not_both : (a b : Bool) → b ≡ false → (a && b) ≡ false
not_both true b e = e
not_both false b e = refl

-- ---- of a statement

none_meant : (d : DataStatement) (triggers : List Trigger) → has_trigger triggers (table_of d) ≡ false → filter (is_before_this d) triggers ≡ []
none_meant d [] e = refl
none_meant d (t ∷ triggers) e =
    let parts = or_parts (t.table == table_of d) (has_trigger triggers (table_of d)) e in
    ap (λ b. cond (b && is_on_columns (set_columns d) t) (t ∷ filter (is_before_this d) triggers) (filter (is_before_this d) triggers))
    (not_both (is_before_statement t) (is_on (table_of d) (event_of d) t) (not_on (table_of d) (event_of d) t parts.0))
    ∙ none_meant d triggers parts.1

pub none_before_statement : (context : Context) (rows : List StoredRow) (d : DataStatement) → has_trigger context.schema.triggers (table_of d) ≡ false
    → Ok tt ≡ before_statement context rows d
none_before_statement context rows d e =
    ap (λ l. in_turn (λ (t : Trigger) (_ : Unit {0}). while_running t.id (before_statement_run rows t)) l tt) (sym (none_meant d context.schema.triggers e))

-- nothing is told then
pub none_told_before_statement : (context : Context) (rows : List StoredRow) (d : DataStatement) (account : Account) → has_trigger context.schema.triggers (table_of d) ≡ false
    → account ≡ and_told account (before_statement_told context rows d)
none_told_before_statement context rows d account e =
    sym (told_none account)
    ∙ ap (λ l. and_told account (told_in_turn (λ (t : Trigger) (_ : Unit {0}). while_running t.id (before_statement_run rows t)) (λ t _. trigger_told rows t no_frame) l tt))
    (sym (none_meant d context.schema.triggers e))

-- ---- of the rows of a wave

-- no change is on a trigger's table
abbrev pub apart : Trigger → List Change → Bool
apart t changes = list_any (λ c. t.table == c.table) changes

pub apart_of_each : (t : Trigger) (triggers : List Trigger) (changes : List Change) → some_have_triggers (t ∷ triggers) changes ≡ false
    → (apart t changes ≡ false) × (some_have_triggers triggers changes ≡ false)
apart_of_each t triggers [] e = (refl, refl)
apart_of_each t triggers (c ∷ changes) e =
    let both = or_parts ((t.table == c.table) || has_trigger triggers c.table) (some_have_triggers (t ∷ triggers) changes) e in
    let here = or_parts (t.table == c.table) (has_trigger triggers c.table) both.0 in
    let rest = apart_of_each t triggers changes both.1 in
    (ap (λ b. b || apart t changes) here.0 ∙ rest.0, ap (λ b. b || some_have_triggers triggers changes) here.1 ∙ rest.1)

untouched : (context : Context) (rows : List StoredRow) (t : Trigger) (changes : List Change) → apart t changes ≡ false
    → each (change_after_trigger context rows t) changes ≡ Ok changes
untouched context rows t [] e = refl
untouched context rows t (c ∷ changes) e =
    let parts = or_parts (t.table == c.table) (apart t changes) e in
    ap (λ b. and_then (if b then while_running t.id (before_row_run context rows t c) else Ok c) (λ y. and_then (each (change_after_trigger context rows t) changes) (λ ys. Ok (y ∷ ys))))
    (not_on c.table (event_of_change c) t parts.0)
    ∙ ap (λ r. and_then r (λ ys. Ok (c ∷ ys))) (untouched context rows t changes parts.1)

with_or_without : (context : Context) (rows : List StoredRow) (t : Trigger) (triggers : List Trigger) (changes : List Change) (b : Bool) → apart t changes ≡ false
    → changes_after_triggers context rows triggers changes ≡ Ok changes → changes_after_triggers context rows (cond b (t ∷ triggers) triggers) changes ≡ Ok changes
with_or_without context rows t triggers changes true e h =
    ap (λ r. and_then r (λ cs. changes_after_triggers context rows triggers cs)) (untouched context rows t changes e) ∙ h
with_or_without context rows t triggers changes false e h = h

all_untouched : (context : Context) (rows : List StoredRow) (columns : List TableColumn) (triggers : List Trigger) (changes : List Change)
    → some_have_triggers triggers changes ≡ false → changes_after_triggers context rows (filter (is_before_row_on columns) triggers) changes ≡ Ok changes
all_untouched context rows columns [] changes e = refl
all_untouched context rows columns (t ∷ triggers) changes e =
    let parts = apart_of_each t triggers changes e in
    with_or_without context rows t (filter (is_before_row_on columns) triggers) changes (is_before_row_on columns t) parts.0
    (all_untouched context rows columns triggers changes parts.1)

pub rows_untouched : (context : Context) (rows : List StoredRow) (columns : List TableColumn) (changes : List Change)
    → some_have_triggers context.schema.triggers changes ≡ false
    → changes_after_triggers context rows (filter (is_before_row_on columns) context.schema.triggers) changes ≡ Ok changes
rows_untouched context rows columns changes e = all_untouched context rows columns context.schema.triggers changes e

-- ---- nothing is told of the rows of a wave then

each_untold : (context : Context) (rows : List StoredRow) (t : Trigger) (changes : List Change) → apart t changes ≡ false → before_each_told context rows t changes ≡ []
each_untold context rows t [] e = refl
each_untold context rows t (c ∷ changes) e =
    let parts = or_parts (t.table == c.table) (apart t changes) e in
    ap (λ b. (if b then when_told rows t (change_frame c) (before_row_run_told context rows t c) else [])
    ++ unless_refused (if b then while_running t.id (before_row_run context rows t c) else Ok c) (λ _. before_each_told context rows t changes))
    (not_on c.table (event_of_change c) t parts.0)
    ∙ each_untold context rows t changes parts.1

untold_with_or_without : (context : Context) (rows : List StoredRow) (t : Trigger) (triggers : List Trigger) (changes : List Change) (b : Bool) → apart t changes ≡ false
    → before_triggers_told context rows triggers changes ≡ [] → before_triggers_told context rows (cond b (t ∷ triggers) triggers) changes ≡ []
untold_with_or_without context rows t triggers changes true e h =
    ap (λ r. before_each_told context rows t changes ++ unless_refused r (before_triggers_told context rows triggers)) (untouched context rows t changes e)
    ∙ ap (λ l. l ++ before_triggers_told context rows triggers changes) (each_untold context rows t changes e) ∙ h
untold_with_or_without context rows t triggers changes false e h = h

all_untold : (context : Context) (rows : List StoredRow) (columns : List TableColumn) (triggers : List Trigger) (changes : List Change)
    → some_have_triggers triggers changes ≡ false → before_triggers_told context rows (filter (is_before_row_on columns) triggers) changes ≡ []
all_untold context rows columns [] changes e = refl
all_untold context rows columns (t ∷ triggers) changes e =
    let parts = apart_of_each t triggers changes e in
    untold_with_or_without context rows t (filter (is_before_row_on columns) triggers) changes (is_before_row_on columns t) parts.0
    (all_untold context rows columns triggers changes parts.1)

pub rows_untold : (context : Context) (rows : List StoredRow) (columns : List TableColumn) (changes : List Change) (account : Account)
    → some_have_triggers context.schema.triggers changes ≡ false → account ≡ and_told account (before_rows_told context rows columns changes)
rows_untold context rows columns changes account e =
    sym (told_none account) ∙ ap (and_told account) (sym (all_untold context rows columns context.schema.triggers changes e))
