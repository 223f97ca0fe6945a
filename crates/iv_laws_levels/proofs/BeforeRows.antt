-- What BEFORE row triggers leave of a change: its row, its old values, and a deletion.
use Rattle.std.proofs.Common.{◌≡◌, refl, ℕ, Bool, true, false, ◌||◌, if◌then◌else◌, List, [], ◌∷◌, filter, Option, Some, None, Ok, sym, ap, subst, ◌∙◌}
use Rattle.std.specs.Bool.{◌==◌}
use Rattle.iv_laws_levels.specs.Types.{Value, StoredRow, Change, BodyStatement, Database}
use Rattle.iv_laws_levels.specs.Types.body
use Rattle.iv_expr.specs.Changes.{Wave}
use Rattle.iv_expr.specs.Evaluation.{value}
use Rattle.iv_expr.specs.Scopes.{scope_of}
use Rattle.iv_catalogue.specs.declared.plan.Trigger.{Trigger}
use Rattle.iv_machine.specs.Databases.{row_at, has_change}
use Rattle.iv_machine.specs.Context.{Context, while_running, each, in_turn}
use Rattle.iv_machine.specs.Proposals.{holds, stored_value}
use Rattle.iv_machine.specs.BeforeTriggers.{is_on, event_of_change, placed_statements, change_frame, with_new_value, change_after_statement, before_row_run, change_after_trigger, changes_after_triggers, is_before_row_on}
use Rattle.iv_machine.specs.Waves.{with_numbers, wave_as_applied}
use Rattle.iv_laws_levels.specs.FittingWaves.{old_row, Current}
use Rattle.iv_laws_levels.specs.Reorderings.{Distinct}
use Rattle.iv_laws_levels.proofs.Chains.{not_ok, ok_same, step_of, ok_running}
use Rattle.iv_laws_levels.proofs.Settling.{applied_is}

-- a change of the same row with the same old values; what was a deletion is one
pub record Alike (c d : Change) : Type 0 where
  pub row : c.row ≡ d.row
  pub table : c.table ≡ d.table
  pub old : c.old ≡ d.old
  pub deletion : c.new ≡ None → d.new ≡ None

pub alike_itself : (c : Change) → Alike c c
alike_itself c = record { row = refl; table = refl; old = refl; deletion = λ e. e }

pub alike_twice : (b c d : Change) → Alike b c → Alike c d → Alike b d
alike_twice b c d h k = record { row = h.row ∙ k.row; table = h.table ∙ k.table; old = h.old ∙ k.old; deletion = λ e. k.deletion (h.deletion e) }

with_new_alike : (c : Change) (column : ℕ) (v : Value) → Alike c (with_new_value c column v)
with_new_alike c column v = by_new c.new refl
  where
    by_new : (new : Option (List Value)) → c.new ≡ new
        → Alike c (elim new [ Some row ↦ record c { new = Some (Rattle.std.specs.Prelude.slice_set row column v) } | None ↦ c ])
    by_new None e = alike_itself c
    by_new (Some row) e = record { row = refl; table = refl; old = refl; deletion = λ none. absurd (some_is_none (sym e ∙ none)) }
      where
        some_is_none : ◌≡◌ {A = Option (List Value)} (Some row) None → ⊥
        some_is_none h = cc

statement_alike : (w : Context) (rows : List StoredRow) (t : Trigger) (place : ℕ) (statement : BodyStatement) (c d : Change)
    → change_after_statement w rows t place statement c ≡ Ok d → Alike c d
statement_alike w rows t place (body.Set s) c d e =
    let one = step_of (stored_value w c.table s.column (value (scope_of (change_frame c) rows) s.value)) _ d e in
    subst (Alike c) (ok_same (with_new_value c s.column one.0) d one.2) (with_new_alike c s.column one.0)
statement_alike w rows t place (body.Signal text) c d e = absurd (not_ok _ d e)
statement_alike w rows t place (body.Data _) c d e = subst (Alike c) (ok_same c d e) (alike_itself c)

body_alike : (w : Context) (rows : List StoredRow) (t : Trigger) (statements : List (ℕ × BodyStatement)) (c d : Change)
    → in_turn (λ s. change_after_statement w rows t s.0 s.1) statements c ≡ Ok d → Alike c d
body_alike w rows t [] c d e = subst (Alike c) (ok_same c d e) (alike_itself c)
body_alike w rows t (s ∷ rest) c d e =
    let one = step_of (change_after_statement w rows t s.0 s.1 c) _ d e in
    alike_twice c one.0 d (statement_alike w rows t s.0 s.1 c one.0 one.1) (body_alike w rows t rest one.0 d one.2)

trigger_alike : (w : Context) (rows : List StoredRow) (t : Trigger) (c d : Change) → change_after_trigger w rows t c ≡ Ok d → Alike c d
trigger_alike w rows t c d e = where_on (is_on c.table (event_of_change c) t) e
  where
    where_fires : (fires : Bool)
        → (if fires then in_turn (λ s. change_after_statement w rows t s.0 s.1) (placed_statements t) c else Ok c) ≡ Ok d → Alike c d
    where_fires true h = body_alike w rows t (placed_statements t) c d h
    where_fires false h = subst (Alike c) (ok_same c d h) (alike_itself c)

    where_on : (on : Bool) → (if on then while_running t.id (before_row_run w rows t c) else Ok c) ≡ Ok d → Alike c d
    where_on true h =
        let one = step_of (holds (scope_of (change_frame c) rows) t.when) _ d (ok_running t.id _ d h) in
        where_fires one.0 one.2
    where_on false h = subst (Alike c) (ok_same c d h) (alike_itself c)

-- ---- waves

abbrev pub AllAlike : List Change → List Change → Type 0
AllAlike [] [] = Unit {0}
AllAlike (c ∷ wave) (d ∷ other) = Alike c d × AllAlike wave other
AllAlike _ _ = ⊥

pub all_alike_itself : (wave : List Change) → AllAlike wave wave
all_alike_itself [] = tt
all_alike_itself (c ∷ wave) = (alike_itself c, all_alike_itself wave)

all_alike_twice : (wave other third : List Change) → AllAlike wave other → AllAlike other third → AllAlike wave third
all_alike_twice [] [] [] h k = tt
all_alike_twice [] [] (d ∷ third) h k = absurd k
all_alike_twice [] (d ∷ other) third h k = absurd h
all_alike_twice (b ∷ wave) [] third h k = absurd h
all_alike_twice (b ∷ wave) (c ∷ other) [] h k = absurd k
all_alike_twice (b ∷ wave) (c ∷ other) (d ∷ third) h k = (alike_twice b c d h.0 k.0, all_alike_twice wave other third h.1 k.1)

each_alike : (w : Context) (rows : List StoredRow) (t : Trigger) (changes out : List Change) → each (change_after_trigger w rows t) changes ≡ Ok out → AllAlike changes out
each_alike w rows t [] out e = subst (AllAlike []) (ok_same [] out e) tt
each_alike w rows t (c ∷ changes) out e =
    let one = step_of (change_after_trigger w rows t c) _ out e in
    let more = step_of (each (change_after_trigger w rows t) changes) _ out one.2 in
    subst (AllAlike (c ∷ changes)) (ok_same (one.0 ∷ more.0) out more.2) (trigger_alike w rows t c one.0 one.1, each_alike w rows t changes more.0 more.1)

pub triggers_alike : (w : Context) (rows : List StoredRow) (ts : List Trigger) (changes out : List Change) → changes_after_triggers w rows ts changes ≡ Ok out → AllAlike changes out
triggers_alike w rows [] changes out e = subst (AllAlike changes) (ok_same changes out e) (all_alike_itself changes)
triggers_alike w rows (t ∷ ts) changes out e =
    let one = step_of (each (change_after_trigger w rows t) changes) _ out e in
    all_alike_twice changes one.0 out (each_alike w rows t changes one.0 one.1) (triggers_alike w rows ts one.0 out one.2)

-- a wave as it is applied is of the same rows, with the same old values, as the wave with row numbers
pub applied_alike : (w : Context) (db : Database) (budget : ℕ) (wave out : Wave) → wave_as_applied w db budget wave ≡ Ok out
    → AllAlike (with_numbers db.next wave.changes) out.changes
applied_alike w db budget wave out e =
    triggers_alike w db.rows (filter (is_before_row_on wave.columns) w.schema.triggers) (with_numbers db.next wave.changes) out.changes
    (applied_is w db budget wave out e).after_triggers

pub has_change_alike : (wave other : List Change) (n : ℕ) → AllAlike wave other → has_change wave n ≡ has_change other n
has_change_alike [] [] n h = refl
has_change_alike [] (d ∷ other) n h = absurd h
has_change_alike (c ∷ wave) [] n h = absurd h
has_change_alike (c ∷ wave) (d ∷ other) n h = λ i. (h.0.row i == n) || has_change_alike wave other n h.1 i

pub distinct_alike : (wave other : List Change) → AllAlike wave other → Distinct wave → Distinct other
distinct_alike [] [] h d = tt
distinct_alike [] (c ∷ other) h d = absurd h
distinct_alike (b ∷ wave) [] h d = absurd h
distinct_alike (b ∷ wave) (c ∷ other) h d =
    (sym (has_change_alike wave other c.row h.1) ∙ ap (has_change wave) (sym h.0.row) ∙ d.0, distinct_alike wave other h.1 d.1)

old_alike : (c d : Change) → Alike c d → old_row c ≡ old_row d
old_alike c d h = λ i. elim (h.old i) [ Some values ↦ Some (record { table = h.table i; number = h.row i; values = values }) | None ↦ None ]

pub current_alike : (rows : List StoredRow) (wave other : List Change) → AllAlike wave other → Current rows wave → Current rows other
current_alike rows [] [] h c = tt
current_alike rows [] (d ∷ other) h c = absurd h
current_alike rows (b ∷ wave) [] h c = absurd h
current_alike rows (b ∷ wave) (d ∷ other) h c = (ap (row_at rows) (sym h.0.row) ∙ c.0 ∙ old_alike b d h.0, current_alike rows wave other h.1 c.1)
