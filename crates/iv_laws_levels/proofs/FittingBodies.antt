-- What data statements that fit a catalogue keep, the triggers that fire keep, if their bodies fit it.
use Rattle.std.proofs.Common.{◌≡◌, ℕ, ◌+◌, ◌≤◌, ◌||◌, Bool, true, false, if◌then◌else◌, nat_lt, List, [], ◌∷◌, ◌++◌, length, map, filter, flat_map, Ok, subst, arith}
use Rattle.std.specs.List.{enumerate_from}
use Rattle.iv_laws_levels.specs.Types.{Change, TableColumn, BodyStatement, DataStatement, Database}
use Rattle.iv_laws_levels.specs.Types.body
use Rattle.iv_expr.specs.Changes.{Wave}
use Rattle.iv_expr.specs.Scopes.{Frame, scope_of}
use Rattle.iv_catalogue.specs.Catalogues.{Schema}
use Rattle.iv_catalogue.specs.declared.plan.Trigger.{Trigger}
use Rattle.iv_machine.specs.Context.{Context, over}
use Rattle.iv_machine.specs.Proposals.{holds, table_of, event_of}
use Rattle.iv_machine.specs.BeforeTriggers.{for_each_row, is_on, placed_statements}
use Rattle.iv_machine.specs.Levels.{Firing, Finished, Progress, Runs, row_firing, statement_firing, firings_of, transitions_of, is_after_on, firings, statement_run, body_run, firing_run, firings_run}
use Rattle.iv_laws_levels.specs.Reached.{IsThere, BodyFits}
use Rattle.iv_laws_levels.proofs.Chains.{not_ok, ok_same, step_of, ok_inside}

-- ---- triggers and firings whose bodies fit

abbrev pub TriggersFit : Schema → List Trigger → Type 0
TriggersFit c [] = Unit {0}
TriggersFit c (t ∷ ts) = BodyFits c t.body × TriggersFit c ts

abbrev pub FiringsFit : Schema → List Firing → Type 0
FiringsFit c [] = Unit {0}
FiringsFit c (x ∷ xs) = BodyFits c x.trigger.body × FiringsFit c xs

pub triggers_filter : (c : Schema) (p : Trigger → Bool) (ts : List Trigger) → TriggersFit c ts → TriggersFit c (filter p ts)
triggers_filter c p [] h = tt
triggers_filter c p (t ∷ ts) h =
    elim (p t) as (λ b. TriggersFit c (if b then t ∷ filter p ts else filter p ts)) [ true ↦ (h.0, triggers_filter c p ts h.1) | false ↦ triggers_filter c p ts h.1 ]

firings_both : (c : Schema) (xs ys : List Firing) → FiringsFit c xs → FiringsFit c ys → FiringsFit c (xs ++ ys)
firings_both c [] ys h k = k
firings_both c (x ∷ xs) ys h k = (h.0, firings_both c xs ys h.1 k)

row_firings_fit : (c : Schema) (t : Trigger) (transitions changes : List Change) → BodyFits c t.body → FiringsFit c (map (row_firing t transitions) changes)
row_firings_fit c t transitions [] h = tt
row_firings_fit c t transitions (x ∷ changes) h = (h, row_firings_fit c t transitions changes h)

firings_of_fit : (c : Schema) (d : DataStatement) (t : Trigger) (transitions : List Change) → BodyFits c t.body → FiringsFit c (firings_of d t transitions)
firings_of_fit c d t transitions h =
    elim (for_each_row t) as (λ b. FiringsFit c (if b then map (row_firing t transitions) transitions
    else (if is_on (table_of d) (event_of d) t || nat_lt 0 (length transitions) then statement_firing t transitions ∷ [] else []))) [
      | true ↦ row_firings_fit c t transitions transitions h
      | false ↦ elim (is_on (table_of d) (event_of d) t || nat_lt 0 (length transitions)) as (λ b. FiringsFit c (if b then statement_firing t transitions ∷ [] else [])) [ true ↦ (h, tt) | false ↦ tt ]
    ]

all_firings_fit : (c : Schema) (d : DataStatement) (net : Wave) (ts : List Trigger)
    → TriggersFit c ts → FiringsFit c (flat_map (λ t. firings_of d t (transitions_of t net)) ts)
all_firings_fit c d net [] h = tt
all_firings_fit c d net (t ∷ ts) h =
    firings_both c (firings_of d t (transitions_of t net))
    (flat_map (λ t'. firings_of d t' (transitions_of t' net)) ts)
    (firings_of_fit c d t (transitions_of t net) h.0) (all_firings_fit c d net ts h.1)

pub firings_fit : (w : Context) (d : DataStatement) (columns : List TableColumn) (net : Wave)
    → TriggersFit w.schema w.schema.triggers → FiringsFit w.schema (firings w d columns net)
firings_fit w d columns net h =
    all_firings_fit w.schema d net (filter (is_after_on columns) w.schema.triggers) (triggers_filter w.schema (is_after_on columns) w.schema.triggers h)

-- ---- more tables

pub body_fits_more : (c d : Schema) (statements : List BodyStatement) → length c.tables ≤ length d.tables → BodyFits c statements → BodyFits d statements
body_fits_more c d [] le h = tt
body_fits_more c d (body.Data statement ∷ rest) le h = (omega (arith, h.0, le), body_fits_more c d rest le h.1)
body_fits_more c d (body.Signal text ∷ rest) le h = body_fits_more c d rest le h
body_fits_more c d (body.Set s ∷ rest) le h = body_fits_more c d rest le h

pub triggers_fit_more : (c d : Schema) (ts : List Trigger) → length c.tables ≤ length d.tables → TriggersFit c ts → TriggersFit d ts
triggers_fit_more c d [] le h = tt
triggers_fit_more c d (t ∷ ts) le h = (body_fits_more c d t.body le h.0, triggers_fit_more c d ts le h.1)

-- ---- what they keep

-- of a database and a budget: what data statements keep that fit the catalogue
abbrev pub KeepsWhereFit : Schema → (Database → ℕ → Type 0) → Runs → Type 0
KeepsWhereFit c P run =
    (trigger : ℕ) (d : DataStatement) (f : Frame) (db : Database) (budget : ℕ) (done : Finished)
    → IsThere c (table_of d) → run trigger d f db budget ≡ Ok done → P db budget → P done.database done.rest

first_and_rest : (c : Schema) (statement : BodyStatement) (rest : List BodyStatement) → BodyFits c (statement ∷ rest) → BodyFits c (statement ∷ []) × BodyFits c rest
first_and_rest c (body.Data d) rest h = ((h.0, tt), h.1)
first_and_rest c (body.Signal text) rest h = (tt, h)
first_and_rest c (body.Set s) rest h = (tt, h)

module _ (c : Schema) (P : Database → ℕ → Type 0) (run : Runs) (keeps : KeepsWhereFit c P run) where
  statement_keeps : (x : Firing) (place : ℕ) (statement : BodyStatement) (at after : Progress)
      → BodyFits c (statement ∷ []) → statement_run run x place statement at ≡ Ok after → P at.database at.budget → P after.database after.budget
  statement_keeps x place (body.Data d) at after u e h =
      let done = step_of (run x.trigger.id d x.frame at.database at.budget) _ after e in
      subst (λ s. P s.database s.budget) (ok_same _ after done.2) (keeps x.trigger.id d x.frame at.database at.budget done.0 u.0 done.1 h)
  statement_keeps x place (body.Signal text) at after u e h = absurd (not_ok _ after e)
  statement_keeps x place (body.Set s) at after u e h = subst (λ s. P s.database s.budget) (ok_same at after e) h

  body_keeps : (x : Firing) (place : ℕ) (statements : List BodyStatement) (at after : Progress)
      → BodyFits c statements → body_run run x (enumerate_from place statements) at ≡ Ok after → P at.database at.budget → P after.database after.budget
  body_keeps x place [] at after u e h = subst (λ s. P s.database s.budget) (ok_same at after e) h
  body_keeps x place (statement ∷ rest) at after u e h =
      let one = step_of (statement_run run x place statement at) _ after e in
      let parts = first_and_rest c statement rest u in
      body_keeps x (place + 1) rest one.0 after parts.1 one.2 (statement_keeps x place statement at one.0 parts.0 one.1 h)

  body_keeps_where : (x : Firing) (fires : Bool) (at after : Progress)
      → BodyFits c x.trigger.body → (if fires then body_run run x (placed_statements x.trigger) at else Ok at) ≡ Ok after
      → P at.database at.budget → P after.database after.budget
  body_keeps_where x true at after u e h = body_keeps x 1 x.trigger.body at after u e h
  body_keeps_where x false at after u e h = subst (λ s. P s.database s.budget) (ok_same at after e) h

  fired_keeps : (x : Firing) (at after : Progress) → BodyFits c x.trigger.body → firing_run run x at ≡ Ok after → P at.database at.budget → P after.database after.budget
  fired_keeps x at after u e h =
      let one = step_of (over at.database (holds (scope_of x.frame at.database.rows) x.trigger.when)) _ after (ok_inside x.trigger.id _ after e) in
      body_keeps_where x one.0 at after u one.2 h

  pub all_fired_keeps_where : (xs : List Firing) (at after : Progress) → FiringsFit c xs → firings_run run xs at ≡ Ok after → P at.database at.budget → P after.database after.budget
  all_fired_keeps_where [] at after u e h = subst (λ s. P s.database s.budget) (ok_same at after e) h
  all_fired_keeps_where (x ∷ xs) at after u e h =
      let one = step_of (firing_run run x at) _ after e in
      all_fired_keeps_where xs one.0 after u.1 one.2 (fired_keeps x at one.0 u.0 one.1 h)
