-- The plan of a statement that deserves no cause, and may run now, fits.
use Rattle.std.proofs.Common.{◌≡◌, ℕ, ◌≤◌, ◌<◌, Bool, true, false, ◌||◌, Option, Some, None, Ok, length, map, slice_get, arith, refl, ap, sym, subst, ◌∙◌, nat_le, nat_lt}
use Rattle.std.proofs.lemmas.Bool.{or_parts}
use Rattle.std.specs.Option.{option_or}
use Rattle.std.proofs.lemmas.Bool.Decides.{nat_tests}
use Rattle.iv_state.specs.Types.{Statement, Table, Plan, SchemaPlan, Trigger}
use Rattle.iv_state.specs.Types.plan
use Rattle.iv_state.specs.Types.schema
use Rattle.iv_syntax.specs.declared.statement.Statement.TheVariants as statement
use Rattle.iv_syntax.specs.declared.trigger.TriggerDefinition.{TriggerDefinition}
use Rattle.iv_catalogue.specs.Catalogues.{Schema, has_trigger}
use Rattle.iv_catalogue.specs.declared.limits.TheConstants.{MOST_BODY_STATEMENTS, MOST_TRIGGERS, MOST_TRIGGERS_EVER}
use Rattle.iv_machine.specs.Machine.{State, is_open, occasion_of, transaction_cause, plan_occasion, changes_rows, outside, inside, beginning}
use Rattle.iv_resolution.specs.Bound.{bound, bound_action, bound_trigger, table_id}
use Rattle.iv_resolution.specs.Constraints.{WrittenConstraint, table_constraint}
use Rattle.iv_resolution.specs.Items.{trigger_item, in_use_fault, told_if, first_of}
use Rattle.iv_resolution.specs.NameFaults.{column_twice, transition_twice, duplicate_in_action}
use Rattle.iv_resolution.specs.Resolution.{resolution}
use Rattle.iv_resolution.proofs.Told.{none_parts, untold}
use Rattle.iv_resolution.specs.Tables.{table_names}
use Rattle.iv_resolution.specs.Triggers.{trigger_names, trigger_variables}
use Rattle.iv_laws_fitting.specs.ConstraintShapes.{SchemaSuits}
use Rattle.iv_laws_fitting.proofs.Plans.{Accepted, accepted, alteration, changes_fit}
use Rattle.iv_laws_fitting.proofs.Pointwise.{mapped_length}
use Rattle.iv_laws_fitting.proofs.Schemas.{tables_fit, additions_fit}
use Rattle.iv_laws_fitting.proofs.Staying.{schemas_stay}
use Rattle.iv_state.specs.Performing.{plan_changes_rows}
use Rattle.iv_state.specs.Fits.{AdditionFits, PlanFits, TriggerFits}

-- ---- a new trigger

three : (a b d : ℕ) (x y z : ℕ) → (nat_le x a || (nat_le y b || nat_lt z d)) ≡ false → (a < x) × (b < y) × (d ≤ z)
three a b d x y z h =
    let p : (nat_le x a ≡ false) × ((nat_le y b || nat_lt z d) ≡ false) = or_parts (nat_le x a) (nat_le y b || nat_lt z d) h in
    let q : (nat_le y b ≡ false) × (nat_lt z d ≡ false) = or_parts (nat_le y b) (nat_lt z d) p.1 in
    (grind (arith, nat_tests, p.0), grind (arith, nat_tests, q.0), grind (arith, nat_tests, q.1))

trigger_is : (c : Schema) (x : TriggerDefinition) (t : Trigger) → Accepted c (statement.CreateTrigger x) (plan.Schema (schema.CreateTrigger t)) → TriggerFits c t
trigger_is c x t a =
    let same : bound_trigger c x ≡ t = let e = a.is in cc in
    let limits : (length c.triggers < MOST_TRIGGERS) × (c.created < MOST_TRIGGERS_EVER) × (length x.body ≤ MOST_BODY_STATEMENTS) =
    three (length c.triggers) c.created (length x.body) MOST_TRIGGERS MOST_TRIGGERS_EVER MOST_BODY_STATEMENTS a.small in
    subst (TriggerFits c) same (record {
      room = limits.0;
      ever = limits.1;
      short = subst (λ n. n ≤ MOST_BODY_STATEMENTS) (sym (mapped_length (bound_action (trigger_names c x) (trigger_variables c x)) x.body)) limits.2;
      free = untold (has_trigger c x.name) (in_use_fault (trigger_item x.name)) (none_parts (told_if (has_trigger c x.name) (in_use_fault (trigger_item x.name)))
          (option_or (column_twice x.columns) (option_or (transition_twice (map (λ i. i.name) x.referencing)) (first_of duplicate_in_action x.body))) a.single).0;
    })

no_trigger : (c : Schema) (place : ℕ) (k : WrittenConstraint) (t : Trigger) (P : Type 0) (o : Option Table) → alteration c place k o ≡ plan.Schema (schema.CreateTrigger t) → P
no_trigger c place k t P None h = cc
no_trigger c place k t P (Some x) h = cc

pub trigger_fits : (c : Schema) (st : Statement) (t : Trigger) → Accepted c st (plan.Schema (schema.CreateTrigger t)) → TriggerFits c t
trigger_fits c (statement.CreateTrigger x) t a = trigger_is c x t a
trigger_fits c (statement.AlterTable table k) t a =
    no_trigger c (table_id (table_names c) table) (table_constraint k) t (TriggerFits c t) (slice_get c.tables (table_id (table_names c) table)) a.is
trigger_fits c (statement.CreateTable name elements) t a = let f = a.is in cc
trigger_fits c (statement.DropTrigger name) t a = let f = a.is in cc
trigger_fits c (statement.Insert i) t a = let f = a.is in cc
trigger_fits c (statement.Update u) t a = let f = a.is in cc
trigger_fits c (statement.Delete e) t a = let f = a.is in cc
trigger_fits c (statement.Select x) t a = let f = a.is in cc
trigger_fits c statement.StartTransaction t a = let f = a.is in cc
trigger_fits c statement.Commit t a = let f = a.is in cc
trigger_fits c statement.Rollback t a = let f = a.is in cc
trigger_fits c (statement.Savepoint name) t a = let f = a.is in cc
trigger_fits c (statement.Release name) t a = let f = a.is in cc
trigger_fits c (statement.RollbackTo name) t a = let f = a.is in cc
trigger_fits c (statement.SetConstraints l m) t a = let f = a.is in cc

-- ---- when a plan may run

altered : (b : Bool) (c : Schema) (place : ℕ) (k : WrittenConstraint) (o : Option Table) → transaction_cause b outside ≡ None → transaction_cause b (plan_occasion (alteration c place k o)) ≡ None
altered b c place k (Some t) h = h
altered true c place k None h = refl
altered false c place k None h = refl

may_run : (c : Schema) (b : Bool) (p : Plan) (st : Statement) → bound c st ≡ p → transaction_cause b (occasion_of st) ≡ None → transaction_cause b (plan_occasion p) ≡ None
may_run c b p (statement.AlterTable table k) a h =
    subst (λ q. transaction_cause b (plan_occasion q) ≡ None) a (altered b c (table_id (table_names c) table) (table_constraint k) (slice_get c.tables (table_id (table_names c) table)) h)
may_run c b p (statement.CreateTable name elements) a h = subst (λ q. transaction_cause b (plan_occasion q) ≡ None) a h
may_run c b p (statement.CreateTrigger x) a h = subst (λ q. transaction_cause b (plan_occasion q) ≡ None) a h
may_run c b p (statement.DropTrigger name) a h = subst (λ q. transaction_cause b (plan_occasion q) ≡ None) a h
may_run c b p (statement.Insert i) a h = subst (λ q. transaction_cause b (plan_occasion q) ≡ None) a h
may_run c b p (statement.Update u) a h = subst (λ q. transaction_cause b (plan_occasion q) ≡ None) a h
may_run c b p (statement.Delete e) a h = subst (λ q. transaction_cause b (plan_occasion q) ≡ None) a h
may_run c b p (statement.Select x) a h = subst (λ q. transaction_cause b (plan_occasion q) ≡ None) a h
may_run c b p statement.StartTransaction a h = subst (λ q. transaction_cause b (plan_occasion q) ≡ None) a h
may_run c b p statement.Commit a h = subst (λ q. transaction_cause b (plan_occasion q) ≡ None) a h
may_run c b p statement.Rollback a h = subst (λ q. transaction_cause b (plan_occasion q) ≡ None) a h
may_run c b p (statement.Savepoint name) a h = subst (λ q. transaction_cause b (plan_occasion q) ≡ None) a h
may_run c b p (statement.Release name) a h = subst (λ q. transaction_cause b (plan_occasion q) ≡ None) a h
may_run c b p (statement.RollbackTo name) a h = subst (λ q. transaction_cause b (plan_occasion q) ≡ None) a h
may_run c b p (statement.SetConstraints l m) a h = subst (λ q. transaction_cause b (plan_occasion q) ≡ None) a h

closed : (b : Bool) → transaction_cause b outside ≡ None → b ≡ false
closed true h = cc
closed false h = refl

pub opened : (b : Bool) → transaction_cause b inside ≡ None → b ≡ true
opened true h = refl
opened false h = cc

pub unbegun : (b : Bool) → transaction_cause b beginning ≡ None → b ≡ false
unbegun true h = cc
unbegun false h = refl

pub plan_fits : (s : State) (st : Statement) (p : Plan) → SchemaSuits s.schema → transaction_cause (is_open s) (occasion_of st) ≡ None → resolution s.schema st ≡ Ok p → PlanFits s p
plan_fits s st p suits h r = by p r (may_run s.schema (is_open s) p st (accepted s.schema st p r).is h) where
  addition : (q : SchemaPlan) → resolution s.schema st ≡ Ok (plan.Schema q) → AdditionFits s.schema q
  addition (schema.CreateTable table constraints) r = tables_fit s.schema st table constraints suits.tables suits.constraints r
  addition (schema.AddConstraint k) r = additions_fit s.schema st k suits.tables suits.constraints r
  addition (schema.CreateTrigger t) r = trigger_fits s.schema st t (accepted s.schema st (plan.Schema (schema.CreateTrigger t)) r)
  addition (schema.DropTrigger id) r = tt

  by : (p : Plan) → resolution s.schema st ≡ Ok p → transaction_cause (is_open s) (plan_occasion p) ≡ None → PlanFits s p
  by (plan.Schema q) r o = record { outside = closed (is_open s) o; addition = addition q r; suits = schemas_stay s.schema st q suits r }
  by (plan.Change d) r o = changes_fit s.schema st d suits.tables r
  by (plan.Query q) r o = tt
  by (plan.Transaction t) r o = o

-- ---- which statements change rows

altered_quiet : (s : State) (place : ℕ) (k : WrittenConstraint) (o : Option Table) → false ≡ plan_changes_rows (alteration s.schema place k o)
altered_quiet s place k None = refl
altered_quiet s place k (Some t) = refl

pub runs_as : (s : State) (p : Plan) (st : Statement) → bound s.schema st ≡ p → changes_rows st ≡ plan_changes_rows p
runs_as s p (statement.AlterTable table k) a =
    altered_quiet s (table_id (table_names s.schema) table) (table_constraint k) (slice_get s.schema.tables (table_id (table_names s.schema) table)) ∙ ap plan_changes_rows a
runs_as s p (statement.CreateTable name elements) a = ap plan_changes_rows a
runs_as s p (statement.CreateTrigger x) a = ap plan_changes_rows a
runs_as s p (statement.DropTrigger name) a = ap plan_changes_rows a
runs_as s p (statement.Insert i) a = ap plan_changes_rows a
runs_as s p (statement.Update u) a = ap plan_changes_rows a
runs_as s p (statement.Delete e) a = ap plan_changes_rows a
runs_as s p (statement.Select x) a = ap plan_changes_rows a
runs_as s p statement.StartTransaction a = ap plan_changes_rows a
runs_as s p statement.Commit a = ap plan_changes_rows a
runs_as s p statement.Rollback a = ap plan_changes_rows a
runs_as s p (statement.Savepoint name) a = ap plan_changes_rows a
runs_as s p (statement.Release name) a = ap plan_changes_rows a
runs_as s p (statement.RollbackTo name) a = ap plan_changes_rows a
runs_as s p (statement.SetConstraints l m) a = ap plan_changes_rows a
