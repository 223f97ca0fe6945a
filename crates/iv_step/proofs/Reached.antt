-- Each statement leads from a state that statements reach to one of which the same holds.
use Rattle.std.proofs.Common.{◌≡◌, ℕ, ◌<◌, ◌-◌, ◌==◌, true, not, nat_lt, List, [], ◌∷◌, length, find, Option, Some, None, Result, Ok, Err, refl, sym, ap, subst, ◌∙◌, arith}
use Rattle.std.proofs.lemmas.Bool.{and_parts}
use Rattle.std.specs.List.{list_all}
use Rattle.std.proofs.lemmas.Bool.Decides.{nat_tests}
use Rattle.iv_value.specs.declared.value.Kind.{Kind}
use Rattle.iv_expr.specs.Scopes.{no_frame}
use Rattle.iv_expr.specs.Suiting.{Shape, suits, shape_within}
use Rattle.iv_syntax.specs.declared.statement.ConstraintMode.{ConstraintMode}
use Rattle.iv_syntax.specs.declared.statement.Statement.{Statement}
use Rattle.iv_catalogue.specs.Catalogues.{Schema, after, with_constraint}
use Rattle.iv_catalogue.specs.declared.catalogue.Table.{Table}
use Rattle.iv_catalogue.specs.declared.cause.Cause.{Cause}
use Rattle.iv_catalogue.specs.declared.cause.Cause.TheVariants.{AddRefused, NotDeferrable, Violation}
use Rattle.iv_catalogue.specs.declared.cause.Fault.{Fault}
use Rattle.iv_catalogue.specs.declared.cause.Refusal.{Refusal}
use Rattle.iv_catalogue.specs.declared.constraint.Constraint.{Constraint}
use Rattle.iv_catalogue.specs.declared.plan.BodyStatement.{BodyStatement}
use Rattle.iv_catalogue.specs.declared.plan.BodyStatement.TheVariants as body
use Rattle.iv_catalogue.specs.declared.plan.DataStatement.{DataStatement}
use Rattle.iv_catalogue.specs.declared.plan.DataStatement.TheVariants.{Insert, Update, Delete}
use Rattle.iv_catalogue.specs.declared.plan.Plan.{Plan}
use Rattle.iv_catalogue.specs.declared.plan.Plan.TheVariants as plan
use Rattle.iv_catalogue.specs.declared.plan.QueryPlan.{QueryPlan}
use Rattle.iv_catalogue.specs.declared.plan.QueryPlan.TheVariants as query
use Rattle.iv_catalogue.specs.declared.plan.SchemaPlan.{SchemaPlan}
use Rattle.iv_catalogue.specs.declared.plan.SchemaPlan.TheVariants as schema
use Rattle.iv_catalogue.specs.declared.plan.TransactionPlan.{TransactionPlan}
use Rattle.iv_catalogue.specs.declared.plan.TransactionPlan.TheVariants as transaction
use Rattle.iv_catalogue.specs.declared.plan.Trigger.{Trigger}
use Rattle.iv_machine.specs.declared.answer.Answer.{Answer}
use Rattle.iv_machine.specs.declared.answer.Answer.TheVariants.{Done}
use Rattle.iv_machine.specs.declared.database.Database.{Database}
use Rattle.iv_machine.specs.Bounds.{Bounds}
use Rattle.iv_machine.specs.Context.{Failure}
use Rattle.iv_machine.specs.Databases.{first, scan}
use Rattle.iv_machine.specs.Levels.{Finished, level}
use Rattle.iv_machine.specs.Machine.{State, Outcome, NamedSavepoint, empty_state, accept, refuse, refuse_first, is_open, context_of, level_outcome, answer_outcome, rows_answer, count_answer, commit_by, first_violation, rollback_by, savepoint_named, release_outcome, rollback_to_outcome, is_deferrable, constraints_meant, with_modes, first_made_immediate, modes_outcome, set_constraints_outcome, with_schema, schema_outcome, query_outcome, transaction_outcome, plan_outcome, resolution_outcome, occasion_of, plan_occasion, transaction_cause, outcome_unless}
use Rattle.iv_machine.specs.Proposals.{table_of}
use Rattle.iv_resolution.specs.Resolution.{resolution}
use Rattle.iv_laws_fitting.specs.ConstraintShapes.{SchemaSuits}
use Rattle.iv_laws_fitting.specs.PlanShapes.{action_suits, data_suits, is_there, plain_shape, rows_suit, setting_suits, table_kinds, target_kinds, trigger_shape, trigger_suits}
use Rattle.iv_laws_fitting.proofs.Plans.{changes_fit}
use Rattle.iv_laws_fitting.proofs.Schemas.{tables_fit}
use Rattle.iv_laws_fitting.proofs.Staying.{empty_suits, schemas_stay}
use Rattle.iv_laws_fitting.proofs.Triggers.{triggers_fit}
use Rattle.iv_laws_levels.specs.Reached.{BodyFits, FitsSchema, IsThere, SchemaPlanFits, planned}
use Rattle.iv_laws_levels.proofs.Planned.{planned_reachable}
use Rattle.iv_laws_levels.proofs.ReachedStates.{Reachable, empty_reachable, reachable_is_sound}
use Rattle.iv_step.specs.Laws.{ReachedStatesAreSound}
use Rattle.iv_step.specs.Step.{run, step}
use Rattle.iv_step.proofs.Occasions.{plans_keep}

-- ---- plans of what deserves no cause change tables that are there

there : (tables : List Table) (place : ℕ) → is_there tables place ≡ true → place < length tables
there tables place h = grind (arith, nat_tests)

table_there : (c : Schema) (shape : Shape) (d : DataStatement) → data_suits c.tables shape d ≡ true → IsThere c (table_of d)
table_there c shape (Insert t listed given) h =
    there c.tables t (and_parts (is_there c.tables t) (rows_suit c.tables shape (target_kinds (table_kinds c.tables t) listed) given) h).0
table_there c shape (Update t settings filter) h =
    there c.tables t (and_parts (is_there c.tables t) _ h).0
table_there c shape (Delete t filter) h =
    there c.tables t (and_parts (is_there c.tables t) (suits (shape_within shape (table_kinds c.tables t)) filter) h).0

body_fits : (c : Schema) (shape : Shape) (kinds : List Kind) (actions : List BodyStatement) → list_all (action_suits c.tables shape kinds) actions ≡ true → BodyFits c actions
body_fits c shape kinds [] h = tt
body_fits c shape kinds (body.Data d ∷ rest) h =
    let p = and_parts (data_suits c.tables shape d) (list_all (action_suits c.tables shape kinds) rest) h in
    (table_there c shape d p.0, body_fits c shape kinds rest p.1)
body_fits c shape kinds (body.Signal text ∷ rest) h = body_fits c shape kinds rest h
body_fits c shape kinds (body.Set setting ∷ rest) h =
    body_fits c shape kinds rest (and_parts (setting_suits shape kinds setting) (list_all (action_suits c.tables shape kinds) rest) h).1

trigger_fits : (c : Schema) (t : Trigger) → trigger_suits c.tables t ≡ true → BodyFits c t.body
trigger_fits c t h =
    let kinds = table_kinds c.tables t.table in
    let shape = trigger_shape c.tables t.granularity t.event kinds in
    let acts = list_all (action_suits c.tables shape kinds) t.body in
    body_fits c shape kinds t.body (and_parts (suits shape t.when) acts (and_parts (is_there c.tables t.table) _ h).1).1

plan_fits : (c : Schema) (st : Statement) (p : Plan) → SchemaSuits c → resolution c st ≡ Ok p → FitsSchema c p
plan_fits c st (plan.Schema q) suited h = by q h where
  by : (q : SchemaPlan) → resolution c st ≡ Ok (plan.Schema q) → SchemaPlanFits c q
  by (schema.CreateTable table constraints) h = (tables_fit c st table constraints suited.tables suited.constraints h).own
  by (schema.AddConstraint k) h = tt
  by (schema.CreateTrigger t) h = trigger_fits c t (triggers_fit c st t suited.tables h)
  by (schema.DropTrigger id) h = tt
plan_fits c st (plan.Change d) suited h = table_there c (plain_shape c.tables) d (changes_fit c st d suited.tables h)
plan_fits c st (plan.Query q) suited h = tt
plan_fits c st (plan.Transaction t) suited h = tt

-- ---- the schema after a plan

added_suits : (s : State) (k : Constraint) (o : Option Fault) → SchemaSuits s.schema → SchemaSuits (with_constraint s.schema k)
    → SchemaSuits (refuse_first s (λ f. AddRefused f.row) o (accept (with_schema s (with_constraint s.schema k)) Done)).state.schema
added_suits s k (Some f) old new = old
added_suits s k None old new = new

defined_suits : (s : State) (q : SchemaPlan) → SchemaSuits s.schema → SchemaSuits (after s.schema q) → SchemaSuits (schema_outcome s q).state.schema
defined_suits s (schema.CreateTable table constraints) old new = new
defined_suits s (schema.AddConstraint k) old new =
    added_suits s k (first (scan s.database.rows (with_constraint s.schema k).constraints (λ id. id == length s.schema.constraints))) old new
defined_suits s (schema.CreateTrigger t) old new = new
defined_suits s (schema.DropTrigger id) old new = new

level_schema : (s : State) (r : Result Finished Failure) → (level_outcome s r).state.schema ≡ s.schema
level_schema s (Ok l) = refl
level_schema s (Err f) = refl

answer_schema : (s : State) (r : Result Answer Cause) → (answer_outcome s r).state.schema ≡ s.schema
answer_schema s (Ok a) = refl
answer_schema s (Err c) = refl

commit_schema : (s : State) (start : Option Database) (f : Option Fault) → (commit_by s start f).state.schema ≡ s.schema
commit_schema s None f = refl
commit_schema s (Some d) None = refl
commit_schema s (Some d) (Some f) = refl

rollback_schema : (s : State) (start : Option Database) → (rollback_by s start).state.schema ≡ s.schema
rollback_schema s None = refl
rollback_schema s (Some d) = refl

release_schema : (s : State) (o : Option NamedSavepoint) → (release_outcome s o).state.schema ≡ s.schema
release_schema s None = refl
release_schema s (Some x) = refl

rollback_to_schema : (s : State) (o : Option NamedSavepoint) → (rollback_to_outcome s o).state.schema ≡ s.schema
rollback_to_schema s None = refl
rollback_to_schema s (Some x) = refl

modes_schema : (s : State) (modes : List ConstraintMode) (o : Option Fault) → (refuse_first s Violation o (accept (record s { modes = modes }) Done)).state.schema ≡ s.schema
modes_schema s modes (Some f) = refl
modes_schema s modes None = refl

set_schema : (s : State) (ids : List ℕ) (m : ConstraintMode) → (set_constraints_outcome s ids m).state.schema ≡ s.schema
set_schema s ids m =
    elim (find (λ id. not (is_deferrable s.schema id)) ids)
    as (λ o. (elim o as (λ _. Outcome) [ Some id ↦ refuse s (NotDeferrable id) | None ↦ modes_outcome s (with_modes s.modes ids m) ]).state.schema ≡ s.schema) [
      | Some id ↦ refl
      | None ↦ modes_schema s (with_modes s.modes ids m) (first_made_immediate s (with_modes s.modes ids m))
    ]

transaction_schema : (s : State) (t : TransactionPlan) → (transaction_outcome s t).state.schema ≡ s.schema
transaction_schema s transaction.Start = refl
transaction_schema s transaction.Commit = commit_schema s s.start (first_violation s)
transaction_schema s transaction.Rollback = rollback_schema s s.start
transaction_schema s (transaction.Savepoint name) = refl
transaction_schema s (transaction.Release name) = release_schema s (savepoint_named name s.savepoints)
transaction_schema s (transaction.RollbackTo name) = rollback_to_schema s (savepoint_named name s.savepoints)
transaction_schema s (transaction.SetConstraints ids m) = set_schema s (constraints_meant s.schema ids) m

suits_after : (s : State) (st : Statement) (p : Plan) → SchemaSuits s.schema → resolution s.schema st ≡ Ok p → SchemaSuits (plan_outcome s p).state.schema
suits_after s st (plan.Schema q) suited h = defined_suits s q suited (schemas_stay s.schema st q suited h)
suits_after s st (plan.Change d) suited h =
    subst SchemaSuits (sym (level_schema s (level (s.limits.depth - 1) (context_of s) d no_frame s.database s.limits.changes))) suited
suits_after s st (plan.Query (query.Rows table outputs filter)) suited h = subst SchemaSuits (sym (answer_schema s (rows_answer s table outputs filter))) suited
suits_after s st (plan.Query (query.Count table filter)) suited h = subst SchemaSuits (sym (answer_schema s (count_answer s table filter))) suited
suits_after s st (plan.Transaction t) suited h = subst SchemaSuits (sym (transaction_schema s t)) suited

-- ---- statements

-- what holds of a state that statements reach
pub record IsReached (s : State) : Type 0 where
  pub reachable : Reachable s
  pub suits : SchemaSuits s.schema

pub step_reached : (s : State) (st : Statement) → IsReached s → IsReached (step s st).state
step_reached s st h = unless (transaction_cause (is_open s) (occasion_of st)) refl where
  by_plan : (r : Result Plan Refusal) → resolution s.schema st ≡ r → transaction_cause (is_open s) (occasion_of st) ≡ None → IsReached (resolution_outcome s r).state
  by_plan (Err e) is may = h
  by_plan (Ok p) is may = record {
    reachable = subst (λ o. Reachable (outcome_unless s o (plan_outcome s p)).state)
        (ap (transaction_cause (is_open s)) (plans_keep s.schema st p is) ∙ may)
        (planned_reachable s p (plan_fits s.schema st p h.suits is) h.reachable);
    suits = suits_after s st p h.suits is;
  }

  unless : (o : Option Cause) → transaction_cause (is_open s) (occasion_of st) ≡ o → IsReached (outcome_unless s o (resolution_outcome s (resolution s.schema st))).state
  unless (Some cause) is = h
  unless None is = by_plan (resolution s.schema st) refl is

-- the same after a statement of transaction management, whatever names are in it
pub control_reached : (s : State) (t : TransactionPlan) → IsReached s → IsReached (planned s (plan.Transaction t)).state
control_reached s t h = record {
  reachable = planned_reachable s (plan.Transaction t) tt h.reachable;
  suits = unless (transaction_cause (is_open s) (plan_occasion (plan.Transaction t)));
} where
  unless : (o : Option Cause) → SchemaSuits (outcome_unless s o (transaction_outcome s t)).state.schema
  unless (Some cause) = h.suits
  unless None = subst SchemaSuits (sym (transaction_schema s t)) h.suits

-- at the start
pub empty_reached : (limits : Bounds) → IsReached (empty_state limits)
empty_reached limits = record { reachable = empty_reachable limits; suits = empty_suits }

run_reached : (s : State) (sts : List Statement) → IsReached s → IsReached (run s sts).1
run_reached s [] h = h
run_reached s (st ∷ sts) h = run_reached (step s st).state sts (step_reached s st h)

pub reached : ReachedStatesAreSound
reached limits sts =
    reachable_is_sound (run (empty_state limits) sts).1
    (run_reached (empty_state limits) sts (empty_reached limits)).reachable
