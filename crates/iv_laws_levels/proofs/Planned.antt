-- Each resolved statement leads from a state that resolved statements reach to one of which the same holds.
use Rattle.std.proofs.Common.{true, false, if◌then◌else◌, filter, ◌+◌, Bool, ◌≡◌, refl, ℕ, ◌-◌, ◌≤◌, true, not, ◌==◌, List, [], ◌∷◌, ◌++◌, length, length-append, find, Option, Some, None, is_some, unwrap_or, Result, Ok, Err, sym, ap, subst, ◌∙◌, arith}
use Rattle.iv_expr.specs.Scopes.{no_frame}
use Rattle.iv_syntax.specs.declared.statement.ConstraintMode.{ConstraintMode}
use Rattle.iv_catalogue.specs.Catalogues.{AllOn, NumbersRise, TriggersNumbered, Schema, with_table, with_constraint, with_trigger, without_trigger}
use Rattle.iv_catalogue.specs.declared.catalogue.Table.{Table}
use Rattle.iv_laws_levels.specs.Types.{Constraint, Fault, DataStatement, Plan, SchemaPlan, Database}
use Rattle.iv_laws_levels.specs.Types.cause.{NotDeferrable, Violation, AddRefused}
use Rattle.iv_laws_levels.specs.Types.plan
use Rattle.iv_laws_levels.specs.Types.schema
use Rattle.iv_catalogue.specs.declared.cause.Cause.{Cause}
use Rattle.iv_catalogue.specs.declared.plan.Trigger.{Trigger}
use Rattle.iv_catalogue.specs.declared.plan.QueryPlan.{QueryPlan}
use Rattle.iv_catalogue.specs.declared.plan.QueryPlan.TheVariants as query
use Rattle.iv_catalogue.specs.declared.plan.TransactionPlan.{TransactionPlan}
use Rattle.iv_catalogue.specs.declared.plan.TransactionPlan.TheVariants as transaction
use Rattle.iv_machine.specs.declared.answer.Answer.{Answer}
use Rattle.iv_machine.specs.declared.answer.Answer.TheVariants.{Done}
use Rattle.iv_machine.specs.Context.{Failure}
use Rattle.iv_machine.specs.Databases.{scan, is_deferred, first}
use Rattle.iv_machine.specs.Levels.{Finished, level}
use Rattle.iv_machine.specs.Machine.{State, Outcome, NamedSavepoint, empty_state, accept, refuse, refuse_first, context_of, level_outcome, answer_outcome, rows_answer, count_answer, rollback_by, commit_by, first_violation, savepoint_named, without_name, release_outcome, rollback_to_outcome, is_deferrable, constraints_meant, with_modes, first_made_immediate, modes_outcome, set_constraints_outcome, with_schema, schema_outcome, query_outcome, transaction_outcome, plan_outcome, transaction_cause, plan_occasion, outcome_unless}
use Rattle.iv_machine.specs.Proposals.{table_of}
use Rattle.iv_machine.proofs.Scans.{more_constraints}
use Rattle.iv_laws_levels.specs.Reached.{IsThere, BodyFits, SchemaPlanFits, FitsSchema, planned, reached, AllFit, PlannedStatesAreSound}
use Rattle.iv_laws_levels.proofs.Checking.{level_checks}
use Rattle.iv_laws_levels.proofs.FittingWaves.{level_numbers}
use Rattle.iv_laws_levels.proofs.PlacedRows.{Placed, placed_below, placed_more, level_places}
use Rattle.iv_laws_levels.proofs.FittingBodies.{TriggersFit, triggers_fit_more, triggers_filter}
use Rattle.iv_laws_levels.proofs.Scanning.{no_first, none_immediate, one_more}
use Rattle.iv_laws_levels.proofs.ReachedStates.{Faultless, without_firm, named_firm, Reachable, empty_reachable, outside_faultless, reachable_is_sound, schema_reachable, begun_reachable, ended_reachable, inside_reachable}

-- ---- the schema

one_longer : {A : Type 0} (xs : List A) (x : A) → length xs ≤ length (xs ++ x ∷ [])
one_longer xs x = omega (arith, length-append xs (x ∷ []))

table_reachable : (s : State) (t : Table) (ks : List Constraint) → s.start ≡ None → AllOn (length s.schema.tables) ks → Reachable s
    → Reachable (with_schema s (with_table s.schema t ks))
table_reachable s t ks e on h =
    let free = outside_faultless s e h in
    let longer = one_longer s.schema.tables t in
    schema_reachable s (with_table s.schema t ks) e (record {
      unviolated = more_constraints s.database.rows (λ _. true) (length s.schema.tables) s.schema.constraints ks
          (placed_below (length s.schema.tables) s.database.rows free.placed) on ∙ free.unviolated;
      numbered = free.numbered;
      placed = placed_more (length s.schema.tables) (length (s.schema.tables ++ t ∷ [])) s.database.rows longer free.placed;
    }) (triggers_fit_more s.schema (with_table s.schema t ks) s.schema.triggers longer h.bodies) h.triggers h

added_reachable : (s : State) (k : Constraint) (fault : Option Fault) → s.start ≡ None
    → first (scan s.database.rows (with_constraint s.schema k).constraints (λ id. id == length s.schema.constraints)) ≡ fault → Reachable s
    → Reachable (refuse_first s (λ f. AddRefused f.row) fault (accept (with_schema s (with_constraint s.schema k)) Done)).state
added_reachable s k (Some f) e is h = h
added_reachable s k None e is h =
    let free = outside_faultless s e h in
    schema_reachable s (with_constraint s.schema k) e (record {
      unviolated = one_more s.database.rows s.schema.constraints k free.unviolated (no_first _ is);
      numbered = free.numbered;
      placed = free.placed;
    }) (triggers_fit_more s.schema (with_constraint s.schema k) s.schema.triggers (omega arith) h.bodies) h.triggers h

triggers_both : (c : Schema) (ts : List Trigger) (t : Trigger) → TriggersFit c ts → BodyFits c t.body → TriggersFit c (ts ++ t ∷ [])
triggers_both c [] t h k = (k, tt)
triggers_both c (x ∷ ts) t h k = (h.0, triggers_both c ts t h.1 k)

-- ---- the numbers of triggers

rise_from_lower : (low other : ℕ) (ts : List Trigger) (created : ℕ) → low ≤ other → NumbersRise other ts created → NumbersRise low ts created
rise_from_lower low other [] created le h = omega (arith, le, h)
rise_from_lower low other (t ∷ ts) created le h = (omega (arith, le, h.0), h.1)

-- one more, of which the number is how many were created
rise_more : (low : ℕ) (ts : List Trigger) (created : ℕ) (t : Trigger) → t.id ≡ created → NumbersRise low ts created → NumbersRise low (ts ++ t ∷ []) (created + 1)
rise_more low [] created t e h = (omega (arith, e, h), omega (arith, e))
rise_more low (x ∷ ts) created t e h = (h.0, rise_more (x.id + 1) ts created t e h.1)

rise_filter : (keeps : Trigger → Bool) (low : ℕ) (ts : List Trigger) (created : ℕ) → NumbersRise low ts created → NumbersRise low (filter keeps ts) created
rise_filter keeps low [] created h = h
rise_filter keeps low (t ∷ ts) created h =
    let rest = rise_filter keeps (t.id + 1) ts created h.1 in
    elim (keeps t) as (λ b. NumbersRise low (if b then t ∷ filter keeps ts else filter keeps ts) created) [
      | true ↦ (h.0, rest)
      | false ↦ rise_from_lower low (t.id + 1) (filter keeps ts) created (omega (arith, h.0)) rest
    ]

-- other triggers
triggers_reachable : (s : State) (c : Schema) → s.start ≡ None → c.tables ≡ s.schema.tables → c.constraints ≡ s.schema.constraints → TriggersFit s.schema c.triggers
    → TriggersNumbered c → Reachable s
    → Reachable (with_schema s c)
triggers_reachable s c e tables constraints fit numbers h =
    let free = outside_faultless s e h in
    schema_reachable s c e (record {
      unviolated = ap (λ cs. scan s.database.rows cs (λ _. true)) constraints ∙ free.unviolated;
      numbered = free.numbered;
      placed = subst (λ ts. Placed (length ts) s.database.rows) (sym tables) free.placed;
    }) (triggers_fit_more s.schema c c.triggers (omega (arith, ap length tables)) fit) numbers h

defined_reachable : (s : State) (p : SchemaPlan) → s.start ≡ None → SchemaPlanFits s.schema p → Reachable s → Reachable (schema_outcome s p).state
defined_reachable s (schema.CreateTable t ks) e u h = table_reachable s t ks e u h
defined_reachable s (schema.AddConstraint k) e u h =
    added_reachable s k (first (scan s.database.rows (with_constraint s.schema k).constraints (λ id. id == length s.schema.constraints))) e refl h
defined_reachable s (schema.CreateTrigger t) e u h =
    triggers_reachable s (with_trigger s.schema t) e refl refl (triggers_both s.schema s.schema.triggers (record t { id = s.schema.created }) h.bodies u)
    (rise_more 0 s.schema.triggers s.schema.created (record t { id = s.schema.created }) refl h.triggers) h
defined_reachable s (schema.DropTrigger id) e u h =
    triggers_reachable s (without_trigger s.schema id) e refl refl (triggers_filter s.schema (λ t. not (t.id == id)) s.schema.triggers h.bodies)
    (rise_filter (λ t. not (t.id == id)) 0 s.schema.triggers s.schema.created h.triggers) h

-- ---- INSERT, UPDATE, DELETE and SELECT

changed_reachable : (s : State) (d : DataStatement) (r : Result Finished Failure)
    → level (s.limits.depth - 1) (context_of s) d no_frame s.database s.limits.changes ≡ r → IsThere s.schema (table_of d) → Reachable s → Reachable (level_outcome s r).state
changed_reachable s d (Err f) e u h = h
changed_reachable s d (Ok l) e u h =
    begun_reachable s l.database (record {
      immediate = level_checks (s.limits.depth - 1) (context_of s) d no_frame s.database s.limits.changes l e;
      numbered = level_numbers (s.limits.depth - 1) (context_of s) d no_frame s.database s.limits.changes l h.now.numbered e;
      placed = level_places (s.limits.depth - 1) (context_of s) d no_frame s.database s.limits.changes l h.bodies u e h.now.placed;
    }) h

answered_reachable : (s : State) (r : Result Answer Cause) → Reachable s → Reachable (answer_outcome s r).state
answered_reachable s (Ok a) h = h
answered_reachable s (Err c) h = h

queried_reachable : (s : State) (p : QueryPlan) → Reachable s → Reachable (query_outcome s p).state
queried_reachable s (query.Rows t outputs filter) h = answered_reachable s (rows_answer s t outputs filter) h
queried_reachable s (query.Count t filter) h = answered_reachable s (count_answer s t filter) h

-- ---- COMMIT and ROLLBACK

rollback_reachable : (s : State) (start : Option Database) → Faultless s.schema (unwrap_or start s.database) → Reachable s → Reachable (rollback_by s start).state
rollback_reachable s None free h = h
rollback_reachable s (Some d) free h = ended_reachable s d free h

commit_reachable : (s : State) (start : Option Database) (f : Option Fault) → first_violation s ≡ f → Faultless s.schema (unwrap_or start s.database) → Reachable s
    → Reachable (commit_by s start f).state
commit_reachable s None f e free h = h
commit_reachable s (Some d) None e free h = ended_reachable s s.database (record { unviolated = no_first _ e; numbered = h.now.numbered; placed = h.now.placed }) h
commit_reachable s (Some d) (Some f) e free h = ended_reachable s d free h

-- ---- savepoints

released_reachable : (s : State) (start : Database) (name : List ℕ) (found : Option NamedSavepoint) → s.start ≡ Some start
    → savepoint_named name s.savepoints ≡ found → Reachable s → Reachable (release_outcome s found).state
released_reachable s start name None e is h = h
released_reachable s start name (Some x) e is h = inside_reachable s start s.database s.modes x.older e h.now (named_firm s.schema name s.savepoints x is h.saves).1 h

returned_reachable : (s : State) (start : Database) (name : List ℕ) (found : Option NamedSavepoint) → s.start ≡ Some start
    → savepoint_named name s.savepoints ≡ found → Reachable s → Reachable (rollback_to_outcome s found).state
returned_reachable s start name None e is h = h
returned_reachable s start name (Some x) e is h =
    let firm = named_firm s.schema name s.savepoints x is h.saves in
    inside_reachable s start x.savepoint.database x.savepoint.modes (x.savepoint ∷ x.older) e firm.0 firm h

-- ---- SET CONSTRAINTS

modes_reachable : (s : State) (start : Database) (modes : List ConstraintMode) (fault : Option Fault) → s.start ≡ Some start
    → first_made_immediate s modes ≡ fault → Reachable s → Reachable (refuse_first s Violation fault (accept (record s { modes = modes }) Done)).state
modes_reachable s start modes (Some f) e is h = h
modes_reachable s start modes None e is h =
    inside_reachable s start s.database modes s.savepoints e (record {
      immediate = none_immediate s.database.rows (is_deferred s.modes) (is_deferred modes) s.schema.constraints h.now.immediate (no_first _ is);
      numbered = h.now.numbered;
      placed = h.now.placed;
    }) h.saves h

set_reachable : (s : State) (start : Database) (ids : List ℕ) (m : ConstraintMode) → s.start ≡ Some start → Reachable s → Reachable (set_constraints_outcome s ids m).state
set_reachable s start ids m e h =
    elim (find (λ id. not (is_deferrable s.schema id)) ids) as (λ o. Reachable (elim o as (λ _. Outcome) [ Some id ↦ refuse s (NotDeferrable id) | None ↦ modes_outcome s (with_modes s.modes ids m) ]).state) [
      | Some id ↦ h
      | None ↦ modes_reachable s start (with_modes s.modes ids m) (first_made_immediate s (with_modes s.modes ids m)) e refl h
    ]

-- ---- plans

transaction_keeps : (s : State) (p : TransactionPlan) (start : Option Database) → s.start ≡ start → Reachable s
    → Reachable (outcome_unless s (transaction_cause (is_some start) (plan_occasion (plan.Transaction p))) (transaction_outcome s p)).state
transaction_keeps s transaction.Start None e h = begun_reachable s s.database h.now h
transaction_keeps s transaction.Start (Some d) e h = h
transaction_keeps s transaction.Commit None e h = commit_reachable s s.start (first_violation s) refl h.first h
transaction_keeps s transaction.Commit (Some d) e h = commit_reachable s s.start (first_violation s) refl h.first h
transaction_keeps s transaction.Rollback None e h = rollback_reachable s s.start h.first h
transaction_keeps s transaction.Rollback (Some d) e h = rollback_reachable s s.start h.first h
transaction_keeps s (transaction.Savepoint name) None e h = h
transaction_keeps s (transaction.Savepoint name) (Some d) e h =
    inside_reachable s d s.database s.modes (record { name = name; database = s.database; modes = s.modes } ∷ without_name name s.savepoints) e h.now
    (h.now, without_firm s.schema name s.savepoints h.saves) h
transaction_keeps s (transaction.Release name) None e h = h
transaction_keeps s (transaction.Release name) (Some d) e h = released_reachable s d name (savepoint_named name s.savepoints) e refl h
transaction_keeps s (transaction.RollbackTo name) None e h = h
transaction_keeps s (transaction.RollbackTo name) (Some d) e h = returned_reachable s d name (savepoint_named name s.savepoints) e refl h
transaction_keeps s (transaction.SetConstraints ids m) None e h = h
transaction_keeps s (transaction.SetConstraints ids m) (Some d) e h = set_reachable s d (constraints_meant s.schema ids) m e h

plan_keeps : (s : State) (p : Plan) (start : Option Database) → s.start ≡ start → FitsSchema s.schema p → Reachable s
    → Reachable (outcome_unless s (transaction_cause (is_some start) (plan_occasion p)) (plan_outcome s p)).state
plan_keeps s (plan.Schema p) None e u h = defined_reachable s p e u h
plan_keeps s (plan.Schema p) (Some d) e u h = h
plan_keeps s (plan.Change d) None e u h = changed_reachable s d (level (s.limits.depth - 1) (context_of s) d no_frame s.database s.limits.changes) refl u h
plan_keeps s (plan.Change d) (Some x) e u h = changed_reachable s d (level (s.limits.depth - 1) (context_of s) d no_frame s.database s.limits.changes) refl u h
plan_keeps s (plan.Query p) None e u h = queried_reachable s p h
plan_keeps s (plan.Query p) (Some d) e u h = queried_reachable s p h
plan_keeps s (plan.Transaction p) start e u h = transaction_keeps s p start e h

pub planned_reachable : (s : State) (p : Plan) → FitsSchema s.schema p → Reachable s → Reachable (planned s p).state
planned_reachable s p u h = plan_keeps s p s.start refl u h

reached_reachable : (s : State) (plans : List Plan) → AllFit s plans → Reachable s → Reachable (reached s plans)
reached_reachable s [] u h = h
reached_reachable s (p ∷ plans) u h = reached_reachable (planned s p).state plans u.1 (planned_reachable s p u.0 h)

pub planned_states_are_sound : PlannedStatesAreSound
planned_states_are_sound limits plans u = reachable_is_sound (reached (empty_state limits) plans) (reached_reachable (empty_state limits) plans u (empty_reachable limits))
