-- No value of the wrong kind is met when a CHECK or a SELECT is evaluated: resolution refuses for a wrong shape, and nothing after it does.
use Rattle.std.specs.Prelude.{◌≡◌, ℕ, true, List, slice_get, Some, Ok, Err}
use Rattle.iv_laws_answers.specs.Types.{StoredRow, Cond, ExprFault, Statement, Refusal, Constraint, DataStatement, QueryPlan, Database}
use Rattle.iv_laws_answers.specs.Types.expr_fault.{OutOfRange}
use Rattle.iv_laws_answers.specs.Types.cause.{WrongShape, NumberOutOfRange}
use Rattle.iv_laws_answers.specs.Types.rule.{Check}
use Rattle.iv_laws_answers.specs.Types.plan
use Rattle.iv_laws_answers.specs.Types.schema.{AddConstraint}
use Rattle.iv_expr.specs.Changes.{Wave}
use Rattle.iv_expr.specs.Scopes.{Frame, alone}
use Rattle.iv_expr.specs.Evaluation.{truth}
use Rattle.iv_catalogue.specs.Catalogues.{Schema}
use Rattle.iv_catalogue.specs.Refusals.{refusal_of, refusal_answer}
use Rattle.iv_machine.specs.Bounds.{Bounds}
use Rattle.iv_machine.specs.Context.{Context}
use Rattle.iv_machine.specs.Machine.{State, empty_state, query_outcome}
use Rattle.iv_machine.specs.Proposals.{proposed_wave}
use Rattle.iv_machine.specs.Waves.{SettledWaves, settled_waves}
use Rattle.iv_resolution.specs.Resolution.{resolution}
use Rattle.iv_laws_fitting.specs.ConstraintShapes.{constraint_suits, SchemaSuits}
use Rattle.iv_laws_fitting.specs.PlanShapes.{query_suits}
use Rattle.iv_laws_levels.specs.FittingWaves.{Numbered}
use Rattle.iv_laws_rows.specs.RowFits.{rows_fit, StatementFits}
use Rattle.iv_step.specs.Step.{step, run}

-- ---- CHECK

-- At each of these rows that is of the constraint's table the condition of a CHECK has a truth, or a number in it is out of range.
abbrev pub ChecksAt : List StoredRow → Constraint → Type 0
ChecksAt rows k =
    (condition : Cond) (place : ℕ) (row : StoredRow) (fault : ExprFault)
    → k.rule ≡ Check condition → slice_get rows place ≡ Some row → row.table ≡ k.table
    → truth (alone row.values) condition ≡ Err fault → fault ≡ OutOfRange

-- The condition of a CHECK that suits has a truth at rows that fit, or a number in it is out of range.
abbrev pub ChecksAreWellTyped : Type 0
ChecksAreWellTyped =
    (c : Schema) (k : Constraint) (rows : List StoredRow)
    → constraint_suits c.tables k ≡ true → rows_fit c.tables rows ≡ true → ChecksAt rows k

-- The same holds when a data statement that fits checks its constraints: at the rows after its waves.
abbrev pub SettledChecksAreWellTyped : Type 0
SettledChecksAreWellTyped =
    (context : Context) (d : DataStatement) (frame : Frame) (db : Database) (budget : ℕ) (wave : Wave) (settled : SettledWaves) (id : ℕ) (k : Constraint)
    → SchemaSuits context.schema
    → Numbered db → rows_fit context.schema.tables db.rows ≡ true
    → StatementFits context.schema.tables frame d
    → proposed_wave context db frame d ≡ Ok wave → settled_waves context db budget wave ≡ Ok settled
    → slice_get context.schema.constraints id ≡ Some k
    → ChecksAt settled.last.rows k

-- The same holds of each constraint of a state that a run reaches, at the rows of its database.
abbrev pub ReachedChecksAreWellTyped : Type 0
ReachedChecksAreWellTyped =
    (limits : Bounds) (statements : List Statement) (id : ℕ) (k : Constraint)
    → slice_get (run (empty_state limits) statements).1.schema.constraints id ≡ Some k
    → ChecksAt (run (empty_state limits) statements).1.database.rows k

-- The same holds of a constraint that an ALTER TABLE would add.
abbrev pub AddedChecksAreWellTyped : Type 0
AddedChecksAreWellTyped =
    (limits : Bounds) (statements : List Statement) (st : Statement) (k : Constraint)
    → resolution (run (empty_state limits) statements).1.schema st ≡ Ok (plan.Schema (AddConstraint k))
    → ChecksAt (run (empty_state limits) statements).1.database.rows k

-- ---- SELECT

-- A query that suits, over rows that fit, is refused only for a number out of range.
abbrev pub QueriesAreWellTyped : Type 0
QueriesAreWellTyped =
    (s : State) (q : QueryPlan) (refusal : Refusal)
    → query_suits s.schema.tables q ≡ true → rows_fit s.schema.tables s.database.rows ≡ true
    → (query_outcome s q).answer ≡ Err refusal → refusal ≡ refusal_of NumberOutOfRange

-- A query that resolution gives for a SELECT in a state that a run reaches is refused only for a number out of range.
abbrev pub ReachedQueriesAreWellTyped : Type 0
ReachedQueriesAreWellTyped =
    (limits : Bounds) (statements : List Statement) (st : Statement) (q : QueryPlan) (refusal : Refusal)
    → resolution (run (empty_state limits) statements).1.schema st ≡ Ok (plan.Query q)
    → (query_outcome (run (empty_state limits) statements).1 q).answer ≡ Err refusal
    → refusal ≡ refusal_of NumberOutOfRange

-- ---- all statements

-- A statement that is refused for a wrong shape, in a state that a run reaches, is one that resolution refuses for it.
abbrev pub WrongShapesAreOfResolution : Type 0
WrongShapesAreOfResolution =
    (limits : Bounds) (statements : List Statement) (st : Statement) (refusal : Refusal)
    → (step (run (empty_state limits) statements).1 st).answer ≡ Err refusal → refusal.cause ≡ WrongShape
    → resolution (run (empty_state limits) statements).1.schema st ≡ refusal_answer WrongShape
