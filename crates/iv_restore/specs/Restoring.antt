-- When scripts make a database again: each is read as whole statements, run one after another in an empty database each statement is
-- accepted, and what they leave is the same database.
use Rattle.std.specs.Prelude.{◌≡◌, ◌<◌, ℕ, List, [], ◌∷◌, None, Ok, length, map}
use Rattle.iv_expr.specs.Scopes.{contents, table_rows}
use Rattle.iv_syntax.specs.declared.statement.Statement.{Statement}
use Rattle.iv_parse.specs.Script.{IsScript}
use Rattle.iv_catalogue.specs.declared.plan.Trigger.{Trigger}
use Rattle.iv_machine.specs.declared.answer.Answer.{Answer}
use Rattle.iv_machine.specs.Bounds.{Bounds, least_depth, most_changes_in_a_statement}
use Rattle.iv_machine.specs.Machine.{State, empty_state}
use Rattle.iv_step.specs.Step.{step}
use Rattle.iv_dump.specs.Dumps.{AreMade}

-- ---- running

-- The statement is accepted, and this is the state after it.
pub record IsAccepted (old : State) (st : Statement) (new : State) : Type 0 where
  pub answer : Answer
  pub accepted : (step old st).answer ≡ Ok answer
  pub state : new ≡ (step old st).state

-- Each of the statements is accepted, one after another.
abbrev pub AllAccepted : State → List Statement → State → Type 0
AllAccepted old [] new = new ≡ old
AllAccepted old (st ∷ sts) new = (between : State) × IsAccepted old st between × AllAccepted between sts new

-- The script is whole statements, and each is accepted.
abbrev pub RunsScript : State → List ℕ → State → Type 0
RunsScript old script new = (statements : List Statement) × IsScript script statements None × AllAccepted old statements new

-- So is each of the scripts, one after another.
abbrev pub RunScripts : State → List (List ℕ) → State → Type 0
RunScripts old [] new = new ≡ old
RunScripts old (script ∷ scripts) new = (between : State) × RunsScript old script between × RunScripts between scripts new

-- ---- the same database

-- a trigger without its number
abbrev pub unnumbered : Trigger → Trigger
unnumbered t = record t { id = 0 }

-- this table has the same rows in both, in the order of their numbers
abbrev pub HaveSameRows : State → State → ℕ → Type 0
HaveSameRows one other table = contents (table_rows one.database.rows table) ≡ contents (table_rows other.database.rows table)

-- Two databases have the same tables with their columns, constraints with their modes, triggers, and rows in their order. Rows and triggers
-- may have other numbers; for the order of constraints see `AreMade`.
pub record IsSame (one other : State) : Type 0 where
  pub tables : one.schema.tables ≡ other.schema.tables
  pub constraints : AreMade one.schema.constraints other.schema.constraints
  pub triggers : map unnumbered one.schema.triggers ≡ map unnumbered other.schema.triggers
  pub rows : (table : ℕ) → table < length one.schema.tables → HaveSameRows one other table

-- ---- restoring

-- Triggers come last, so none fires; an INSERT may have as many rows as a statement of any session.
abbrev pub restoring_limits : Bounds
restoring_limits = record { depth = least_depth; changes = most_changes_in_a_statement }

-- The scripts make this database again.
pub record Restores (s : State) (scripts : List (List ℕ)) : Type 0 where
  pub restored : State
  pub runs : RunScripts (empty_state restoring_limits) scripts restored
  pub same : IsSame s restored
