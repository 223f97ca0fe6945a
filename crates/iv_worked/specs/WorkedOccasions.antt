-- Worked lists of statements on what is refused before all else: schema statements inside a
-- transaction, savepoints and modes outside, and START TRANSACTION inside.
use Rattle.std.specs.Prelude.{◌≡◌, ◌++◌, List, [], ◌∷◌, map, Option, Some, None, codes}
use Rattle.iv_worked.specs.Types.{Statement, Cause}
use Rattle.iv_worked.specs.Types.constraints.{All}
use Rattle.iv_worked.specs.Types.mode.{Deferred}
use Rattle.iv_worked.specs.Types.insert.{DefaultValues}
use Rattle.iv_worked.specs.Types.select.{Count}
use Rattle.iv_worked.specs.Types.statement
use Rattle.iv_worked.specs.Types.nulls.{Distinct}
use Rattle.iv_worked.specs.Types.table_rule.{Unique}
use Rattle.iv_worked.specs.Types.time.{After}
use Rattle.iv_worked.specs.Types.event
use Rattle.iv_worked.specs.Types.granularity
use Rattle.iv_worked.specs.Types.action.{Signal}
use Rattle.iv_worked.specs.Types.cause.{InTransaction, NoTransaction, ActiveTransaction}
use Rattle.iv_worked.specs.WorkedAnswers.{cause_inside, cause_outside}

-- ALTER TABLE T ADD UNIQUE (A)
abbrev pub alter_table : Statement
alter_table =
    statement.AlterTable (codes "T") (record {
      name = None;
      rule = Unique Distinct (codes "A" ∷ []);
      time = record { deferrable = None; initially = None };
    })

-- CREATE TRIGGER R AFTER INSERT ON T SIGNAL 'stop'
abbrev pub trigger_created : Statement
trigger_created =
    statement.CreateTrigger (record {
      name = codes "R";
      time = After;
      event = event.Insert;
      columns = [];
      table = codes "T";
      referencing = [];
      granularity = granularity.Statement;
      when = None;
      body = Signal (codes "stop") ∷ [];
    })

-- CREATE TABLE, ALTER TABLE, CREATE TRIGGER and DROP TRIGGER
abbrev pub schema_statements : List Statement
schema_statements = statement.CreateTable (codes "T") [] ∷ alter_table ∷ trigger_created
    ∷ statement.DropTrigger (codes "R") ∷ []

-- SAVEPOINT, RELEASE SAVEPOINT, ROLLBACK TO SAVEPOINT and SET CONSTRAINTS
abbrev pub savepoints_and_modes : List Statement
savepoints_and_modes =
    statement.Savepoint (codes "S") ∷ statement.Release (codes "S")
    ∷ statement.RollbackTo (codes "S")
    ∷ statement.SetConstraints All Deferred ∷ []

-- INSERT, UPDATE, DELETE, SELECT, COMMIT and ROLLBACK
abbrev pub other_statements : List Statement
other_statements =
    statement.Insert (DefaultValues (codes "T"))
    ∷ statement.Update (record { table = codes "T"; assignments = []; filter = None })
    ∷ statement.Delete (record { table = codes "T"; filter = None })
    ∷ statement.Select (Count (record { table = codes "T"; alias = None }) None)
    ∷ statement.Commit ∷ statement.Rollback ∷ []

abbrev pub four_times : Option Cause → List (Option Cause)
four_times c = c ∷ c ∷ c ∷ c ∷ []

pub record WorkedOccasions : Type 0 where
  pub schema_inside : map cause_inside schema_statements ≡ four_times (Some InTransaction)
  pub schema_outside : map cause_outside schema_statements ≡ four_times None
  pub savepoints_inside : map cause_inside savepoints_and_modes ≡ four_times None
  pub savepoints_outside : map cause_outside savepoints_and_modes ≡ four_times (Some NoTransaction)
  pub start_inside : cause_inside statement.StartTransaction ≡ Some ActiveTransaction
  pub start_outside : cause_outside statement.StartTransaction ≡ None
  pub others_inside : map cause_inside other_statements ≡ four_times None ++ None ∷ None ∷ []
  pub others_outside : map cause_outside other_statements ≡ four_times None ++ None ∷ None ∷ []
