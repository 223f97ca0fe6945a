-- The kind of a statement.
use Rattle.std.specs.Prelude.{ℕ}
use Rattle.iv_syntax.specs.declared.statement.Statement.{Statement}
use Rattle.iv_syntax.specs.declared.statement.Statement.TheVariants as statement

-- 0 is a statement about the schema, 1 one that changes rows, 2 a query, 3 one about transactions
abbrev pub kind_of : Statement → ℕ
kind_of (statement.CreateTable name elements) = 0
kind_of (statement.AlterTable table constraint) = 0
kind_of (statement.CreateTrigger definition) = 0
kind_of (statement.DropTrigger name) = 0
kind_of (statement.Insert insert) = 1
kind_of (statement.Update update) = 1
kind_of (statement.Delete delete) = 1
kind_of (statement.Select select) = 2
kind_of statement.StartTransaction = 3
kind_of statement.Commit = 3
kind_of statement.Rollback = 3
kind_of (statement.Savepoint name) = 3
kind_of (statement.Release name) = 3
kind_of (statement.RollbackTo name) = 3
kind_of (statement.SetConstraints list mode) = 3
