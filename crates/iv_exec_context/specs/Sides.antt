-- What comes of what may be there, and what fails of copies of values.
use Rattle.std.specs.Prelude.{ℕ, List, zip, Option, Some, None}
use Rattle.std.specs.List.{enumerate_from}
use Rattle.iv_value.specs.declared.value.Value.{Value}
use Rattle.iv_expr.specs.declared.tree.Expr.{Expr}
use Rattle.iv_expr.specs.Scopes.{Scope}
use Rattle.iv_catalogue.specs.Catalogues.{Schema}
use Rattle.iv_catalogue.specs.declared.plan.InsertColumns.{InsertColumns}
use Rattle.iv_catalogue.specs.declared.plan.InsertColumns.TheVariants as columns
use Rattle.iv_machine.specs.Proposals.{column_at}
use Rattle.iv_account.specs.declared.failure.EvaluatedFor.{EvaluatedFor}
use Rattle.iv_account.specs.declared.failure.EvaluatedFor.TheVariants as part
use Rattle.iv_account.specs.declared.failure.ValueFailure.{ValueFailure}
use Rattle.iv_account.specs.Disagreements.{first_of}
use Rattle.iv_account.specs.Failures.{column_failure, expression_failure, of_part}

-- what a function gives, where there is something
abbrev pub of_some : {A B : Type 0} → (A → Option B) → Option A → Option B
of_some f (Some a) = f a
of_some f None = None

-- the first failure of items of a SELECT, each with its place
abbrev pub placed_failure : Scope → List (ℕ × Expr) → Option (EvaluatedFor × ValueFailure)
placed_failure s items = first_of (λ p. of_part (part.Item p.0) (expression_failure s p.1)) items

-- a copy of a value for a column of a table
abbrev pub copy_failure : Schema → ℕ → ℕ × Value → Option (EvaluatedFor × ValueFailure)
copy_failure schema table p = of_part (part.Column table p.0) (column_failure (column_at schema table p.0) p.1)

-- the columns of an INSERT, each with the value that is copied to it
abbrev pub copied_by_column : InsertColumns → List Value → List (ℕ × Value)
copied_by_column columns.All values = enumerate_from 0 values
copied_by_column (columns.Listed places) values = zip places values

-- the first failure of copies for the columns of an INSERT
abbrev pub copies_failure : Schema → ℕ → InsertColumns → List Value → Option (EvaluatedFor × ValueFailure)
copies_failure schema table listed values = first_of (copy_failure schema table) (copied_by_column listed values)
