-- What a violation of a deferred constraint is about.
use Rattle.std.specs.Prelude.{ℕ, Bool, false, not, ◌&&◌, ◌==◌, List, [], ◌∷◌, find, length, slice_get, Option, Some, None, option_and_then}
use Rattle.iv_catalogue.specs.Catalogues.{Schema}
use Rattle.iv_catalogue.specs.declared.cause.Fault.{Fault}
use Rattle.iv_catalogue.specs.declared.constraint.Constraint.{Constraint}
use Rattle.iv_expr.specs.declared.row.StoredRow.{StoredRow}
use Rattle.iv_machine.specs.Databases.{row_at, satisfies}
use Rattle.iv_value.specs.declared.value.Value.{Value}
use Rattle.iv_shown.specs.Catalogue.{columns_of, constraint_column}
use Rattle.iv_shown.specs.StoredRows.{stored_value}
use Rattle.iv_shown.specs.declared.violations.ShownViolation.{ShownViolation}

-- A row satisfies a constraint by itself, and doesn't beside another one: both have one key.
abbrev pub meets : Constraint → StoredRow → StoredRow → Bool
meets constraint row other = satisfies [] constraint row && not (satisfies (other ∷ []) constraint row)

-- so of the row of another violation, if it is there
abbrev pub meets_row : Constraint → StoredRow → Option StoredRow → Bool
meets_row constraint row None = false
meets_row constraint row (Some other) = meets constraint row other

-- a violation of the same constraint, whose row has the key of this row
abbrev pub is_met : List StoredRow → Constraint → ℕ → StoredRow → Fault → Bool
is_met rows constraint id row fault = (fault.constraint == id) && meets_row constraint row (row_at rows fault.row)

abbrev pub row_of_fault : Option Fault → ℕ
row_of_fault None = 0
row_of_fault (Some fault) = fault.row

-- the row of the first such violation; 0 where there is none
abbrev pub first_met : List StoredRow → List Fault → Fault → Constraint → StoredRow → ℕ
first_met rows pending fault constraint row = row_of_fault (find (is_met rows constraint fault.constraint row) pending)

abbrev pub met_by : List StoredRow → List Fault → Fault → Constraint → Option StoredRow → ℕ
met_by rows pending fault constraint None = 0
met_by rows pending fault constraint (Some row) = first_met rows pending fault constraint row

-- the constraint, its table and columns, the row, and the other one with the same key
abbrev pub violation_by : List StoredRow → List Fault → Fault → Option Constraint → ShownViolation
violation_by rows pending fault None = record { constraint = fault.constraint; table = 0; columns = 0; row = fault.row; other = 0 }
violation_by rows pending fault (Some k) = record {
  constraint = fault.constraint;
  table = k.table;
  columns = length (columns_of k.rule);
  row = fault.row;
  other = met_by rows pending fault k (row_at rows fault.row);
}

abbrev pub violation_shown : Schema → List StoredRow → List Fault → Fault → ShownViolation
violation_shown s rows pending fault = violation_by rows pending fault (slice_get s.constraints fault.constraint)

-- the value that the row of a violation has in a column of its constraint
abbrev pub violation_value : Schema → List StoredRow → List Fault → ℕ → ℕ → Option Value
violation_value s rows pending at place =
    option_and_then (λ fault. option_and_then (λ column. stored_value rows fault.row column) (constraint_column s fault.constraint place)) (slice_get pending at)
