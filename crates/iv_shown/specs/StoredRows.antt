-- What C reads of a row of the database by its number. Columns count from 0.
use Rattle.std.specs.Prelude.{ℕ, List, length, slice_get, Option, option_and_then}
use Rattle.iv_value.specs.declared.value.Value.{Value}
use Rattle.iv_expr.specs.declared.row.StoredRow.{StoredRow}
use Rattle.iv_machine.specs.Databases.{row_at}
use Rattle.iv_shown.specs.declared.stored_rows.ShownStoredRow.{ShownStoredRow}

-- the place of its table, and how many values it has
abbrev pub stored_row_shown : StoredRow → ShownStoredRow
stored_row_shown r = record { table = r.table; columns = length r.values }

-- the value in this column of the row of this number
abbrev pub stored_value : List StoredRow → ℕ → ℕ → Option Value
stored_value rows number column = option_and_then (λ r. slice_get r.values column) (row_at rows number)
