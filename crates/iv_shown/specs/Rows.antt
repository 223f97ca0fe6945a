-- The rows that an outcome has, value by value.
use Rattle.std.specs.Prelude.{ℕ, List, [], slice_get, option_and_then, Option, Result, Ok, Err}
use Rattle.iv_catalogue.specs.declared.cause.Refusal.{Refusal}
use Rattle.iv_machine.specs.declared.answer.Answer.{Answer}
use Rattle.iv_machine.specs.declared.answer.Answer.TheVariants.{Done, Changed, Rows}
use Rattle.iv_value.specs.declared.value.Value.{Value}

-- the rows of a query's outcome
abbrev pub rows_of : Result Answer Refusal → List (List Value)
rows_of (Ok Done) = []
rows_of (Ok (Changed k)) = []
rows_of (Ok (Rows rows)) = rows
rows_of (Err r) = []

-- the row at this place, from 0
abbrev pub row_at : Result Answer Refusal → ℕ → Option (List Value)
row_at outcome row = slice_get (rows_of outcome) row

-- the value in this row and column, from 0
abbrev pub value_at : Result Answer Refusal → ℕ → ℕ → Option Value
value_at outcome row column = option_and_then (λ values. slice_get values column) (row_at outcome row)
