-- The values of a row, put in place one after another.
use Rattle.std.specs.Prelude.{ℕ, List, [], ◌∷◌, ◌++◌, slice_get, slice_set, Option, Some, None, Result, Ok}
use Rattle.std.specs.List.{enumerate_from}
use Rattle.iv_value.specs.declared.value.Value.{Value}
use Rattle.iv_expr.specs.declared.tree.ExprFault.{ExprFault}
use Rattle.iv_expr.specs.Scopes.{Scope}
use Rattle.iv_expr.specs.Evaluation.{value, and_then}
use Rattle.iv_catalogue.specs.Catalogues.{Schema}
use Rattle.iv_catalogue.specs.declared.cause.Cause.{Cause}
use Rattle.iv_catalogue.specs.declared.plan.InsertColumns.{InsertColumns}
use Rattle.iv_catalogue.specs.declared.plan.InsertColumns.TheVariants as columns
use Rattle.iv_catalogue.specs.declared.plan.Setting.{Setting}
use Rattle.iv_machine.specs.Context.{Context, in_turn}
use Rattle.iv_machine.specs.Proposals.{stored_value, defaults_of}

-- the column that the value at a place is for
abbrev pub target : InsertColumns → ℕ → Option ℕ
target columns.All place = Some place
target (columns.Listed places) place = slice_get places place

-- the row with a value more: at its end if there are values for all columns
abbrev pub placed : InsertColumns → List Value → ℕ → Value → List Value
placed columns.All row column v = row ++ v ∷ []
placed (columns.Listed places) row column v = slice_set row column v

-- the row with the value that is for a column, if it is for one
abbrev pub placed_at : Context → ℕ → InsertColumns → Option ℕ → Result Value ExprFault → List Value → Result (List Value) Cause
placed_at context table listed None evaluated row = Ok row
placed_at context table listed (Some column) evaluated row =
    and_then (stored_value context table column evaluated) (λ v. Ok (placed listed row column v))

-- The row with these values, one after another.
abbrev pub all_placed : Context → ℕ → InsertColumns → List (Result Value ExprFault) → List Value → Result (List Value) Cause
all_placed context table listed values row =
    in_turn (λ s. placed_at context table listed (target listed s.0) s.1) (enumerate_from 0 values) row

-- the row before any value: empty, or of the defaults if the columns are listed
abbrev pub row_begun : Schema → ℕ → InsertColumns → List Value
row_begun schema table columns.All = []
row_begun schema table (columns.Listed places) = defaults_of schema table

-- The row of these values.
abbrev pub row_made : Context → ℕ → InsertColumns → List (Result Value ExprFault) → Result (List Value) Cause
row_made context table listed values = all_placed context table listed values (row_begun context.schema table listed)

-- ---- UPDATE

-- the row with one column set
abbrev pub setting_placed : Context → ℕ → Scope → Setting → List Value → Result (List Value) Cause
setting_placed context table scope setting row =
    and_then (stored_value context table setting.column (value scope setting.value)) (λ v. Ok (slice_set row setting.column v))
