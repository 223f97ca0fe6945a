-- The rows where a condition is true, found one after another.
use Rattle.std.specs.Prelude.{ℕ, ◌+◌, if◌then◌else◌, List, [], ◌∷◌, ◌++◌, Option, Some, None, Result, Ok}
use Rattle.iv_value.specs.declared.value.Value.{Value}
use Rattle.iv_expr.specs.declared.row.StoredRow.{StoredRow}
use Rattle.iv_expr.specs.declared.row.Change.{Change}
use Rattle.iv_expr.specs.declared.tree.Cond.{Cond}
use Rattle.iv_expr.specs.declared.tree.Side.{Side}
use Rattle.iv_expr.specs.Scopes.{Scope, within, side_of}
use Rattle.iv_expr.specs.Evaluation.{and_then}
use Rattle.iv_catalogue.specs.declared.cause.Cause.{Cause}
use Rattle.iv_machine.specs.Context.{in_turn}
use Rattle.iv_machine.specs.Databases.{row_at}
use Rattle.iv_machine.specs.Proposals.{holds}

-- What was found is changed so where the condition is true at a row.
abbrev pub where_holds : {B : Type 0} → Scope → Cond → List Value → (B → B) → B → Result B Cause
where_holds scope filter row add found = and_then (holds (within scope row) filter) (λ b. Ok (if b then add found else found))

-- one number more, where the condition is true at its row
abbrev pub number_taken : Scope → Cond → ℕ → List Value → List ℕ → Result (List ℕ) Cause
number_taken scope filter number row found = where_holds scope filter row (λ f. f ++ number ∷ []) found

-- The numbers of the rows where the condition is true.
abbrev pub numbers_taken : Scope → Cond → List StoredRow → Result (List ℕ) Cause
numbers_taken scope filter rows = in_turn (λ r. number_taken scope filter r.number r.values) rows []

-- one row more is counted, where the condition is true at it
abbrev pub row_counted : Scope → Cond → List Value → ℕ → Result ℕ Cause
row_counted scope filter row found = where_holds scope filter row (λ f. f + 1) found

-- How many of the rows there are where the condition is true.
abbrev pub rows_counted : Scope → Cond → List StoredRow → Result ℕ Cause
rows_counted scope filter rows = in_turn (λ r. row_counted scope filter r.values) rows 0

-- one row more, where the condition is true at it
abbrev pub row_taken : Scope → Cond → List Value → List (List Value) → Result (List (List Value)) Cause
row_taken scope filter row found = where_holds scope filter row (λ f. f ++ row ∷ []) found

-- the same of the row on one side of a change, if there is one
abbrev pub side_taken : Scope → Cond → Option (List Value) → List (List Value) → Result (List (List Value)) Cause
side_taken scope filter None found = Ok found
side_taken scope filter (Some row) found = row_taken scope filter row found

-- The rows on one side of changes where the condition is true.
abbrev pub sides_taken : Scope → Cond → Side → List Change → Result (List (List Value)) Cause
sides_taken scope filter side changes = in_turn (λ c. side_taken scope filter (side_of side c)) changes []

-- ---- what is made of each

-- what is made of one more is added, or its refusal is the answer
abbrev pub added : {A B : Type 0} → (A → Result B Cause) → A → List B → Result (List B) Cause
added f x made = and_then (f x) (λ y. Ok (made ++ y ∷ []))

-- What is made of each, one after another.
abbrev pub all_added : {A B : Type 0} → (A → Result B Cause) → List A → Result (List B) Cause
all_added f xs = in_turn (added f) xs []

-- what is made of a row is added, if the row is there
abbrev pub added_of_row : {B : Type 0} → (StoredRow → Result B Cause) → Option StoredRow → List B → Result (List B) Cause
added_of_row f None made = Ok made
added_of_row f (Some row) made = added f row made

-- What is made of the rows of these numbers.
abbrev pub added_of_numbers : {B : Type 0} → (StoredRow → Result B Cause) → List StoredRow → List ℕ → Result (List B) Cause
added_of_numbers f rows numbers = in_turn (λ n. added_of_row f (row_at rows n)) numbers []
