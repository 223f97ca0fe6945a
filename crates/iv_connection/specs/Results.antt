-- The rows of a query apart from the session.
use Rattle.std.specs.Prelude.{ℕ, zero, suc, List, [], ◌∷◌, length, map, slice_get, Option, Some, None, option_map, unwrap_or, Result, Ok, Err}
use Rattle.iv_catalogue.specs.Catalogues.{Schema}
use Rattle.iv_catalogue.specs.declared.cause.Refusal.{Refusal}
use Rattle.iv_machine.specs.declared.answer.Answer.{Answer}
use Rattle.iv_machine.specs.declared.answer.Answer.TheVariants.{Done, Changed, Rows}
use Rattle.iv_syntax.specs.declared.statement.Statement.{Statement}
use Rattle.iv_value.specs.declared.value.Value.{Value}
use Rattle.iv_connection.specs.OutcomeLines.{executed}
use Rattle.iv_connection.specs.Queries.{query_column, query_columns}
use Rattle.iv_shown.specs.declared.connection.Connection.{Connection}
use Rattle.iv_connection.specs.declared.results.QueryResult.{QueryResult}
use Rattle.iv_connection.specs.declared.results.ShownResult.{ShownResult}
use Rattle.iv_shown.specs.declared.status.TheConstants.{OK, NOTHING}

-- the rows of an outcome, if it is one of a query
abbrev pub rows_given : Result Answer Refusal → Option (List (List Value))
rows_given (Ok Done) = None
rows_given (Ok (Changed k)) = None
rows_given (Ok (Rows rows)) = Some rows
rows_given (Err r) = None

-- the names of so many columns of a query from this place on; one without a name has an empty one
abbrev pub names_from : Schema → Option Statement → ℕ → ℕ → List (List ℕ)
names_from s st place zero = []
names_from s st place (suc n) = unwrap_or (query_column s st place) [] ∷ names_from s st (suc place) n

-- the names of the columns of the query that was executed last, none where its text is gone
abbrev pub last_names : Connection → List (List ℕ)
last_names c =
    names_from c.session.state.schema (executed c.statements c.executed) 0 (unwrap_or (query_columns c.session.state.schema (executed c.statements c.executed)) 0)

-- the names of a result's columns
abbrev pub names_of : QueryResult → List (List ℕ)
names_of r = map (λ name. name.items) r.names.items

-- how many rows and columns there are
abbrev pub result_shown : QueryResult → ShownResult
result_shown r = record { rows = length r.rows; columns = length (names_of r) }
