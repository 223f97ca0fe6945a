-- What holds of a store before a data statement, and what a call that changes a store answers and leaves as it was.
use Rattle.std.specs.Prelude.{◌≡◌, ℕ, true, Result, Ok, Err, MatchBool}
use Rattle.iv_expr.specs.Evaluation.{and_then}
use Rattle.iv_laws_rows.specs.Types.{Database, Refusal}
use Rattle.iv_catalogue.specs.Catalogues.{Schema}
use Rattle.iv_catalogue.specs.Refusals.{Answers, is_memory_cause}
use Rattle.iv_machine.specs.Context.{Failure}
use Rattle.iv_machine.specs.Levels.{Finished}
use Rattle.iv_store.specs.Stores.{StoreState}
use Rattle.iv_laws_fitting.specs.ConstraintShapes.{SchemaSuits}
use Rattle.iv_laws_rows.specs.RowFits.{rows_fit}

-- A store is one of a schema whose definitions suit its tables: its tables and constraints are the schema's, and its rows fit.
pub record StoreFits (schema : Schema) (s : StoreState) : Type 0 where
  pub tables : s.tables ≡ schema.tables
  pub constraints : s.constraints ≡ schema.constraints
  pub suits : SchemaSuits schema
  pub rows : rows_fit schema.tables s.base.rows ≡ true

-- ---- what is answered

-- What is seen of the answer is the definition's; so is a refusal, with the count of row changes in the store when it comes. If an
-- allocation failed nothing is said.
abbrev pub AnswersAt : {A B : Type 0} → (A → B) → ℕ → Result A Refusal → Result B Failure → Type 0
AnswersAt view count r said =
    Answers (λ x. is_memory_cause x.cause) (λ x. record { cause = x.cause; trigger = x.trigger; count = count }) view r said

-- this holds, unless an allocation failed
abbrev pub UnlessMemory : {A : Type 0} → Result A Refusal → Type 0 → Type 0
UnlessMemory (Ok a) P = P
UnlessMemory (Err r) P = MatchBool (is_memory_cause r.cause) (Unit {0}) P

-- What a data statement of a script comes to: the database, and how many rows it changed itself.
abbrev pub database_and_size : Result Finished Failure → Result (Database × ℕ) Failure
database_and_size result = and_then result (λ done. Ok (done.database, done.size))

-- ---- what is left

-- the store with this database; its tables, constraints and marks stay
abbrev pub with_database : StoreState → Database → StoreState
with_database s db = record s { base = db }
