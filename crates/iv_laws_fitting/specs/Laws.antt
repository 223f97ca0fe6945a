-- The plans of statements that deserve no cause fit the tables of the schema.
use Rattle.std.specs.Prelude.{◌≡◌, List, true, Ok}
use Rattle.std.specs.List.{list_all}
use Rattle.iv_laws_fitting.specs.Types.{Statement, Table, Constraint, DataStatement, QueryPlan, SchemaPlan, Trigger}
use Rattle.iv_laws_fitting.specs.Types.plan
use Rattle.iv_laws_fitting.specs.Types.schema.{CreateTable, AddConstraint, CreateTrigger}
use Rattle.iv_catalogue.specs.Catalogues.{Schema, after, empty_schema}
use Rattle.iv_resolution.specs.Resolution.{resolution}
use Rattle.iv_laws_fitting.specs.ConstraintShapes.{constraint_suits, TableFits, ConstraintFits, SchemaSuits}
use Rattle.iv_laws_fitting.specs.PlanShapes.{plain_shape, table_suits, data_suits, query_suits, trigger_suits}

-- The plan of an INSERT, UPDATE or DELETE fits.
abbrev pub ChangesFit : Type 0
ChangesFit =
    (schema : Schema) (s : Statement) (d : DataStatement)
    → list_all table_suits schema.tables ≡ true → resolution schema s ≡ Ok (plan.Change d) → data_suits schema.tables (plain_shape schema.tables) d ≡ true

-- The plan of a SELECT fits.
abbrev pub QueriesFit : Type 0
QueriesFit =
    (schema : Schema) (s : Statement) (q : QueryPlan)
    → list_all table_suits schema.tables ≡ true → resolution schema s ≡ Ok (plan.Query q) → query_suits schema.tables q ≡ true

-- WHEN and the body of a new trigger fit.
abbrev pub TriggersFit : Type 0
TriggersFit =
    (schema : Schema) (s : Statement) (t : Trigger)
    → list_all table_suits schema.tables ≡ true → resolution schema s ≡ Ok (plan.Schema (CreateTrigger t)) → trigger_suits schema.tables t ≡ true

-- A new table and its constraints fit.
abbrev pub TablesFit : Type 0
TablesFit =
    (schema : Schema) (s : Statement) (table : Table) (constraints : List Constraint)
    → list_all table_suits schema.tables ≡ true → list_all (constraint_suits schema.tables) schema.constraints ≡ true
    → resolution schema s ≡ Ok (plan.Schema (CreateTable table constraints)) → TableFits schema table constraints

-- A constraint that is added to a table fits.
abbrev pub AdditionsFit : Type 0
AdditionsFit =
    (schema : Schema) (s : Statement) (k : Constraint)
    → list_all table_suits schema.tables ≡ true → list_all (constraint_suits schema.tables) schema.constraints ≡ true
    → resolution schema s ≡ Ok (plan.Schema (AddConstraint k)) → ConstraintFits schema k

-- All that a schema has suits its tables. This stays after each schema statement that deserves no cause, and holds in every schema that
-- statements lead to from the empty one.
abbrev pub SchemasStaySuited : Type 0
SchemasStaySuited =
    (schema : Schema) (s : Statement) (p : SchemaPlan)
    → SchemaSuits schema → resolution schema s ≡ Ok (plan.Schema p) → SchemaSuits (after schema p)

abbrev pub EmptySchemaSuits : Type 0
EmptySchemaSuits = SchemaSuits empty_schema
