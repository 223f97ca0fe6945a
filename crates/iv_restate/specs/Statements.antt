-- The statements of a dump: CREATE TABLE, ALTER TABLE and INSERT ("Table definition", "Add table constraint definition", "Insert statement").
use Rattle.std.specs.Prelude.{ℕ, ◌+◌, ◌==◌, Bool, true, false, if◌then◌else◌, List, [], ◌∷◌, ◌++◌, map, filter_map, take, drop, Option, Some, None, option_map, unwrap_or}
use Rattle.iv_restate.specs.Types.{Value, ValueOrDefault, Statement, TableElement, Column, Table, Rule, Constraint}
use Rattle.iv_restate.specs.Types.rule
use Rattle.iv_restate.specs.Types.element
use Rattle.iv_restate.specs.Types.given
use Rattle.iv_restate.specs.Types.source
use Rattle.iv_restate.specs.Types.insert
use Rattle.iv_restate.specs.Types.statement
use Rattle.iv_restate.specs.Trees.{literal_of}
use Rattle.iv_restate.specs.Constraints.{table_name_at, table_constraint_of, column_constraint_of, definition_of}

-- ---- CREATE TABLE: each constraint stands at its place among the others, a NOT NULL inside its column

-- NOT NULL of the column at this place
abbrev pub is_null_rule : ℕ → Rule → Bool
is_null_rule place (rule.NotNull p) = p == place
is_null_rule place _ = false

abbrev pub is_null_of : ℕ → Constraint → Bool
is_null_of place k = is_null_rule place k.rule

-- how many constraints there are before the first NOT NULL of a column
abbrev pub null_place : ℕ → List Constraint → Option ℕ
null_place place [] = None
null_place place (k ∷ constraints) = if is_null_of place k then Some 0 else option_map (λ n. n + 1) (null_place place constraints)

-- the same; 0 if it has none
abbrev pub count_before : ℕ → List Constraint → ℕ
count_before place constraints = unwrap_or (null_place place constraints) 0

-- how many there are up to the last one; 0 if it has none
abbrev pub count_up_to : ℕ → List Constraint → ℕ
count_up_to place [] = 0
count_up_to place (k ∷ constraints) =
    if count_up_to place constraints == 0 then (if is_null_of place k then 1 else 0) else count_up_to place constraints + 1

-- constraints that are elements of their own
abbrev pub constraint_elements : List Table → List Constraint → List TableElement
constraint_elements tables constraints = map element.Constraint (filter_map (table_constraint_of tables) constraints)

-- those before the first NOT NULL of a column, and those from there on
abbrev pub before_null : ℕ → List Constraint → List Constraint
before_null place constraints = take (count_before place constraints) constraints

abbrev pub from_null : ℕ → List Constraint → List Constraint
from_null place constraints = drop (count_before place constraints) constraints

-- of these those up to its last NOT NULL, and those after it
abbrev pub up_to_null : ℕ → List Constraint → List Constraint
up_to_null place constraints = take (count_up_to place constraints) constraints

abbrev pub after_null : ℕ → List Constraint → List Constraint
after_null place constraints = drop (count_up_to place constraints) constraints

abbrev pub column_element : List Table → Column → List Constraint → TableElement
column_element tables c constraints = element.Column (definition_of c (map (column_constraint_of tables) constraints))

-- The elements for these columns, of which the first has this place, and these constraints. Before a column with a NOT NULL stand the
-- constraints that come before that, and in it those up to its last one; the others follow.
abbrev pub elements_of : List Table → ℕ → List Column → List Constraint → List TableElement
elements_of tables place [] constraints = constraint_elements tables constraints
elements_of tables place (c ∷ columns) constraints =
    constraint_elements tables (before_null place constraints)
    ++ column_element tables c (up_to_null place (from_null place constraints))
    ∷ elements_of tables (place + 1) columns (after_null place (from_null place constraints))

abbrev pub create_table : List Table → Table → List Constraint → Statement
create_table tables t constraints = statement.CreateTable t.name (elements_of tables 0 t.columns constraints)

-- ---- ALTER TABLE; none of a NOT NULL

abbrev pub add_constraint : List Table → Constraint → Option Statement
add_constraint tables k = option_map (statement.AlterTable (table_name_at tables k.table)) (table_constraint_of tables k)

-- ---- INSERT

abbrev pub tuple_of : List Value → List ValueOrDefault
tuple_of values = map (λ v. given.Value (literal_of v)) values

-- a tuple for each row, in their order
abbrev pub insert_rows : List ℕ → List (List Value) → Statement
insert_rows name rows = statement.Insert (insert.Rows name None (source.Values (map tuple_of rows)))
