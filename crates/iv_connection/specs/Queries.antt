-- The columns of a query: how many there are, and their names. Places count from 0.
use Rattle.std.specs.Prelude.{ℕ, zero, suc, List, [], codes, length, option_and_then, option_map, slice_get, Option, Some, None}
use Rattle.iv_catalogue.specs.Catalogues.{Schema, table_named}
use Rattle.iv_catalogue.specs.declared.catalogue.Column.{Column}
use Rattle.iv_syntax.specs.declared.statement.Select.{Select}
use Rattle.iv_syntax.specs.declared.statement.Select.TheVariants as select
use Rattle.iv_syntax.specs.declared.statement.SelectList.TheVariants as list
use Rattle.iv_syntax.specs.declared.statement.Statement.{Statement}
use Rattle.iv_syntax.specs.declared.statement.Statement.TheVariants as statement
use Rattle.iv_syntax.specs.declared.tree.Expression.{Expression}
use Rattle.iv_syntax.specs.declared.tree.Expression.TheVariants as expression
use Rattle.iv_shown.specs.Catalogue.{columns_at}

-- an expression that is a column has the column's name; any other has none
abbrev pub expression_name : Expression → List ℕ
expression_name (expression.Column c) = c.name
expression_name _ = []

-- the columns of the table of this name
abbrev pub columns_named : Schema → List ℕ → Option (List Column)
columns_named s name = option_and_then (λ table. columns_at s table) (table_named s name)

-- COUNT(*) is one column of this name
abbrev pub count_name : ℕ → Option (List ℕ)
count_name zero = Some (codes "COUNT")
count_name (suc n) = None

abbrev pub column_count_of : Schema → Select → Option ℕ
column_count_of s (select.Count range filter) = Some 1
column_count_of s (select.Rows list.Star range filter) = option_map length (columns_named s range.table)
column_count_of s (select.Rows (list.Values expressions) range filter) = Some (length expressions)

abbrev pub column_name_of : Schema → Select → ℕ → Option (List ℕ)
column_name_of s (select.Count range filter) place = count_name place
column_name_of s (select.Rows list.Star range filter) place =
    option_map (λ c. c.name) (option_and_then (λ columns. slice_get columns place) (columns_named s range.table))
column_name_of s (select.Rows (list.Values expressions) range filter) place = option_map expression_name (slice_get expressions place)

-- a statement that is a query
abbrev pub query_of : Statement → Option Select
query_of (statement.Select q) = Some q
query_of _ = None

-- of the statement that was executed last, where it is a query
abbrev pub query_columns : Schema → Option Statement → Option ℕ
query_columns s st = option_and_then (column_count_of s) (option_and_then query_of st)

abbrev pub query_column : Schema → Option Statement → ℕ → Option (List ℕ)
query_column s st place = option_and_then (λ q. column_name_of s q place) (option_and_then query_of st)
