-- The columns that a query gives, as a line in words and as a member in JSON.
use Rattle.std.specs.Prelude.{ℕ, List, [], ◌∷◌, ◌++◌, codes, map, option_and_then, slice_get, Option, Some, None, unwrap_or}
use Rattle.std.specs.List.{flat_map}
use Rattle.iv_syntax.specs.declared.statement.Select.{Select}
use Rattle.iv_syntax.specs.declared.statement.Select.TheVariants as select
use Rattle.iv_syntax.specs.declared.statement.SelectList.TheVariants as list
use Rattle.iv_syntax.specs.declared.statement.Statement.{Statement}
use Rattle.iv_syntax.specs.declared.statement.Statement.TheVariants as statement
use Rattle.iv_syntax.specs.declared.tree.Expression.{Expression}
use Rattle.iv_syntax.specs.declared.tree.Expression.TheVariants as expression
use Rattle.iv_catalogue.specs.Catalogues.{Schema, table_named}
use Rattle.iv_catalogue.specs.declared.catalogue.Column.{Column}
use Rattle.iv_catalogue.specs.declared.catalogue.Table.{Table}
use Rattle.iv_text.specs.Json.{json_text, member}
use Rattle.iv_text.specs.declared.format.Format.{Format}
use Rattle.iv_text.specs.declared.format.Format.TheVariants.{Words, Json}
use Rattle.iv_explain.specs.Expressions.{expression_text}

-- ---- the columns of a query

-- an expression that is a column has the column's name; any other has none
abbrev pub own_name : Expression → Option (List ℕ)
own_name (expression.Column c) = Some c.name
own_name _ = None

-- the name of an expression; one without a name as it is written
abbrev pub output_text : Expression → List ℕ
output_text e = unwrap_or (own_name e) (expression_text e)

abbrev pub columns_of : Option Table → List Column
columns_of (Some t) = t.columns
columns_of None = []

-- the columns of the table of this name
abbrev pub columns_named : Schema → List ℕ → List Column
columns_named s name = columns_of (option_and_then (λ place. slice_get s.tables place) (table_named s name))

-- The columns of a query, in order: * is all columns of its table.
abbrev pub column_texts : Schema → Select → List (List ℕ)
column_texts s (select.Count range filter) = codes "COUNT(*)" ∷ []
column_texts s (select.Rows list.Star range filter) = map (λ c. c.name) (columns_named s range.table)
column_texts s (select.Rows (list.Values expressions) range filter) = map output_text expressions

-- ---- how they are written

-- as it is, or between the quotes of JSON
abbrev pub column_in : Format → List ℕ → List ℕ
column_in Words text = text
column_in Json text = json_text text

abbrev pub separator : Format → List ℕ
separator Words = codes ", "
separator Json = codes ","

abbrev pub further_in : Format → List ℕ → List ℕ
further_in format text = separator format ++ column_in format text

abbrev pub listed_in : Format → List (List ℕ) → List ℕ
listed_in format [] = []
listed_in format (text ∷ texts) = column_in format text ++ flat_map (further_in format) texts

-- The line of the columns of an accepted statement, if it is a query.
abbrev pub columns_line : Schema → Statement → List ℕ
columns_line s (statement.Select q) = codes "  columns " ++ (listed_in Words (column_texts s q) ++ codes "\n")
columns_line s _ = []

-- The member of the columns of an accepted statement, if it is a query.
abbrev pub columns_member : Schema → Statement → List ℕ
columns_member s (statement.Select q) = member (codes "columns") ++ (codes "[" ++ (listed_in Json (column_texts s q) ++ codes "]"))
columns_member s _ = []
