-- The statements that suit a table of pairs.
use Rattle.std.specs.Prelude.{◌≡◌, ℕ, ℤ, pos, true, List, [], ◌∷◌, map, Option, Some, None}
use Rattle.iv_value.specs.declared.value.Value.{Value}
use Rattle.iv_value.specs.declared.value.Value.TheVariants.{Null, Int}
use Rattle.iv_expr.specs.declared.tree.Expr.{Expr}
use Rattle.iv_expr.specs.declared.tree.Expr.TheVariants.{Literal, Column}
use Rattle.iv_expr.specs.declared.tree.Cond.TheVariants.{Always}
use Rattle.iv_expr.specs.Trees.{plus}
use Rattle.iv_catalogue.specs.declared.catalogue.Table.{Table}
use Rattle.iv_catalogue.specs.declared.plan.DataStatement.{DataStatement}
use Rattle.iv_catalogue.specs.declared.plan.DataStatement.TheVariants.{Insert, Update}
use Rattle.iv_catalogue.specs.declared.plan.InsertColumns.TheVariants.{All}
use Rattle.iv_catalogue.specs.declared.plan.InsertRows.TheVariants.{Values}
use Rattle.iv_laws_fitting.specs.PlanShapes.{data_suits, plain_shape}
use Rattle.iv_tests_levels.specs.Pairs.{HasPairs}

abbrev pub value_of : Option ℤ → Value
value_of (Some a) = Int a
value_of None = Null

-- the expressions of a row
abbrev pub tuple_of : ℤ × Option ℤ → List Expr
tuple_of row = Literal (Int row.0) ∷ Literal (value_of row.1) ∷ []

-- INSERT INTO table 0 of these rows
abbrev pub insertion : List (ℤ × Option ℤ) → DataStatement
insertion rows = Insert 0 All (Values (map tuple_of rows))

-- UPDATE of table 0 that sets a column
abbrev pub set_to : ℕ → Expr → DataStatement
set_to column value = Update 0 (record { column = column; value = value } ∷ []) Always

-- the first column and 1
abbrev pub one_more : Expr
one_more = plus (Column 0 0) (Literal (Int (pos 1)))

-- The statement suits such tables.
pub record SuitsPairs (d : DataStatement) : Type 0 where
  pub suits : (tables : List Table) → HasPairs tables → data_suits tables (plain_shape tables) d ≡ true
