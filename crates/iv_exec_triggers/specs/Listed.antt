-- The columns of a SET list.
use Rattle.std.specs.Prelude.{ℕ, List, map}
use Rattle.iv_expr.specs.declared.wave.TableColumn.{TableColumn}
use Rattle.iv_catalogue.specs.declared.plan.Setting.{Setting}

-- the column of a table that is set
abbrev pub column_of : ℕ → Setting → TableColumn
column_of table s = record { table = table; column = s.column }

-- the columns of these settings, in their order
abbrev pub columns_of : ℕ → List Setting → List TableColumn
columns_of table settings = map (column_of table) settings
