-- Worked columns of queries, written by hand. The catalogue is that of CREATE TABLE t (a INT, b VARCHAR(2)); CREATE TABLE p (k INT PRIMARY KEY);
use Rattle.std.specs.Prelude.{◌≡◌, [], ◌∷◌, codes, Some, None}
use Rattle.iv_syntax.specs.declared.statement.Select.TheVariants as select
use Rattle.iv_syntax.specs.declared.statement.SelectList.TheVariants as list
use Rattle.iv_syntax.specs.declared.statement.Statement.TheVariants as statement
use Rattle.iv_syntax.specs.declared.tree.Expression.TheVariants as expression
use Rattle.iv_syntax.specs.declared.tree.Sign.TheVariants.{Plus}
use Rattle.iv_syntax.specs.Trees.{group, sum}
use Rattle.iv_resolution.specs.Worked.{a, b, p, t, z, called, column, from, of_range, one, tables}
use Rattle.iv_explain.specs.Columns.{columns_line, columns_member}

pub record WorkedColumns : Type 0 where
  -- SELECT b, a FROM t;
  pub in_the_order_of_the_list :
      columns_line tables (statement.Select (select.Rows (list.Values (column b ∷ column a ∷ [])) (from t) None)) ≡ codes "  columns B, A\n"
  -- SELECT z.a, z.a FROM t AS z;
  pub without_the_range :
      columns_line tables (statement.Select (select.Rows (list.Values (of_range z a ∷ of_range z a ∷ [])) (called t z) None)) ≡ codes "  columns A, A\n"
  -- SELECT (z.a), a + 1, 'x"' FROM t AS z;
  pub as_written :
      columns_line tables (statement.Select (select.Rows (list.Values (group (of_range z a) ∷ sum Plus (column a) one ∷ expression.Text (codes "x\"") ∷ [])) (called t z) None))
      ≡ codes "  columns (Z.A), A + 1, 'x\"'\n"
  -- SELECT * FROM t AS z;
  pub all : columns_line tables (statement.Select (select.Rows list.Star (called t z) None)) ≡ codes "  columns A, B\n"
  -- SELECT COUNT(*) FROM t;
  pub count : columns_line tables (statement.Select (select.Count (from t) None)) ≡ codes "  columns COUNT(*)\n"
  -- COMMIT;
  pub no_query : columns_line tables statement.Commit ≡ []
  -- SELECT * FROM p; in JSON
  pub json_all : columns_member tables (statement.Select (select.Rows list.Star (from p) None)) ≡ codes ",\"columns\":[\"K\"]"
  -- SELECT a, 'x"' FROM t; in JSON
  pub json_as_written :
      columns_member tables (statement.Select (select.Rows (list.Values (column a ∷ expression.Text (codes "x\"") ∷ [])) (from t) None))
      ≡ codes ",\"columns\":[\"A\",\"'x\\\"'\"]"
