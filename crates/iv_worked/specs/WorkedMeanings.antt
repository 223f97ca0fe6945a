-- What statements that deserve no cause mean: their plans.
use Rattle.std.specs.Prelude.{◌≡◌, false, true, [], ◌∷◌, Some, None, pos}
use Rattle.iv_worked.specs.Words.comparison.{Greater}
use Rattle.iv_worked.specs.Words.value
use Rattle.iv_worked.specs.Words.kind
use Rattle.iv_worked.specs.Words.cond
use Rattle.iv_worked.specs.Words.type
use Rattle.iv_worked.specs.Words.literal
use Rattle.iv_worked.specs.Words.given
use Rattle.iv_worked.specs.Words.source
use Rattle.iv_worked.specs.Words.insert
use Rattle.iv_worked.specs.Words.mode
use Rattle.iv_worked.specs.Words.column_rule
use Rattle.iv_worked.specs.Words.statement
use Rattle.iv_worked.specs.Words.expression
use Rattle.iv_worked.specs.Words.condition
use Rattle.iv_worked.specs.Words.sign.{Minus}
use Rattle.iv_worked.specs.Words.rule
use Rattle.iv_worked.specs.Words.plan
use Rattle.iv_worked.specs.Words.schema_plan
use Rattle.iv_expr.specs.declared.tree.Expr.TheVariants as expr
use Rattle.iv_expr.specs.Trees.{minus}
use Rattle.iv_syntax.specs.declared.table.MatchType.TheVariants as matching
use Rattle.iv_syntax.specs.declared.table.ReferentialAction.TheVariants as action
use Rattle.iv_syntax.specs.Trees.{sum}
use Rattle.iv_catalogue.specs.declared.plan.DataStatement.TheVariants as data_statement
use Rattle.iv_catalogue.specs.declared.plan.InsertColumns.TheVariants as insert_columns
use Rattle.iv_catalogue.specs.declared.plan.InsertRows.TheVariants as insert_rows
use Rattle.iv_catalogue.specs.declared.plan.Outputs.TheVariants as outputs
use Rattle.iv_catalogue.specs.declared.plan.QueryPlan.TheVariants as query
use Rattle.iv_resolution.specs.Bound.{bound}
use Rattle.iv_resolution.specs.Worked.{a, p, t, w, tables, column, one, from, select_of, defined, create}
use Rattle.iv_worked.specs.Words.{x, in_column, column_of}

-- T has the number 0, P 1, and a new table 2; P_C1 is the constraint 0.
pub record WorkedMeanings : Type 0 where
  -- CREATE TABLE w (a INT CONSTRAINT x REFERENCES p MATCH FULL ON DELETE CASCADE ON UPDATE SET NULL);
  pub match_full_and_two_actions :
      bound tables (create (column_of a type.Integer None
      (in_column (Some x) (column_rule.References (record { table = p; columns = None; matching = Some matching.Full; on_delete = Some action.Cascade; on_update = Some action.SetNull })) (record { deferrable = None; initially = None }) ∷ []) ∷ []))
      ≡ plan.Schema (schema_plan.CreateTable (record { name = w; columns = record { name = a; kind = kind.Integer; default = value.Null } ∷ [] })
      (record {
        name = x;
        table = 2;
        rule = rule.ForeignKey
            (record { columns = 0 ∷ []; referenced = 1; key = 0 ∷ []; matching = matching.Full; on_delete = action.Cascade; on_update = action.SetNull });
        deferrable = false;
        initially = mode.Immediate;
      } ∷ []))
  -- CREATE TABLE w (a INT CONSTRAINT x REFERENCES p);
  pub match_simple_and_no_action :
      bound tables (create (column_of a type.Integer None
      (in_column (Some x) (column_rule.References (record { table = p; columns = None; matching = None; on_delete = None; on_update = None }))
      (record { deferrable = None; initially = None }) ∷ []) ∷ []))
      ≡ plan.Schema (schema_plan.CreateTable (record { name = w; columns = record { name = a; kind = kind.Integer; default = value.Null } ∷ [] })
      (record {
        name = x;
        table = 2;
        rule = rule.ForeignKey
            (record { columns = 0 ∷ []; referenced = 1; key = 0 ∷ []; matching = matching.Simple; on_delete = action.NoAction; on_update = action.NoAction });
        deferrable = false;
        initially = mode.Immediate;
      } ∷ []))
  -- CREATE TABLE w (a INT DEFAULT 7);
  pub default_of_a_column :
      bound tables (create (defined a type.Integer (Some (literal.Number None 7)) [] ∷ []))
      ≡ plan.Schema (schema_plan.CreateTable (record { name = w; columns = record { name = a; kind = kind.Integer; default = value.Int (pos 7) } ∷ [] }) [])
  -- CREATE TABLE w (a INT CONSTRAINT x CHECK (a > 1) DEFERRABLE);
  pub deferrable_begins_immediate :
      bound tables (create (column_of a type.Integer None
      (in_column (Some x) (column_rule.Check (condition.Compare Greater (column a) one)) (record { deferrable = Some true; initially = None }) ∷ []) ∷ []))
      ≡ plan.Schema (schema_plan.CreateTable (record { name = w; columns = record { name = a; kind = kind.Integer; default = value.Null } ∷ [] })
      (record {
        name = x;
        table = 2;
        rule = rule.Check (cond.Compare Greater (expr.Column 0 0) (expr.Literal (value.Int (pos 1))));
        deferrable = true;
        initially = mode.Immediate;
      } ∷ []))
  -- INSERT INTO t (a) VALUES (DEFAULT); A has no default
  pub default_in_values :
      bound tables (statement.Insert (insert.Rows t (Some (a ∷ [])) (source.Values ((given.Default ∷ []) ∷ []))))
      ≡ plan.Change (data_statement.Insert 0 (insert_columns.Listed (0 ∷ [])) (insert_rows.Values ((expr.Literal value.Null ∷ []) ∷ [])))
  -- SELECT 3 - a FROM t;
  pub number_minus_column :
      bound tables (select_of (sum Minus (expression.Number 3) (column a)) (from t) None)
      ≡ plan.Query (query.Rows 0 (outputs.Values (minus (expr.Literal (value.Int (pos 3))) (expr.Column 0 0) ∷ [])) cond.Always)
