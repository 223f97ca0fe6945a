-- Worked texts of reasons, written by hand.
use Rattle.std.specs.Prelude.{◌≡◌, ℕ, List, [], ◌∷◌, codes, Some, None}
use Rattle.iv_expr.specs.declared.tree.Comparison.TheVariants.{Equal}
use Rattle.iv_expr.specs.declared.tree.Side.TheVariants.{Old, New}
use Rattle.iv_syntax.specs.declared.table.ColumnRule.TheVariants as column_rule
use Rattle.iv_syntax.specs.declared.table.ColumnType.TheVariants.{Integer, Varchar}
use Rattle.iv_syntax.specs.declared.table.Literal.TheVariants as literal
use Rattle.iv_syntax.specs.declared.tree.Condition.TheVariants as condition
use Rattle.iv_syntax.specs.declared.tree.Expression.TheVariants as expression
use Rattle.iv_syntax.specs.declared.tree.Sign.TheVariants.{Plus, Minus}
use Rattle.iv_syntax.specs.declared.statement.ConstraintList.TheVariants as constraints
use Rattle.iv_syntax.specs.declared.statement.ConstraintMode.TheVariants.{Deferred}
use Rattle.iv_syntax.specs.declared.statement.Statement.TheVariants as statement
use Rattle.iv_syntax.specs.declared.trigger.TransitionName.TheVariants as what
use Rattle.iv_syntax.specs.declared.trigger.TriggerEvent.TheVariants as event
use Rattle.iv_syntax.specs.Trees.{group, signed, product, sum}
use Rattle.iv_catalogue.specs.declared.cause.Cause.TheVariants as cause
use Rattle.iv_resolution.specs.Items.{constraint_item, generated_item}
use Rattle.iv_resolution.specs.Worked.{a, b, k, p, t, w, z, tables, column, of_range, one, text, from, insert_into, select_of, delete_where, defined, create, to_table}
use Rattle.iv_resolve_reasons.specs.Shapes.{tuple_count, query_count, value_fault, column_fault, set_fault, comparison_fault, operand_fault}
use Rattle.iv_resolve_reasons.specs.SchemaFaults.{pair_count, pair_types, no_reliable_key, no_primary_key, deferrable_primary_key}
use Rattle.iv_resolve_reasons.specs.SchemaFaults.{columnless_table, unfit_default, second_primary_key, contradictory_time, exists_in_check, reference_at_fault}
use Rattle.iv_resolve_reasons.specs.SchemaFaults.{item_again, side_without_rows, row_of_statement, table_before, change_before, set_after, set_of_statement, set_of_old}
use Rattle.iv_resolve_reasons.specs.Limits.{many_tables, many_columns, many_constraints, many_key_columns, no_characters, many_characters, many_triggers, many_triggers_ever, many_statements, no_text}
use Rattle.iv_explain.specs.Explanations.{explained_line, explained_member}
use Rattle.iv_explain.specs.Expressions.{expression_text, literal_text}
use Rattle.iv_explain.specs.Reasons.{limit_text, rule_text, shape_text}

pub record WorkedShapes : Type 0 where
  pub too_few_values : shape_text (tuple_count (codes "BOOK") 2 3 2) ≡ codes "tuple 2 has 2 values for 3 columns of BOOK"
  pub one_value : shape_text (tuple_count t 1 2 1) ≡ codes "tuple 1 has 1 value for 2 columns of T"
  pub query_too_wide : shape_text (query_count p 1 2) ≡ codes "the query gives 2 values for 1 column of P"
  pub text_for_an_integer :
      shape_text (value_fault (codes "BOOK") (codes "ID") Integer (expression.Text (codes "Walden"))) ≡ codes "'Walden' is a text, and column ID of BOOK is an INTEGER"
  pub integer_for_a_text : shape_text (value_fault t b (Varchar 2) one) ≡ codes "1 is an integer, and column B of T is a VARCHAR(2)"
  pub columns_of_a_star : shape_text (column_fault t b (Varchar 2) p k Integer) ≡ codes "column K of P is an INTEGER, and column B of T is a VARCHAR(2)"
  pub set_of_a_text : shape_text (set_fault z a Integer text) ≡ codes "'x' is a text, and Z.A is an INTEGER"
  pub comparison : shape_text (comparison_fault (column b) (sum Plus (column a) text)) ≡ codes "B is compared with A + 'x', and only one of them is a text"
  pub operand : shape_text (operand_fault (group (column b))) ≡ codes "(B) is a text, and arithmetic takes integers"
  pub signs_and_parentheses :
      expression_text (product (signed Minus (of_range t a)) (group (sum Minus one expression.Null))) ≡ codes "-T.A * (1 - NULL)"
  pub quote_in_a_text : expression_text (expression.Text (codes "it's")) ≡ codes "'it''s'"

pub record WorkedRules : Type 0 where
  pub no_column : rule_text (columnless_table w) ≡ codes "table W has no column"
  pub default_too_long : rule_text (unfit_default b (Varchar 2) (literal.Text (codes "abc"))) ≡ codes "column B is a VARCHAR(2), and its DEFAULT is 'abc'"
  pub negative_default : literal_text (literal.Number (Some Minus) 7) ≡ codes "-7"
  pub second_key : rule_text (second_primary_key (generated_item w 3)) ≡ codes "constraint W_C3 is the second PRIMARY KEY of its table"
  pub never_and_deferred : rule_text (contradictory_time (constraint_item z)) ≡ codes "constraint Z is NOT DEFERRABLE and INITIALLY DEFERRED"
  pub exists : rule_text (exists_in_check (constraint_item z)) ≡ codes "constraint Z is a CHECK with EXISTS"
  pub two_columns_to_one : rule_text (reference_at_fault (constraint_item z) p (pair_count 2 1)) ≡ codes "constraint Z has 2 columns, and refers to 1 column of P"
  pub length_differs :
      rule_text (reference_at_fault (constraint_item z) t (pair_types a (Varchar 3) b (Varchar 2))) ≡ codes "constraint Z: column A is a VARCHAR(3), and column B of T is a VARCHAR(2)"
  pub no_key : rule_text (reference_at_fault (constraint_item z) t (no_reliable_key (a ∷ b ∷ []))) ≡ codes "constraint Z refers to T (A, B), which is no key that is NOT DEFERRABLE"
  pub no_primary : rule_text (reference_at_fault (generated_item w 1) t no_primary_key) ≡ codes "constraint W_C1 refers to T, which has no PRIMARY KEY"
  pub deferrable : rule_text (reference_at_fault (generated_item w 2) w deferrable_primary_key) ≡ codes "constraint W_C2 refers to W, whose PRIMARY KEY is DEFERRABLE"
  pub named_twice : rule_text (item_again New what.Table) ≡ codes "REFERENCING names the new table twice"
  pub no_old_rows : rule_text (side_without_rows z Old event.Insert) ≡ codes "REFERENCING name Z is for old rows, and INSERT has none"
  pub row_of_all : rule_text (row_of_statement z) ≡ codes "REFERENCING name Z is for a row, and the trigger is FOR EACH STATEMENT"
  pub table_too_early : rule_text (table_before z) ≡ codes "REFERENCING name Z is for a table, and the trigger is BEFORE"
  pub change_too_early : rule_text (change_before 2) ≡ codes "statement 2 is INSERT, UPDATE or DELETE, and the trigger is BEFORE"
  pub set_too_late : rule_text (set_after 2) ≡ codes "statement 2 is SET, and the trigger is AFTER"
  pub set_of_all : rule_text (set_of_statement 1) ≡ codes "statement 1 is SET, and the trigger is FOR EACH STATEMENT"
  pub set_of_the_old_row : rule_text (set_of_old 2 z b) ≡ codes "statement 2 sets Z.B, which is of the old row"

pub record WorkedLimits : Type 0 where
  pub table_65 : limit_text (many_tables 64 65) ≡ codes "there would be 65 tables, and 64 is the most"
  pub columns_34 : limit_text (many_columns w 32 34) ≡ codes "table W would have 34 columns, and 32 is the most"
  pub constraints_65 : limit_text (many_constraints w 64 65) ≡ codes "table W would have 65 constraints, and 64 is the most"
  pub key_of_9 : limit_text (many_key_columns (generated_item w 2) 8 9) ≡ codes "constraint W_C2 would have 9 columns, and 8 is the most"
  pub no_character : limit_text (no_characters b) ≡ codes "column B is a VARCHAR(0), and 1 is the least"
  pub character_4097 : limit_text (many_characters a 4096 4097) ≡ codes "column A is a VARCHAR(4097), and 4096 is the most"
  pub trigger_257 : limit_text (many_triggers 256 257) ≡ codes "there would be 257 triggers, and 256 is the most"
  pub trigger_ever : limit_text (many_triggers_ever 4294967295 4294967296) ≡ codes "it would be trigger 4294967296 that was ever created, and 4294967295 is the most"
  pub statements_33 : limit_text (many_statements (codes "R") 32 33) ≡ codes "trigger R would have 33 statements, and 32 is the most"
  pub unwritable : limit_text no_text ≡ codes "no text is this statement"

-- For each cause one line comes at most. The catalogue is that of CREATE TABLE t (a INT, b VARCHAR(2)); CREATE TABLE p (k INT PRIMARY KEY);
pub record WorkedCauses : Type 0 where
  -- SELECT a FROM w;
  pub unknown : explained_line tables (select_of (column a) (from w) None) cause.Unknown ≡ codes "  table W isn't there\n"
  -- CREATE TABLE w (a INT, a INT);
  pub duplicate : explained_line tables (create (defined a Integer None [] ∷ defined a Integer None [] ∷ [])) cause.Duplicate ≡ codes "  column A comes twice\n"
  -- CREATE TABLE w (a INT REFERENCES t);
  pub schema_fault :
      explained_line tables (create (defined a Integer None (column_rule.References (to_table t) ∷ []) ∷ [])) cause.SchemaFault
      ≡ codes "  constraint W_C1 refers to T, which has no PRIMARY KEY\n"
  -- INSERT INTO t VALUES (1);
  pub wrong_shape : explained_line tables (insert_into t None (one ∷ [])) cause.WrongShape ≡ codes "  tuple 1 has 1 value for 2 columns of T\n"
  -- CREATE TABLE w (a VARCHAR(4097));
  pub limit : explained_line tables (create (defined a (Varchar 4097) None [] ∷ [])) cause.Limit ≡ codes "  column A is a VARCHAR(4097), and 4096 is the most\n"
  -- ROLLBACK TO SAVEPOINT z;
  pub no_savepoint : explained_line tables (statement.RollbackTo z) cause.UnknownSavepoint ≡ codes "  savepoint Z isn't there\n"
  -- SET CONSTRAINTS p_c1 DEFERRED;
  pub not_deferrable :
      explained_line tables (statement.SetConstraints (constraints.Named (codes "P_C1" ∷ [])) Deferred) (cause.NotDeferrable 0) ≡ codes "  constraint P_C1 is NOT DEFERRABLE\n"
  -- START TRANSACTION; of which no more is told than its cause
  pub no_more : explained_line tables statement.StartTransaction cause.ActiveTransaction ≡ []
  -- DELETE FROM t WHERE b = 1; in JSON
  pub json : explained_member tables (delete_where t (condition.Compare Equal (column b) one)) cause.WrongShape
      ≡ codes ",\"reason\":\"B is compared with 1, and only one of them is a text\""
