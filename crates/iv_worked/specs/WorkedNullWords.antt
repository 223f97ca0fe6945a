-- UNIQUE NULLS NOT DISTINCT: for all that a statement is refused for, it is a UNIQUE.
use Rattle.std.specs.Prelude.{◌≡◌, true, false, [], ◌∷◌, ◌++◌, Some, None}
use Rattle.iv_worked.specs.Words.type
use Rattle.iv_worked.specs.Words.value
use Rattle.iv_worked.specs.Words.kind
use Rattle.iv_worked.specs.Words.mode
use Rattle.iv_worked.specs.Words.column_rule
use Rattle.iv_worked.specs.Words.table_rule
use Rattle.iv_worked.specs.Words.rule
use Rattle.iv_worked.specs.Words.nulls.{Distinct, NotDistinct}
use Rattle.iv_worked.specs.Words.statement
use Rattle.iv_worked.specs.Words.plan
use Rattle.iv_worked.specs.Words.schema_plan
use Rattle.iv_worked.specs.Words.cause.{Unknown, Duplicate, SchemaFault, Limit}
use Rattle.iv_catalogue.specs.Catalogues.{Schema}
use Rattle.iv_resolution.specs.Bound.{bound}
use Rattle.iv_resolution.specs.Resolution.{least}
use Rattle.iv_resolution.specs.Worked.{a, b, k, t, w, z, any_time, defined, constrained, named, create, to_table}
use Rattle.iv_worked.specs.Words.{x, schema, refers, checked, in_column, column_of, constraint}
use Rattle.iv_worked.specs.Many.{numbered, columns}

-- ALTER TABLE t ADD CONSTRAINT x UNIQUE NULLS NOT DISTINCT (a);
abbrev pub added : Schema
added = record schema {
  constraints = schema.constraints ++ record { name = x; table = 0; rule = rule.Unique NotDistinct (0 ∷ []); deferrable = false; initially = mode.Immediate }
      ∷ [];
}

pub record WorkedNullWords : Type 0 where
  -- CREATE TABLE w (a INT UNIQUE NULLS NOT DISTINCT);
  pub in_a_column : least schema (create (defined a type.Integer None (column_rule.Unique NotDistinct ∷ []) ∷ [])) ≡ None
  -- CREATE TABLE w (a INT, b INT, UNIQUE NULLS NOT DISTINCT (a, b));
  pub of_two_columns :
      least schema (create (defined a type.Integer None [] ∷ defined b type.Integer None [] ∷ constrained (table_rule.Unique NotDistinct (a ∷ b ∷ [])) ∷ []))
      ≡ None
  -- CREATE TABLE w (a INT, UNIQUE NULLS NOT DISTINCT (z));
  pub of_nothing : least schema (create (defined a type.Integer None [] ∷ constrained (table_rule.Unique NotDistinct (z ∷ [])) ∷ [])) ≡ Some Unknown
  -- CREATE TABLE w (a INT, UNIQUE NULLS NOT DISTINCT (a, a));
  pub of_a_column_twice : least schema (create (defined a type.Integer None [] ∷ constrained (table_rule.Unique NotDistinct (a ∷ a ∷ [])) ∷ []))
      ≡ Some Duplicate
  -- CREATE TABLE w (a INT UNIQUE UNIQUE NULLS NOT DISTINCT);
  pub beside_a_unique : least schema (create (defined a type.Integer None (column_rule.Unique Distinct ∷ column_rule.Unique NotDistinct ∷ []) ∷ [])) ≡ None
  -- CREATE TABLE w (a INT PRIMARY KEY UNIQUE NULLS NOT DISTINCT);
  pub beside_a_primary_key : least schema (create (defined a type.Integer None (column_rule.PrimaryKey ∷ column_rule.Unique NotDistinct ∷ []) ∷ [])) ≡ None
  -- CREATE TABLE w (a INT CONSTRAINT x UNIQUE NULLS NOT DISTINCT, CONSTRAINT x UNIQUE NULLS NOT DISTINCT (a));
  pub named_twice :
      least schema (create (column_of a type.Integer None (in_column (Some x) (column_rule.Unique NotDistinct) any_time ∷ []) ∷ named x (table_rule.Unique NotDistinct (a ∷ [])) ∷ [])) ≡ Some Duplicate
  -- CREATE TABLE w (a INT UNIQUE NULLS NOT DISTINCT NOT DEFERRABLE INITIALLY DEFERRED);
  pub not_deferrable_and_deferred :
      least schema (create (column_of a type.Integer None (in_column None (column_rule.Unique NotDistinct) (checked (Some false) (Some mode.Deferred)) ∷ []) ∷ [])) ≡ Some SchemaFault
  -- CREATE TABLE w (.., UNIQUE NULLS NOT DISTINCT (..)); of 9 columns
  pub of_9_columns : least schema (create (constrained (table_rule.Unique NotDistinct (numbered 9)) ∷ columns 9)) ≡ Some Limit
  -- CREATE TABLE w (.., UNIQUE NULLS NOT DISTINCT (..)); of 8 columns
  pub of_8_columns : least schema (create (constrained (table_rule.Unique NotDistinct (numbered 8)) ∷ columns 9)) ≡ None
  -- a list of no column
  pub of_no_column : least schema (create (defined a type.Integer None [] ∷ constrained (table_rule.Unique NotDistinct []) ∷ [])) ≡ Some Limit
  -- ---- foreign keys
  -- CREATE TABLE w (a INT REFERENCES w (k), k INT UNIQUE NULLS NOT DISTINCT);
  pub referred_to :
      least schema (create (defined a type.Integer None (column_rule.References (refers w (Some (k ∷ []))) ∷ []) ∷ defined k type.Integer None (column_rule.Unique NotDistinct ∷ []) ∷ [])) ≡ None
  -- CREATE TABLE w (a INT REFERENCES w (k), k INT UNIQUE NULLS NOT DISTINCT DEFERRABLE);
  pub deferrable_referred_to :
      least schema (create (defined a type.Integer None (column_rule.References (refers w (Some (k ∷ []))) ∷ []) ∷ column_of k type.Integer None (in_column None (column_rule.Unique NotDistinct) (checked (Some true) None) ∷ []) ∷ [])) ≡ Some SchemaFault
  -- CREATE TABLE w (a INT REFERENCES w, k INT UNIQUE NULLS NOT DISTINCT);
  pub no_primary_key :
      least schema (create (defined a type.Integer None (column_rule.References (to_table w) ∷ []) ∷ defined k type.Integer None (column_rule.Unique NotDistinct ∷ []) ∷ [])) ≡ Some SchemaFault
  -- CREATE TABLE w (b INT REFERENCES t (a)); after the constraint is added
  pub added_referred_to : least added (create (defined b type.Integer None (column_rule.References (refers t (Some (a ∷ []))) ∷ []) ∷ [])) ≡ None
  -- CREATE TABLE w (b INT REFERENCES t (a)); before it is added
  pub not_added_referred_to : least schema (create (defined b type.Integer None (column_rule.References (refers t (Some (a ∷ []))) ∷ []) ∷ []))
      ≡ Some SchemaFault
  -- CREATE TABLE w (b INT REFERENCES t); after the constraint is added
  pub added_is_no_primary_key : least added (create (defined b type.Integer None (column_rule.References (to_table t) ∷ []) ∷ [])) ≡ Some SchemaFault
  -- ---- plans
  -- ALTER TABLE t ADD CONSTRAINT x UNIQUE NULLS NOT DISTINCT (a);
  pub plan_of_an_addition :
      bound schema (statement.AlterTable t (constraint (Some x) (table_rule.Unique NotDistinct (a ∷ [])) any_time))
      ≡ plan.Schema (schema_plan.AddConstraint (record { name = x; table = 0; rule = rule.Unique NotDistinct (0 ∷ []); deferrable = false; initially = mode.Immediate }))
  -- CREATE TABLE w (a INT CONSTRAINT x UNIQUE NULLS NOT DISTINCT, CONSTRAINT z UNIQUE (a));
  pub plan_of_both :
      bound schema (create (column_of a type.Integer None (in_column (Some x) (column_rule.Unique NotDistinct) any_time ∷ []) ∷ named z (table_rule.Unique Distinct (a ∷ [])) ∷ []))
      ≡ plan.Schema (schema_plan.CreateTable (record { name = w; columns = record { name = a; kind = kind.Integer; default = value.Null } ∷ [] })
      (record { name = x; table = 4; rule = rule.Unique NotDistinct (0 ∷ []); deferrable = false; initially = mode.Immediate }
      ∷ record { name = z; table = 4; rule = rule.Unique Distinct (0 ∷ []); deferrable = false; initially = mode.Immediate } ∷ []))
