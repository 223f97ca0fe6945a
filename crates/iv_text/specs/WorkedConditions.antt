-- Worked texts of conditions and of what constraints ask, written by hand.
use Rattle.std.specs.Prelude.{◌≡◌, ℕ, pos, negsuc, Bool, List, [], ◌∷◌, codes, Option, Some, None}
use Rattle.iv_value.specs.declared.value.Value.{Value}
use Rattle.iv_value.specs.declared.value.Value.TheVariants.{Null, Int, Text}
use Rattle.iv_value.specs.declared.value.Kind.TheVariants.{Integer}
use Rattle.iv_expr.specs.declared.tree.Comparison.{Comparison}
use Rattle.iv_expr.specs.declared.tree.Comparison.TheVariants.{Equal, NotEqual, Less, LessEqual, Greater, GreaterEqual}
use Rattle.iv_expr.specs.declared.tree.Cond.{Cond}
use Rattle.iv_expr.specs.declared.tree.Cond.TheVariants.{Compare, IsNull}
use Rattle.iv_expr.specs.declared.tree.Expr.{Expr}
use Rattle.iv_expr.specs.declared.tree.Expr.TheVariants as expr
use Rattle.iv_expr.specs.Trees.{plus, minus, times, not_c, and_c, or_c}
use Rattle.iv_syntax.specs.declared.statement.ConstraintMode.TheVariants.{Immediate}
use Rattle.iv_syntax.specs.declared.table.MatchType.TheVariants.{Simple, Full}
use Rattle.iv_syntax.specs.declared.table.MatchType.{MatchType}
use Rattle.iv_syntax.specs.declared.table.NullTreatment.TheVariants.{Distinct, NotDistinct}
use Rattle.iv_syntax.specs.declared.table.ReferentialAction.TheVariants.{NoAction, Cascade}
use Rattle.iv_catalogue.specs.Catalogues.{Schema}
use Rattle.iv_catalogue.specs.declared.catalogue.Column.{Column}
use Rattle.iv_catalogue.specs.declared.constraint.Constraint.{Constraint}
use Rattle.iv_catalogue.specs.declared.constraint.Rule.{Rule}
use Rattle.iv_catalogue.specs.declared.constraint.Rule.TheVariants as rule
use Rattle.iv_text.specs.Conditions.{condition_text}
use Rattle.iv_text.specs.Rules.{constraint_words, described_text}
use Rattle.iv_text.specs.declared.condition.Shown.TheVariants.{Names, Values}

-- ---- conditions

abbrev pub number : ℕ → Expr
number n = expr.Literal (Int (pos n))

abbrev pub price : Expr
price = expr.Column 0 0

abbrev pub low : Expr
low = expr.Column 0 1

abbrev pub title : Expr
title = expr.Column 0 2

abbrev pub column : List ℕ → Column
column name = record { name = name; kind = Integer; default = Null }

abbrev pub columns : List Column
columns = column (codes "PRICE") ∷ column (codes "LOW") ∷ column (codes "TITLE") ∷ []

-- the row (-1, 3, 'it''s')
abbrev pub row : List Value
row = Int (negsuc 0) ∷ Int (pos 3) ∷ Text (codes "it's") ∷ []

-- a condition on such a table with the names of its columns, and with the values of that row
abbrev pub with_names : Cond → List ℕ
with_names c = condition_text Names columns row c

abbrev pub with_values : Cond → List ℕ
with_values c = condition_text Values columns row c

pub record WorkedConditions : Type 0 where
  pub comparison : with_names (Compare Greater price (number 0)) ≡ codes "PRICE > 0"
  pub comparison_of_values : with_values (Compare Greater price (number 0)) ≡ codes "-1 > 0"
  pub sum_in_a_product : with_names (Compare Equal (times (plus price low) (number 2)) (number 4)) ≡ codes "(PRICE + LOW) * 2 = 4"
  pub sum_of_values_in_a_product : with_values (Compare Equal (times (plus price low) (number 2)) (number 4)) ≡ codes "(-1 + 3) * 2 = 4"
  pub product_in_a_product : with_names (Compare Equal (times price (times low (number 2))) (number 4)) ≡ codes "PRICE * (LOW * 2) = 4"
  pub difference_on_the_right : with_names (Compare NotEqual (minus price (minus low (number 1))) (minus (number 0) (number 5)))
      ≡ codes "PRICE - (LOW - 1) <> -5"
  pub difference_on_the_left : with_names (Compare Less (minus (minus price low) (number 1)) (times price (minus (number 0) (number 5))))
      ≡ codes "PRICE - LOW - 1 < PRICE * -5"
  pub column_with_a_sign : with_names (Compare LessEqual (minus (number 0) price) low) ≡ codes "-PRICE <= LOW"
  -- a value has a sign of its own
  pub value_with_a_sign : with_values (Compare LessEqual (minus (number 0) price) low) ≡ codes "0 - -1 <= 3"
  pub not_null : with_names (and_c (not_c (IsNull title)) (or_c (Compare Less price (number 1)) (Compare GreaterEqual low (number 2))))
      ≡ codes "TITLE IS NOT NULL AND (PRICE < 1 OR LOW >= 2)"
  pub not_null_of_values : with_values
      (and_c (not_c (IsNull title)) (or_c (Compare Less price (number 1)) (Compare GreaterEqual low (number 2))))
      ≡ codes "'it''s' IS NOT NULL AND (-1 < 1 OR 3 >= 2)"
  pub conjunctions : with_names (and_c (IsNull price) (and_c (IsNull low) (IsNull title)))
      ≡ codes "PRICE IS NULL AND (LOW IS NULL AND TITLE IS NULL)"
  pub disjunctions : with_names (or_c (or_c (IsNull price) (and_c (IsNull low) (IsNull title))) (IsNull low))
      ≡ codes "PRICE IS NULL OR LOW IS NULL AND TITLE IS NULL OR LOW IS NULL"
  pub denials : with_names (not_c (not_c (and_c (IsNull price) (IsNull low)))) ≡ codes "NOT (NOT (PRICE IS NULL AND LOW IS NULL))"
  pub denied_comparison : with_names (not_c (Compare Equal price low)) ≡ codes "NOT PRICE = LOW"

-- ---- constraints

-- CREATE TABLE p (k INTEGER, m INTEGER); CREATE TABLE c (x INTEGER, y INTEGER)
abbrev pub schema : Schema
schema = record {
  tables = record { name = codes "P"; columns = column (codes "K") ∷ column (codes "M") ∷ [] }
      ∷ record { name = codes "C"; columns = column (codes "X") ∷ column (codes "Y") ∷ [] } ∷ [];
  constraints = [];
  triggers = [];
  created = 0;
}

-- a constraint of the second table
abbrev pub constraint : List ℕ → Rule → Constraint
constraint name r = record { name = name; table = 1; rule = r; deferrable = Bool.false; initially = Immediate }

abbrev pub references : MatchType → Rule
references matching = rule.ForeignKey (record {
  columns = 1 ∷ 0 ∷ [];
  referenced = 0;
  key = 0 ∷ 1 ∷ [];
  matching = matching;
  on_delete = Cascade;
  on_update = NoAction;
})

-- by its name, which is generated
abbrev pub described : Rule → List ℕ
described r = described_text schema (Some (constraint (codes "C_C7") r))

-- a UNIQUE of this name
abbrev pub unique_named : List ℕ → List ℕ
unique_named name = described_text schema (Some (constraint name (rule.Unique Distinct (0 ∷ []))))

pub record WorkedRules : Type 0 where
  pub not_null : described (rule.NotNull 1) ≡ codes "C_C7 (NOT NULL Y)"
  pub check : described (rule.Check (IsNull price)) ≡ codes "C_C7 (CHECK)"
  pub unique : described (rule.Unique Distinct (1 ∷ 0 ∷ [])) ≡ codes "C_C7 (UNIQUE (Y, X))"
  pub unique_nulls : described (rule.Unique NotDistinct (0 ∷ [])) ≡ codes "C_C7 (UNIQUE NULLS NOT DISTINCT (X))"
  pub primary_key : described (rule.PrimaryKey (0 ∷ [])) ≡ codes "C_C7 (PRIMARY KEY (X))"
  pub foreign_key : described (references Simple) ≡ codes "C_C7 (FOREIGN KEY (Y, X) REFERENCES P (K, M))"
  pub foreign_key_full : described (references Full) ≡ codes "C_C7 (FOREIGN KEY (Y, X) REFERENCES P (K, M) MATCH FULL)"
  -- a name that a person gave says enough
  pub given_name : unique_named (codes "ONE_X") ≡ codes "ONE_X"
  pub given_name_like_it : unique_named (codes "C_CODE") ≡ codes "C_CODE"
  pub name_of_another_table : unique_named (codes "P_C1") ≡ codes "P_C1"
  -- one that begins like a generated one is told as one
  pub name_with_a_number : unique_named (codes "C_C1X") ≡ codes "C_C1X (UNIQUE (X))"
  pub no_constraint : described_text schema None ≡ []
