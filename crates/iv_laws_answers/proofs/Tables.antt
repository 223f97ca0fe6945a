-- CREATE TABLE and ALTER TABLE whose words can be written are writable.
use Rattle.std.proofs.Common.{◌≡◌, ℕ, Bool, true, ◌&&◌, Option, Some, None, List, [], ◌∷◌, ◌++◌, map, refl, ◌∙◌, subst}
use Rattle.std.specs.List.{list_all}
use Rattle.std.proofs.lemmas.Bool.{and_parts}
use Rattle.std.proofs.lemmas.List.Folds.{list_all-append, list_all-map}
use Rattle.iv_lex.specs.declared.kind.TokenKind.TheVariants as kind
use Rattle.iv_lex.specs.Words.{Word, name, plain}
use Rattle.iv_parse_data.specs.Types.{Literal, References, ColumnConstraint, TableConstraint, TableElement}
use Rattle.iv_parse_data.specs.Types.literal
use Rattle.iv_parse_data.specs.Types.column_rule
use Rattle.iv_parse_data.specs.Types.table_rule
use Rattle.iv_parse_data.specs.Types.element.{Column, Constraint}
use Rattle.iv_parse_data.specs.Series.{Maybe, InParentheses}
use Rattle.iv_parse_data.specs.Data.{Names, IsShallowCondition}
use Rattle.iv_parse_data.specs.Tables.{IsLiteral, IsDefault, IsConstraintName, IsReferences, null_words, IsColumnRule, IsColumnConstraint, IsTableRule, IsTableConstraint, IsElement, IsCreateTable, IsAlterTable}
use Rattle.iv_resolution.specs.Constraints.{rule_of_column, rule_of_table, column_constraint, table_constraint, written_columns, written_constraints}
use Rattle.iv_resolution.specs.Writable.{is_name, is_name_or_none, is_name_list, is_name_list_or_none, is_condition, is_literal, is_definition, is_rule, is_written_constraint, is_table_definition}
use Rattle.iv_laws_answers.proofs.Names.{Written, front, back, join}
use Rattle.iv_laws_answers.proofs.Parts.{Passes, some_parts, series_pass, sequence_passes, inner_passes, names_pass, column_list_passes}
use Rattle.iv_laws_answers.proofs.Terms.{condition_passes}

-- ---- columns

literal_passes : Passes IsLiteral is_literal
literal_passes ws (literal.Number None n) e w = (subst Written e w).0
literal_passes ws (literal.Number (Some s) n) e w = (subst Written e w).1.0
literal_passes ws (literal.Text t) e w = refl
literal_passes ws literal.Null e w = refl

abbrev is_default : Option Literal → Bool
is_default o = elim o [ Some l ↦ is_literal l | None ↦ true ]

default_passes : Passes (Maybe IsDefault) is_default
default_passes ws None e w = refl
default_passes ws (Some l) (inner, p, e) w = literal_passes inner l p (subst Written e w).1

-- ---- constraints

called_passes : Passes (Maybe IsConstraintName) is_name_or_none
called_passes ws None e w = refl
called_passes ws (Some n) e w = (subst Written e w).1.0

check_passes : Passes (InParentheses IsShallowCondition) is_condition
check_passes ws c p w = inner_passes IsShallowCondition is_condition condition_passes ws c p w

key_passes : Passes (InParentheses Names) is_name_list
key_passes ws ns p w = inner_passes Names is_name_list names_pass ws ns p w

references_pass : (ws : List Word) (r : References) → IsReferences ws r → Written ws → (is_name r.table && is_name_list_or_none r.columns) ≡ true
references_pass ws r (columns, matching, actions, p, q, a, e) w =
    let v : Written (plain kind.References ∷ name r.table ∷ (columns ++ (matching ++ actions))) = subst Written e w in
    join (is_name r.table) _ v.1.0 (column_list_passes columns r.columns p (front columns (matching ++ actions) v.1.1))

-- the list of one column
one_name : (column : List ℕ) → is_name column ≡ true → is_name_list (column ∷ []) ≡ true
one_name column h = join (is_name column) true h refl

column_rule_passes : (column : List ℕ) → is_name column ≡ true → Passes IsColumnRule (λ r. is_rule (rule_of_column column r))
column_rule_passes column n ws column_rule.NotNull e w = n
column_rule_passes column n ws (column_rule.Unique nulls) e w = one_name column n
column_rule_passes column n ws column_rule.PrimaryKey e w = one_name column n
column_rule_passes column n ws (column_rule.Check c) (check, p, e) w = check_passes check c p (subst Written e w).1
column_rule_passes column n ws (column_rule.References r) p w = join (is_name_list (column ∷ [])) _ (one_name column n) (references_pass ws r p w)

abbrev is_constraint_of : List ℕ → ColumnConstraint → Bool
is_constraint_of column k = is_written_constraint (column_constraint column k)

column_constraint_passes : (column : List ℕ) → is_name column ≡ true → Passes IsColumnConstraint (is_constraint_of column)
column_constraint_passes column n ws k (called, rule, time, p, q, t, e) w =
    let v : Written (called ++ (rule ++ time)) = subst Written e w in
    join (is_name_or_none k.name) _ (called_passes called k.name p (front called (rule ++ time) v))
    (column_rule_passes column n rule k.rule q (front rule time (back called (rule ++ time) v)))

table_rule_passes : Passes IsTableRule (λ r. is_rule (rule_of_table r))
table_rule_passes ws (table_rule.Unique nulls ns) (key, p, e) w = key_passes key ns p (back (null_words nulls) key (subst Written e w).1)
table_rule_passes ws (table_rule.PrimaryKey ns) (key, p, e) w = key_passes key ns p (subst Written e w).1.1
table_rule_passes ws (table_rule.Check c) (check, p, e) w = check_passes check c p (subst Written e w).1
table_rule_passes ws (table_rule.ForeignKey ns r) (key, references, p, q, e) w =
    let v : Written (plain kind.Foreign ∷ plain kind.Key ∷ (key ++ references)) = subst Written e w in
    join (is_name_list ns) _ (key_passes key ns p (front key references v.1.1)) (references_pass references r q (back key references v.1.1))

abbrev is_added : TableConstraint → Bool
is_added k = is_written_constraint (table_constraint k)

table_constraint_passes : Passes IsTableConstraint is_added
table_constraint_passes ws k (called, rule, time, p, q, t, e) w =
    let v : Written (called ++ (rule ++ time)) = subst Written e w in
    join (is_name_or_none k.name) _ (called_passes called k.name p (front called (rule ++ time) v))
    (table_rule_passes rule k.rule q (front rule time (back called (rule ++ time) v)))

-- ---- elements of a table

-- the column, or the constraint, and the constraints inside the column can be written
abbrev is_element : TableElement → Bool
is_element (Column c) = is_definition c && list_all (is_constraint_of c.name) c.constraints
is_element (Constraint k) = is_added k

element_passes : Passes IsElement is_element
element_passes ws (Column c) (type, default, constraints, p, q, r, e) w =
    let v : Written (name c.name ∷ (type ++ (default ++ constraints))) = subst Written e w in
    let u : Written (default ++ constraints) = back type (default ++ constraints) v.1 in
    join (is_definition c) _
    (join (is_name c.name) _ v.0 (default_passes default c.default q (front default constraints u)))
    (sequence_passes IsColumnConstraint (is_constraint_of c.name) (column_constraint_passes c.name v.0) constraints c.constraints r (back default constraints u))
element_passes ws (Constraint k) p w = table_constraint_passes ws k p w

columns_pass : (es : List TableElement) → list_all is_element es ≡ true → list_all is_definition (written_columns es) ≡ true
columns_pass [] h = refl
columns_pass (Column c ∷ es) h =
    let parts = and_parts (is_element (Column c)) (list_all is_element es) h in
    join (is_definition c) _ (and_parts (is_definition c) _ parts.0).0 (columns_pass es parts.1)
columns_pass (Constraint k ∷ es) h = columns_pass es (and_parts (is_added k) (list_all is_element es) h).1

constraints_pass : (es : List TableElement) → list_all is_element es ≡ true → list_all is_written_constraint (written_constraints es) ≡ true
constraints_pass [] h = refl
constraints_pass (Column c ∷ es) h =
    let parts = and_parts (is_element (Column c)) (list_all is_element es) h in
    list_all-append is_written_constraint (map (column_constraint c.name) c.constraints) (written_constraints es)
    ∙ join (list_all is_written_constraint (map (column_constraint c.name) c.constraints)) _
    (list_all-map is_written_constraint (column_constraint c.name) c.constraints ∙ (and_parts (is_definition c) _ parts.0).1)
    (constraints_pass es parts.1)
constraints_pass (Constraint k ∷ es) h =
    let parts = and_parts (is_added k) (list_all is_element es) h in
    join (is_added k) _ parts.0 (constraints_pass es parts.1)

-- ---- statements

pub create_table_passes : (ws : List Word) (n : List ℕ) (es : List TableElement) → IsCreateTable ws n es → Written ws → is_table_definition n es ≡ true
create_table_passes ws n es (body, (inner, p, f), e) w =
    let v : Written (plain kind.Create ∷ plain kind.Table ∷ name n ∷ body) = subst Written e w in
    let u : Written inner = front inner (plain kind.RightParenthesis ∷ []) (subst Written f v.1.1.1).1 in
    let all : list_all is_element es ≡ true = (some_parts is_element es (series_pass IsElement is_element element_passes inner es p u)).1 in
    join (is_name n) _ v.1.1.0 (join _ _ (columns_pass es all) (constraints_pass es all))

pub alter_table_passes : (ws : List Word) (n : List ℕ) (k : TableConstraint) → IsAlterTable ws n k → Written ws
    → (is_name n && is_written_constraint (table_constraint k)) ≡ true
alter_table_passes ws n k (constraint, p, e) w =
    let v : Written (plain kind.Alter ∷ plain kind.Table ∷ name n ∷ plain kind.Add ∷ constraint) = subst Written e w in
    join (is_name n) _ v.1.1.0 (table_constraint_passes constraint k p v.1.1.1.1)
