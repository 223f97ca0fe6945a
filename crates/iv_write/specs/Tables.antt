-- The words of CREATE TABLE and ALTER TABLE. A type is INTEGER or VARCHAR; DEFERRABLE comes before INITIALLY, and ON DELETE before
-- ON UPDATE.
use Rattle.std.specs.Prelude.{ℕ, Bool, true, false, Option, Some, None, List, [], ◌∷◌, ◌++◌}
use Rattle.iv_lex.specs.declared.kind.TokenKind.{TokenKind}
use Rattle.iv_lex.specs.declared.kind.TokenKind.TheVariants as kind
use Rattle.iv_lex.specs.Words.{Word, name, number, quoted, plain}
use Rattle.iv_parse_terms.specs.Expressions.{sign_kind}
use Rattle.iv_write.specs.Types.{ConstraintMode, Literal, ColumnType, ConstraintTime, MatchType, ReferentialAction, References, ColumnRule, ColumnConstraint, TableRule, TableConstraint, ColumnDefinition, TableElement}
use Rattle.iv_write.specs.Types.literal
use Rattle.iv_write.specs.Types.type.{Integer, Varchar}
use Rattle.iv_write.specs.Types.column_rule
use Rattle.iv_write.specs.Types.table_rule
use Rattle.iv_write.specs.Types.element.{Column, Constraint}
use Rattle.iv_parse_data.specs.Tables.{mode_kind, match_kind, action_words, null_words}
use Rattle.iv_write.specs.Parts.{series_words, sequence_words, enclosed_words}
use Rattle.iv_write.specs.Terms.{condition_words}
use Rattle.iv_write.specs.Data.{names_words, column_list_words}

abbrev pub type_words : ColumnType → List Word
type_words Integer = plain kind.Integer ∷ []
type_words (Varchar n) = plain kind.Varchar ∷ plain kind.LeftParenthesis ∷ number n ∷ plain kind.RightParenthesis ∷ []

abbrev pub literal_words : Literal → List Word
literal_words (literal.Number None n) = number n ∷ []
literal_words (literal.Number (Some s) n) = plain (sign_kind s) ∷ number n ∷ []
literal_words (literal.Text t) = quoted t ∷ []
literal_words literal.Null = plain kind.Null ∷ []

abbrev pub default_words : Option Literal → List Word
default_words None = []
default_words (Some l) = plain kind.Default ∷ literal_words l

abbrev pub constraint_name_words : Option (List ℕ) → List Word
constraint_name_words None = []
constraint_name_words (Some n) = plain kind.Constraint ∷ name n ∷ []

abbrev pub deferrable_words : Option Bool → List Word
deferrable_words None = []
deferrable_words (Some true) = plain kind.Deferrable ∷ []
deferrable_words (Some false) = plain kind.Not ∷ plain kind.Deferrable ∷ []

abbrev pub initially_words : Option ConstraintMode → List Word
initially_words None = []
initially_words (Some m) = plain kind.Initially ∷ plain (mode_kind m) ∷ []

abbrev pub time_words : ConstraintTime → List Word
time_words t = deferrable_words t.deferrable ++ initially_words t.initially

abbrev pub match_words : Option MatchType → List Word
match_words None = []
match_words (Some m) = plain kind.Match ∷ plain (match_kind m) ∷ []

abbrev pub on_words : TokenKind → Option ReferentialAction → List Word
on_words event None = []
on_words event (Some a) = plain kind.On ∷ plain event ∷ action_words a

abbrev pub actions_words : Option ReferentialAction → Option ReferentialAction → List Word
actions_words on_delete on_update = on_words kind.Delete on_delete ++ on_words kind.Update on_update

abbrev pub references_words : References → List Word
references_words r =
    plain kind.References ∷ name r.table ∷ (column_list_words r.columns ++ (match_words r.matching ++ actions_words r.on_delete r.on_update))

abbrev pub column_rule_words : ColumnRule → List Word
column_rule_words column_rule.NotNull = plain kind.Not ∷ plain kind.Null ∷ []
column_rule_words (column_rule.Unique nulls) = plain kind.Unique ∷ null_words nulls
column_rule_words column_rule.PrimaryKey = plain kind.Primary ∷ plain kind.Key ∷ []
column_rule_words (column_rule.Check c) = plain kind.Check ∷ enclosed_words (condition_words c)
column_rule_words (column_rule.References r) = references_words r

abbrev pub column_constraint_words : ColumnConstraint → List Word
column_constraint_words c = constraint_name_words c.name ++ (column_rule_words c.rule ++ time_words c.time)

abbrev pub column_words : ColumnDefinition → List Word
column_words c = name c.name ∷ (type_words c.kind ++ (default_words c.default ++ sequence_words column_constraint_words c.constraints))

abbrev pub table_rule_words : TableRule → List Word
table_rule_words (table_rule.Unique nulls ns) = plain kind.Unique ∷ (null_words nulls ++ enclosed_words (names_words ns))
table_rule_words (table_rule.PrimaryKey ns) = plain kind.Primary ∷ plain kind.Key ∷ enclosed_words (names_words ns)
table_rule_words (table_rule.Check c) = plain kind.Check ∷ enclosed_words (condition_words c)
table_rule_words (table_rule.ForeignKey ns r) = plain kind.Foreign ∷ plain kind.Key ∷ (enclosed_words (names_words ns) ++ references_words r)

abbrev pub table_constraint_words : TableConstraint → List Word
table_constraint_words c = constraint_name_words c.name ++ (table_rule_words c.rule ++ time_words c.time)

abbrev pub element_words : TableElement → List Word
element_words (Column c) = column_words c
element_words (Constraint c) = table_constraint_words c

abbrev pub create_table_words : List ℕ → List TableElement → List Word
create_table_words n es = plain kind.Create ∷ plain kind.Table ∷ name n ∷ enclosed_words (series_words element_words es)

abbrev pub alter_table_words : List ℕ → TableConstraint → List Word
alter_table_words n c = plain kind.Alter ∷ plain kind.Table ∷ name n ∷ plain kind.Add ∷ table_constraint_words c
