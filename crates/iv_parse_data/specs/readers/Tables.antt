-- The parts of CREATE TABLE and ALTER TABLE as they are found at the front of words.
use Rattle.std.specs.Prelude.{ℕ, Bool, true, false, Option, Some, None, List}
use Rattle.iv_lex.specs.declared.kind.TokenKind.{TokenKind}
use Rattle.iv_lex.specs.declared.kind.TokenKind.TheVariants as kind
use Rattle.iv_lex.specs.Words.{Word}
use Rattle.iv_parse_data.specs.Types.{ConstraintMode, Statement, Literal, ColumnType, ConstraintTime, MatchType, NullTreatment, ReferentialAction, References, ColumnRule, ColumnConstraint, TableRule, TableConstraint, ColumnDefinition, TableElement}
use Rattle.iv_parse_data.specs.Types.mode.{Immediate, Deferred}
use Rattle.iv_parse_data.specs.Types.statement
use Rattle.iv_parse_data.specs.Types.literal
use Rattle.iv_parse_data.specs.Types.type.{Integer, Varchar}
use Rattle.iv_parse_data.specs.Types.matching.{Simple, Full}
use Rattle.iv_parse_data.specs.Types.nulls.{Distinct, NotDistinct}
use Rattle.iv_parse_data.specs.Types.referential_action.{NoAction, Restrict, Cascade, SetNull, SetDefault}
use Rattle.iv_parse_data.specs.Types.column_rule
use Rattle.iv_parse_data.specs.Types.table_rule
use Rattle.iv_parse_data.specs.Types.element.{Column, Constraint}
use Rattle.iv_parse_terms.specs.After.{after, after_name, after_number, after_quoted, if_some, then_read}
use Rattle.iv_parse_terms.specs.readers.Expressions.{after_sign}
use Rattle.iv_parse_data.specs.readers.Series.{give, read_as, read_optional, read_series, read_enclosed, read_all, read_either_order}
use Rattle.iv_parse_data.specs.readers.Data.{FoundPart, then_word, read_name, read_column_list, read_check}

-- after the words for VARCHAR
unfoldable pub read_length : List Word → FoundPart ColumnType
read_length ws =
    then_word kind.LeftParenthesis ws (λ a. then_read (after_number a) (λ n b. then_word kind.RightParenthesis b (give (Varchar n))))

abbrev pub read_varying : List Word → FoundPart ColumnType
read_varying ws = then_word kind.Varying ws read_length

unfoldable pub read_type : List Word → FoundPart ColumnType
read_type ws =
    if_some (after kind.Integer ws) (give Integer)
    (if_some (after kind.Int ws) (give Integer)
    (if_some (after kind.Varchar ws) read_length
    (if_some (after kind.Character ws) read_varying (then_word kind.Char ws read_varying))))

unfoldable pub read_literal : List Word → FoundPart Literal
read_literal ws =
    if_some (after_sign ws) (λ p. read_as (literal.Number (Some p.0)) after_number p.1)
    (if_some (after_number ws) (λ p. Some (literal.Number None p.0, p.1))
    (if_some (after_quoted ws) (λ p. Some (literal.Text p.0, p.1)) (then_word kind.Null ws (give literal.Null))))

abbrev pub read_default : List Word → FoundPart (Option Literal)
read_default = read_optional kind.Default read_literal

abbrev pub read_constraint_name : List Word → FoundPart (Option (List ℕ))
read_constraint_name = read_optional kind.Constraint read_name

-- NOT is looked at with the word after it
unfoldable pub read_deferrable : List Word → FoundPart (Option Bool)
read_deferrable ws =
    if_some (after kind.Deferrable ws) (give (Some true))
    (if_some (after kind.Not ws) (λ rest. if_some (after kind.Deferrable rest) (give (Some false)) (Some (None, ws))) (Some (None, ws)))

unfoldable pub read_mode : List Word → FoundPart ConstraintMode
read_mode ws = if_some (after kind.Deferred ws) (give Deferred) (then_word kind.Immediate ws (give Immediate))

abbrev pub read_initially : List Word → FoundPart (Option ConstraintMode)
read_initially = read_optional kind.Initially read_mode

unfoldable pub read_time : List Word → FoundPart ConstraintTime
read_time = read_as (λ p. record { deferrable = p.0; initially = p.1 }) (read_either_order read_deferrable read_initially)

unfoldable pub read_match_type : List Word → FoundPart MatchType
read_match_type ws = if_some (after kind.Simple ws) (give Simple) (then_word kind.Full ws (give Full))

unfoldable pub read_referential_action : List Word → FoundPart ReferentialAction
read_referential_action ws =
    if_some (after kind.Cascade ws) (give Cascade)
    (if_some (after kind.Set ws) (λ a. if_some (after kind.Null a) (give SetNull) (then_word kind.Default a (give SetDefault)))
    (if_some (after kind.No ws) (λ a. then_word kind.Action a (give NoAction)) (then_word kind.Restrict ws (give Restrict))))

-- ON is looked at with the word after it
unfoldable pub read_on : TokenKind → List Word → FoundPart (Option ReferentialAction)
read_on event ws =
    if_some (after kind.On ws) (λ rest. if_some (after event rest) (read_as Some read_referential_action) (Some (None, ws))) (Some (None, ws))

unfoldable pub read_actions : List Word → FoundPart (Option ReferentialAction × Option ReferentialAction)
read_actions = read_either_order (read_on kind.Delete) (read_on kind.Update)

abbrev pub read_match : List Word → FoundPart (Option MatchType)
read_match = read_optional kind.Match read_match_type

-- after REFERENCES
unfoldable pub read_references : List Word → FoundPart References
read_references ws =
    then_read (read_name ws) (λ t a. then_read (read_column_list a) (λ cs b. then_read (read_match b) (λ m.
    read_as (λ p. record { table = t; columns = cs; matching = m; on_delete = p.0; on_update = p.1 }) read_actions)))

-- NULLS NOT DISTINCT, where it is written
unfoldable pub read_null_treatment : List Word → FoundPart NullTreatment
read_null_treatment ws =
    if_some (after kind.Nulls ws) (λ a. then_word kind.Not a (λ b. then_word kind.Distinct b (give NotDistinct))) (Some (Distinct, ws))

-- the rule of a column, where one begins
unfoldable pub read_column_rule : List Word → FoundPart (Option ColumnRule)
read_column_rule ws =
    if_some (after kind.References ws) (read_as (λ r. Some (column_rule.References r)) read_references)
    (if_some (after kind.Check ws) (read_as (λ c. Some (column_rule.Check c)) read_check)
    (if_some (after kind.Not ws) (λ a. then_word kind.Null a (give (Some column_rule.NotNull)))
    (if_some (after kind.Unique ws) (read_as (λ nulls. Some (column_rule.Unique nulls)) read_null_treatment)
    (if_some (after kind.Primary ws) (λ a. then_word kind.Key a (give (Some column_rule.PrimaryKey))) (Some (None, ws))))))

abbrev pub column_constraint_of : Option (List ℕ) → Option ColumnRule → List Word → FoundPart (Option ColumnConstraint)
column_constraint_of n (Some r) ws = read_as (λ t. Some (record { name = n; rule = r; time = t })) read_time ws
column_constraint_of None None ws = Some (None, ws)
column_constraint_of (Some n) None ws = None

-- the constraint of a column, where one begins
unfoldable pub read_column_constraint : List Word → FoundPart (Option ColumnConstraint)
read_column_constraint ws = then_read (read_constraint_name ws) (λ n a. then_read (read_column_rule a) (column_constraint_of n))

abbrev pub read_column_constraints : List Word → FoundPart (List ColumnConstraint)
read_column_constraints = read_all read_column_constraint

-- a column, after its name
unfoldable pub read_column : List ℕ → List Word → FoundPart ColumnDefinition
read_column n ws =
    then_read (read_type ws) (λ k a. then_read (read_default a) (λ d.
    read_as (λ cs. record { name = n; kind = k; default = d; constraints = cs }) read_column_constraints))

abbrev pub read_key : List Word → FoundPart (List (List ℕ))
read_key = read_enclosed (read_series read_name)

-- after FOREIGN
unfoldable pub read_foreign_key : List Word → FoundPart TableRule
read_foreign_key ws =
    then_word kind.Key ws (λ a. then_read (read_key a) (λ ns b. then_word kind.References b (read_as (table_rule.ForeignKey ns) read_references)))

unfoldable pub read_table_rule : List Word → FoundPart TableRule
read_table_rule ws =
    if_some (after kind.Primary ws) (λ a. then_word kind.Key a (read_as table_rule.PrimaryKey read_key))
    (if_some (after kind.Foreign ws) read_foreign_key
    (if_some (after kind.Unique ws) (λ a. then_read (read_null_treatment a) (λ nulls. read_as (table_rule.Unique nulls) read_key))
    (then_word kind.Check ws (read_as table_rule.Check read_check))))

unfoldable pub read_table_constraint : List Word → FoundPart TableConstraint
read_table_constraint ws =
    then_read (read_constraint_name ws) (λ n a. then_read (read_table_rule a) (λ r. read_as (λ t. record { name = n; rule = r; time = t }) read_time))

unfoldable pub read_element : List Word → FoundPart TableElement
read_element ws = if_some (after_name ws) (λ p. read_as Column (read_column p.0) p.1) (read_as Constraint read_table_constraint ws)

abbrev pub read_elements : List Word → FoundPart (List TableElement)
read_elements = read_enclosed (read_series read_element)

-- after CREATE TABLE
unfoldable pub read_create_table : List Word → FoundPart Statement
read_create_table ws = then_read (read_name ws) (λ n. read_as (statement.CreateTable n) read_elements)

-- after ALTER
unfoldable pub read_alter : List Word → FoundPart Statement
read_alter ws =
    then_word kind.Table ws (λ a. then_read (read_name a) (λ n b. then_word kind.Add b (read_as (statement.AlterTable n) read_table_constraint)))
