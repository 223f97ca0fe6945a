-- Parts of readers, named for proofs.
use Rattle.std.specs.Prelude.{ℕ, Option, Some, None, List}
use Rattle.iv_lex.specs.declared.kind.TokenKind.TheVariants as kind
use Rattle.iv_lex.specs.Words.{Word}
use Rattle.iv_parse_data.specs.Types.{InsertSource, Insert, Update, Select}
use Rattle.iv_parse_data.specs.Types.given.{Default}
use Rattle.iv_parse_data.specs.Types.source
use Rattle.iv_parse_data.specs.Types.insert.{DefaultValues, Rows}
use Rattle.iv_parse_data.specs.Types.select
use Rattle.iv_parse_terms.specs.After.{after, if_some, then_read}
use Rattle.iv_parse_data.specs.readers.Series.{read_series}
use Rattle.std.specs.Prelude.{[], ◌∷◌}
use Rattle.iv_parse_data.specs.Types.{ColumnType, ReferentialAction, References, ColumnRule, TableRule, TableElement}
use Rattle.iv_parse_data.specs.Types.type.{Varchar}
use Rattle.iv_parse_data.specs.Types.referential_action.{NoAction, Restrict, SetNull, SetDefault}
use Rattle.iv_parse_data.specs.Types.column_rule
use Rattle.iv_parse_data.specs.Types.table_rule
use Rattle.iv_parse_data.specs.Types.element.{Column}
use Rattle.iv_parse_terms.specs.After.{after_number, after_quoted}
use Rattle.iv_parse_data.specs.readers.Data.{FoundPart, then_word, read_column_list, read_check}
use Rattle.iv_parse_data.specs.readers.Data.{read_assignment, read_select_list, read_shallow_from, read_source, read_where}
use Rattle.iv_parse_data.specs.readers.Tables.{read_actions, read_column, read_key, read_length, read_match, read_null_treatment, read_varying}

-- after SELECT
abbrev pub read_select_source : List Word → FoundPart InsertSource
read_select_source ws =
    then_read (read_select_list ws) (λ l rest. then_read (read_shallow_from rest) (λ p more. Some (source.Select l p.0 p.1, more)))

abbrev pub read_insert_rows : List ℕ → List Word → FoundPart Insert
read_insert_rows t ws =
    then_read (read_column_list ws) (λ cs rest. then_read (read_source rest) (λ s more. Some (Rows t cs s, more)))

-- after DEFAULT
abbrev pub read_default_values : List ℕ → List Word → FoundPart Insert
read_default_values t ws = then_word kind.Values ws (λ more. Some (DefaultValues t, more))

abbrev pub read_insert_into : List ℕ → List Word → FoundPart Insert
read_insert_into t ws =
    if_some (after kind.Default ws) (read_default_values t) (read_insert_rows t ws)

abbrev pub read_assignments : List ℕ → List Word → FoundPart Update
read_assignments t ws =
    then_read (read_series read_assignment ws) (λ list rest. then_read (read_where rest) (λ c more. Some (record { table = t; assignments = list; filter = c }, more)))

-- after COUNT ( *, and after COUNT (
abbrev pub read_counted : List Word → FoundPart Select
read_counted ws = then_word kind.RightParenthesis ws (λ rest. then_read (read_shallow_from rest) (λ p more. Some (select.Count p.0 p.1, more)))

abbrev pub read_star : List Word → FoundPart Select
read_star ws = then_word kind.Asterisk ws read_counted

-- after COUNT
abbrev pub read_count : List Word → FoundPart Select
read_count ws = then_word kind.LeftParenthesis ws read_star

abbrev pub read_query : List Word → FoundPart Select
read_query ws =
    then_read (read_select_list ws) (λ l rest. then_read (read_shallow_from rest) (λ p more. Some (select.Rows l p.0 p.1, more)))

abbrev pub read_number : List Word → FoundPart ℕ
read_number = after_number

abbrev pub read_quoted : List Word → FoundPart (List ℕ)
read_quoted = after_quoted

abbrev pub read_character : List Word → FoundPart ColumnType
read_character ws =
    if_some (after kind.Character ws) read_varying
    (if_some (after kind.Char ws) read_varying None)

abbrev pub read_varchar : List Word → FoundPart ColumnType
read_varchar ws = if_some (after kind.Varchar ws) read_length (read_character ws)

-- after SET
abbrev pub read_set_action : List Word → FoundPart ReferentialAction
read_set_action ws =
    if_some (after kind.Null ws) (λ rest. Some (SetNull, rest))
    (if_some (after kind.Default ws) (λ rest. Some (SetDefault, rest)) None)

-- after NO
abbrev pub read_no_action : List Word → FoundPart ReferentialAction
read_no_action ws = then_word kind.Action ws (λ more. Some (NoAction, more))

abbrev pub read_strict_action : List Word → FoundPart ReferentialAction
read_strict_action ws =
    if_some (after kind.No ws) read_no_action
    (if_some (after kind.Restrict ws) (λ rest. Some (Restrict, rest)) None)

-- from the columns on
abbrev pub read_reference_columns : List ℕ → List Word → FoundPart References
read_reference_columns t ws =
    then_read (read_column_list ws) (λ cs rest. then_read (read_match rest) (λ m more. then_read (read_actions more)
    (λ p left. Some (record { table = t; columns = cs; matching = m; on_delete = p.0; on_update = p.1 }, left))))

-- after NOT
abbrev pub read_null_rule : List Word → FoundPart (Option ColumnRule)
read_null_rule ws = then_word kind.Null ws (λ rest. Some (Some column_rule.NotNull, rest))

-- after PRIMARY
abbrev pub read_key_rule : List Word → FoundPart (Option ColumnRule)
read_key_rule ws = then_word kind.Key ws (λ more. Some (Some column_rule.PrimaryKey, more))

abbrev pub read_primary_rule : List Word → FoundPart (Option ColumnRule)
read_primary_rule ws = if_some (after kind.Primary ws) read_key_rule (Some (None, ws))

-- after UNIQUE
abbrev pub read_unique_column : List Word → FoundPart (Option ColumnRule)
read_unique_column ws = then_read (read_null_treatment ws) (λ nulls rest. Some (Some (column_rule.Unique nulls), rest))

-- a rule that begins with NOT, UNIQUE or PRIMARY
abbrev pub read_plain_rule : List Word → FoundPart (Option ColumnRule)
read_plain_rule ws =
    if_some (after kind.Not ws) read_null_rule
    (if_some (after kind.Unique ws) read_unique_column
    (read_primary_rule ws))

abbrev pub read_condition_rule : List Word → FoundPart (Option ColumnRule)
read_condition_rule ws =
    if_some (after kind.Check ws) (λ rest. then_read (read_check rest) (λ c more. Some (Some (column_rule.Check c), more)))
    (read_plain_rule ws)

abbrev pub read_primary_key : List Word → FoundPart TableRule
read_primary_key ws = then_word kind.Key ws (λ rest. then_read (read_key rest) (λ ns more. Some (table_rule.PrimaryKey ns, more)))

abbrev pub read_check_rule : List Word → FoundPart TableRule
read_check_rule ws = then_word kind.Check ws (λ rest. then_read (read_check rest) (λ c more. Some (table_rule.Check c, more)))

-- after UNIQUE
abbrev pub read_unique_key : List Word → FoundPart TableRule
read_unique_key ws =
    then_read (read_null_treatment ws) (λ nulls rest. then_read (read_key rest) (λ ns more. Some (table_rule.Unique nulls ns, more)))

abbrev pub read_unique_rule : List Word → FoundPart TableRule
read_unique_rule ws = if_some (after kind.Unique ws) read_unique_key (read_check_rule ws)

abbrev pub read_column_element : List ℕ → List Word → FoundPart TableElement
read_column_element n ws = then_read (read_column n ws) (λ c rest. Some (Column c, rest))
