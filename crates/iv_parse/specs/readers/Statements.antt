-- Statements as they are found at the front of words, with one word of look-ahead.
use Rattle.std.specs.Prelude.{Some, List}
use Rattle.iv_lex.specs.declared.kind.TokenKind.TheVariants as kind
use Rattle.iv_lex.specs.Words.{Word}
use Rattle.iv_parse.specs.Types.{Statement, ConstraintList}
use Rattle.iv_parse.specs.Types.statement.{DropTrigger, StartTransaction, Commit, Rollback, Savepoint, Release, RollbackTo, SetConstraints}
use Rattle.iv_parse.specs.Types.statement
use Rattle.iv_parse.specs.Types.constraints.{All, Named}
use Rattle.iv_parse_terms.specs.After.{after, if_some, then_read}
use Rattle.iv_parse_data.specs.readers.Series.{give, read_as, read_series, skip}
use Rattle.iv_parse.specs.readers.Triggers.{read_trigger}
use Rattle.iv_parse_data.specs.readers.Tables.{read_mode, read_create_table, read_alter}
use Rattle.iv_parse_data.specs.readers.Data.{FoundPart, then_word, read_name, read_insert, read_update, read_delete, read_select}

unfoldable pub read_rollback : List Word → FoundPart Statement
read_rollback ws =
    if_some (after kind.To (skip kind.Work ws)) (λ a. then_word kind.Savepoint a (read_as RollbackTo read_name)) (Some (Rollback, skip kind.Work ws))

abbrev pub read_list : List Word → FoundPart ConstraintList
read_list ws = if_some (after kind.All ws) (give All) (read_as Named (read_series read_name) ws)

-- after SET
unfoldable pub read_set : List Word → FoundPart Statement
read_set ws = then_word kind.Constraints ws (λ a. then_read (read_list a) (λ l. read_as (SetConstraints l) read_mode))

-- the statements about transactions, savepoints and constraint modes
unfoldable pub read_session_rule : List Word → FoundPart Statement
read_session_rule ws =
    if_some (after kind.Commit ws) (λ a. Some (Commit, skip kind.Work a))
    (if_some (after kind.Rollback ws) read_rollback
    (if_some (after kind.Start ws) (λ a. then_word kind.Transaction a (give StartTransaction))
    (if_some (after kind.Savepoint ws) (read_as Savepoint read_name)
    (if_some (after kind.Release ws) (λ a. then_word kind.Savepoint a (read_as Release read_name)) (then_word kind.Set ws read_set)))))

unfoldable pub read_definition_rule : List Word → FoundPart Statement
read_definition_rule ws =
    if_some (after kind.Create ws)
    (λ a. if_some (after kind.Table a) read_create_table (then_word kind.Trigger a (read_as statement.CreateTrigger read_trigger)))
    (if_some (after kind.Alter ws) read_alter
    (if_some (after kind.Drop ws) (λ a. then_word kind.Trigger a (read_as DropTrigger read_name)) (read_session_rule ws)))

-- a statement without its semicolon
unfoldable pub read_rule : List Word → FoundPart Statement
read_rule ws =
    if_some (after kind.Insert ws) (read_as statement.Insert read_insert)
    (if_some (after kind.Update ws) (read_as statement.Update read_update)
    (if_some (after kind.Delete ws) (read_as statement.Delete read_delete)
    (if_some (after kind.Select ws) (read_as statement.Select read_select) (read_definition_rule ws))))

-- a statement with its semicolon
unfoldable pub read_statement : List Word → FoundPart Statement
read_statement ws = then_read (read_rule ws) (λ s a. then_word kind.Semicolon a (give s))
