-- Parts of readers, named for proofs.
use Rattle.std.specs.Prelude.{◌≡◌, Bool, true, false, Some, List}
use Rattle.std.proofs.Common.{sym, ◌∙◌, ap}
use Rattle.iv_lex.specs.declared.kind.TokenKind.{TokenKind}
use Rattle.iv_lex.specs.declared.kind.TokenKind.TheVariants as kind
use Rattle.iv_lex.specs.Words.{Word}
use Rattle.iv_parse.specs.Types.{Statement}
use Rattle.iv_parse.specs.Types.statement.{DropTrigger, StartTransaction, Commit, Rollback, Savepoint, Release, RollbackTo}
use Rattle.iv_parse.specs.Types.statement
use Rattle.iv_parse_terms.specs.After.{after, if_some, then_read}
use Rattle.iv_parse_terms.specs.Reading.{Found}
use Rattle.iv_parse_data.specs.readers.Series.{skip}
use Rattle.iv_parse_data.specs.readers.Tables.{read_create_table}
use Rattle.iv_parse_data.specs.readers.Data.{FoundPart, then_word, read_name, read_insert, read_update, read_delete, read_select}
use Rattle.std.specs.Prelude.{ℕ, None, [], ◌∷◌}
use Rattle.iv_parse.specs.Types.{ActionTime, TriggerEvent, Granularity, TriggerAction, TriggerDefinition}
use Rattle.iv_parse.specs.Types.event
use Rattle.iv_parse.specs.Types.granularity
use Rattle.iv_parse.specs.Types.action
use Rattle.iv_parse_data.specs.readers.Series.{read_all}
use Rattle.iv_parse_data.specs.readers.Data.{read_shallow}
use Rattle.iv_parse_data.proofs.Readers.{read_quoted}
use Rattle.iv_parse.specs.readers.Statements.{read_set}
use Rattle.iv_parse.specs.readers.Triggers.{read_action, read_body, read_ended_action, read_middle, read_set_action, read_update_columns, some_actions, trigger_of, read_trigger}

abbrev pub read_drop : List Word → FoundPart Statement
read_drop ws = then_word kind.Trigger ws (λ rest. then_read (read_name rest) (λ n more. Some (DropTrigger n, more)))

abbrev pub read_start : List Word → FoundPart Statement
read_start ws = then_word kind.Transaction ws (λ rest. Some (StartTransaction, rest))

abbrev pub read_commit : List Word → FoundPart Statement
read_commit ws = Some (Commit, skip kind.Work ws)

abbrev pub read_to : List Word → FoundPart Statement
read_to ws = then_word kind.Savepoint ws (λ rest. then_read (read_name rest) (λ n more. Some (RollbackTo n, more)))

abbrev pub read_rollback_rest : List Word → FoundPart Statement
read_rollback_rest ws = if_some (after kind.To ws) read_to (Some (Rollback, ws))

abbrev pub read_savepoint : List Word → FoundPart Statement
read_savepoint ws = then_read (read_name ws) (λ n rest. Some (Savepoint n, rest))

abbrev pub read_release : List Word → FoundPart Statement
read_release ws = then_word kind.Savepoint ws (λ rest. then_read (read_name rest) (λ n more. Some (Release n, more)))

abbrev pub read_mode_rule : List Word → FoundPart Statement
read_mode_rule ws = then_word kind.Set ws read_set

abbrev pub read_savepoint_rule : List Word → FoundPart Statement
read_savepoint_rule ws =
    if_some (after kind.Savepoint ws) read_savepoint
    (if_some (after kind.Release ws) read_release
    (read_mode_rule ws))

abbrev pub read_insert_rule : List Word → FoundPart Statement
read_insert_rule ws = then_read (read_insert ws) (λ i rest. Some (statement.Insert i, rest))

abbrev pub read_update_rule : List Word → FoundPart Statement
read_update_rule ws = then_read (read_update ws) (λ u rest. Some (statement.Update u, rest))

abbrev pub read_delete_rule : List Word → FoundPart Statement
read_delete_rule ws = then_read (read_delete ws) (λ d rest. Some (statement.Delete d, rest))

abbrev pub read_select_rule : List Word → FoundPart Statement
read_select_rule ws = then_read (read_select ws) (λ s rest. Some (statement.Select s, rest))

-- after CREATE
abbrev pub read_create : List Word → FoundPart Statement
read_create ws =
    if_some (after kind.Table ws) read_create_table (then_word kind.Trigger ws (λ rest. then_read (read_trigger rest) (λ t more. Some (statement.CreateTrigger t, more))))

-- after FOR EACH
abbrev pub read_each : List Word → FoundPart Granularity
read_each ws =
    if_some (after kind.Row ws) (λ rest. Some (granularity.Row, rest))
    (if_some (after kind.Statement ws) (λ rest. Some (granularity.Statement, rest)) None)

-- SET of a column, from the equals sign on, from the period on, and after SET
abbrev pub read_set_value : List ℕ → List ℕ → List Word → FoundPart TriggerAction
read_set_value r c ws = then_word kind.Equals ws (λ rest. then_read (read_shallow rest) (λ e more. Some (action.Set r c e, more)))

abbrev pub read_set_column : List ℕ → List Word → FoundPart TriggerAction
read_set_column r ws = then_word kind.Period ws (λ b. then_read (read_name b) (read_set_value r))

abbrev pub read_signal : List Word → FoundPart TriggerAction
read_signal ws = then_read (read_quoted ws) (λ t rest. Some (action.Signal t, rest))

abbrev pub read_other_action : List Word → FoundPart TriggerAction
read_other_action ws = if_some (after kind.Signal ws) read_signal (then_word kind.Set ws read_set_action)

abbrev pub read_delete_action : List Word → FoundPart TriggerAction
read_delete_action ws = if_some (after kind.Delete ws) (λ rest. then_read (read_delete rest) (λ d more. Some (action.Delete d, more))) (read_other_action ws)

-- after BEGIN
abbrev pub read_block : List Word → FoundPart (List TriggerAction)
read_block ws = then_word kind.Atomic ws (λ rest. then_read (read_all read_ended_action rest) some_actions)

abbrev pub read_single : List Word → FoundPart (List TriggerAction)
read_single ws = then_read (read_action ws) (λ a rest. Some (a ∷ [], rest))

-- after UPDATE
abbrev pub read_update_event : List Word → FoundPart (TriggerEvent × List (List ℕ))
read_update_event ws = then_read (read_update_columns ws) (λ ns rest. Some ((event.Update, ns), rest))

abbrev pub read_delete_event : List Word → FoundPart (TriggerEvent × List (List ℕ))
read_delete_event ws = then_word kind.Delete ws (λ rest. Some ((event.Delete, []), rest))

abbrev pub read_other_event : List Word → FoundPart (TriggerEvent × List (List ℕ))
read_other_event ws = if_some (after kind.Update ws) read_update_event (read_delete_event ws)

-- from what follows the table on
abbrev pub read_trigger_rest : List ℕ → ActionTime × TriggerEvent × List (List ℕ) → List ℕ → List Word
    → FoundPart TriggerDefinition
read_trigger_rest n o table ws =
    then_read (read_middle ws) (λ m a. then_read (read_body a) (λ body rest. Some (trigger_of n o table m body, rest)))

-- what is left after a word that may be left out
pub skipped : (k : TokenKind) (ws rest : List Word) (b : Bool) → Found (after k ws) ws b rest → skip k ws ≡ rest
skipped k ws rest true h = ap (λ o. if_some o (λ r. r) ws) h
skipped k ws rest false h = ap (λ o. if_some o (λ r. r) ws) h.0 ∙ sym h.1
