-- The words of statements and scripts. WORK is left out.
use Rattle.std.specs.Prelude.{List, [], ◌∷◌, ◌++◌}
use Rattle.iv_lex.specs.declared.kind.TokenKind.TheVariants as kind
use Rattle.iv_lex.specs.Words.{Word, name, plain}
use Rattle.iv_write.specs.Types.{Statement, ConstraintList}
use Rattle.iv_write.specs.Types.statement.{DropTrigger, StartTransaction, Commit, Rollback, Savepoint, Release, RollbackTo, SetConstraints}
use Rattle.iv_write.specs.Types.statement
use Rattle.iv_write.specs.Types.constraints.{All, Named}
use Rattle.iv_parse_data.specs.Tables.{mode_kind}
use Rattle.iv_write.specs.Parts.{sequence_words}
use Rattle.iv_write.specs.Data.{names_words, insert_words, update_words, delete_words, select_words}
use Rattle.iv_write.specs.Tables.{create_table_words, alter_table_words}
use Rattle.iv_write.specs.Triggers.{trigger_words}

abbrev pub constraint_list_words : ConstraintList → List Word
constraint_list_words All = plain kind.All ∷ []
constraint_list_words (Named ns) = names_words ns

-- without its semicolon
abbrev pub statement_words : Statement → List Word
statement_words (statement.CreateTable n es) = create_table_words n es
statement_words (statement.AlterTable n c) = alter_table_words n c
statement_words (statement.CreateTrigger t) = trigger_words t
statement_words (statement.Insert i) = insert_words i
statement_words (statement.Update u) = update_words u
statement_words (statement.Delete d) = delete_words d
statement_words (statement.Select s) = select_words s
statement_words (DropTrigger n) = plain kind.Drop ∷ plain kind.Trigger ∷ name n ∷ []
statement_words StartTransaction = plain kind.Start ∷ plain kind.Transaction ∷ []
statement_words Commit = plain kind.Commit ∷ []
statement_words Rollback = plain kind.Rollback ∷ []
statement_words (RollbackTo n) = plain kind.Rollback ∷ plain kind.To ∷ plain kind.Savepoint ∷ name n ∷ []
statement_words (Savepoint n) = plain kind.Savepoint ∷ name n ∷ []
statement_words (Release n) = plain kind.Release ∷ plain kind.Savepoint ∷ name n ∷ []
statement_words (SetConstraints l m) = plain kind.Set ∷ plain kind.Constraints ∷ (constraint_list_words l ++ plain (mode_kind m) ∷ [])

-- with it
abbrev pub whole_words : Statement → List Word
whole_words s = statement_words s ++ plain kind.Semicolon ∷ []

abbrev pub script_words : List Statement → List Word
script_words = sequence_words whole_words
