-- Statements: which words are which statement.
use Rattle.std.specs.Prelude.{◌≡◌, List, [], ◌∷◌, ◌++◌}
use Rattle.iv_lex.specs.declared.kind.TokenKind.TheVariants as kind
use Rattle.iv_lex.specs.Words.{Word, name, plain}
use Rattle.iv_parse.specs.Types.{Statement, ConstraintList}
use Rattle.iv_parse.specs.Types.statement.{DropTrigger, StartTransaction, Commit, Rollback, Savepoint, Release, RollbackTo, SetConstraints}
use Rattle.iv_parse.specs.Types.statement
use Rattle.iv_parse.specs.Types.constraints.{All, Named}
use Rattle.iv_parse_data.specs.Series.{Optional}
use Rattle.iv_parse.specs.Triggers.{IsTrigger}
use Rattle.iv_parse_data.specs.Tables.{mode_kind, IsCreateTable, IsAlterTable}
use Rattle.iv_parse_data.specs.Data.{Names, IsInsert, IsUpdate, IsDelete, IsSelect}

-- ALL | names
abbrev pub IsConstraintList : List Word → ConstraintList → Type 0
IsConstraintList ws All = ws ≡ plain kind.All ∷ []
IsConstraintList ws (Named ns) = Names ws ns

-- the words, without the semicolon, are the statement
abbrev pub Reads : List Word → Statement → Type 0
Reads ws (statement.CreateTable n es) = IsCreateTable ws n es
Reads ws (statement.AlterTable n c) = IsAlterTable ws n c
Reads ws (statement.CreateTrigger t) = IsTrigger ws t
Reads ws (statement.Insert i) = IsInsert ws i
Reads ws (statement.Update u) = IsUpdate ws u
Reads ws (statement.Delete d) = IsDelete ws d
Reads ws (statement.Select s) = IsSelect ws s
Reads ws (DropTrigger n) = ws ≡ plain kind.Drop ∷ plain kind.Trigger ∷ name n ∷ []
Reads ws StartTransaction = ws ≡ plain kind.Start ∷ plain kind.Transaction ∷ []
Reads ws Commit = (work : List Word) × Optional kind.Work work × (ws ≡ plain kind.Commit ∷ work)
Reads ws Rollback = (work : List Word) × Optional kind.Work work × (ws ≡ plain kind.Rollback ∷ work)
Reads ws (RollbackTo n) =
    (work : List Word) × Optional kind.Work work × (ws ≡ plain kind.Rollback ∷ (work ++ plain kind.To ∷ plain kind.Savepoint ∷ name n ∷ []))
Reads ws (Savepoint n) = ws ≡ plain kind.Savepoint ∷ name n ∷ []
Reads ws (Release n) = ws ≡ plain kind.Release ∷ plain kind.Savepoint ∷ name n ∷ []
Reads ws (SetConstraints l m) =
    (list : List Word) × IsConstraintList list l × (ws ≡ plain kind.Set ∷ plain kind.Constraints ∷ (list ++ plain (mode_kind m) ∷ []))
