-- What is in the grammar of statements about transactions, savepoints and constraint modes is read.
use Rattle.std.proofs.Common.{◌≡◌, inl, inr, ℕ, Some, None, List, [], ◌∷◌, ◌++◌, refl, ◌∙◌, ap, append_assoc}
use Rattle.iv_lex.specs.declared.kind.TokenKind.TheVariants as kind
use Rattle.iv_lex.specs.Words.{Word, name, plain}
use Rattle.iv_parse.specs.Types.{Statement, ConstraintList}
use Rattle.iv_parse.specs.Types.statement.{DropTrigger, StartTransaction, Commit, Rollback, Savepoint, Release, RollbackTo, SetConstraints}
use Rattle.iv_parse.specs.Types.constraints.{All, Named}
use Rattle.iv_syntax.specs.declared.statement.ConstraintMode.{ConstraintMode}
use Rattle.iv_syntax.specs.declared.statement.ConstraintMode.TheVariants.{Immediate, Deferred}
use Rattle.iv_parse_terms.specs.After.{after, if_some, then_read}
use Rattle.iv_parse_data.specs.Series.{Optional}
use Rattle.iv_parse_data.specs.readers.Series.{read_series}
use Rattle.iv_parse_data.specs.Data.{Names}
use Rattle.iv_parse_data.specs.readers.Data.{FoundPart, read_name}
use Rattle.iv_parse_data.specs.Tables.{mode_kind}
use Rattle.iv_parse_data.specs.readers.Tables.{read_mode}
use Rattle.iv_parse.specs.Statements.{IsConstraintList}
use Rattle.iv_parse.specs.readers.Statements.{read_rollback, read_list, read_set, read_session_rule}
use Rattle.iv_parse_data.proofs.DataComplete.{names_complete}
use Rattle.iv_parse.proofs.Readers.{read_drop, read_start, read_commit, read_to, read_savepoint, read_release, read_savepoint_rule}

-- a rule reads these words of a statement, and leaves the semicolon
abbrev pub Reads_to_end : (List Word → FoundPart Statement) → List Word → Statement → Type 0
Reads_to_end rule front s = (rest : List Word) → rule (front ++ plain kind.Semicolon ∷ rest) ≡ Some (s, plain kind.Semicolon ∷ rest)

pub drop_complete : (n : List ℕ) → Reads_to_end (λ ws. if_some (after kind.Drop ws) read_drop None) (plain kind.Drop ∷ plain kind.Trigger ∷ name n ∷ []) (DropTrigger n)
drop_complete n rest = refl

pub start_complete : Reads_to_end read_session_rule (plain kind.Start ∷ plain kind.Transaction ∷ []) StartTransaction
unfolding read_session_rule
start_complete rest = refl

pub commit_complete : (work : List Word) → Optional kind.Work work → Reads_to_end read_session_rule (plain kind.Commit ∷ work) Commit
unfolding read_session_rule
commit_complete work (inl e) rest = ap (λ z. read_session_rule (plain kind.Commit ∷ (z ++ plain kind.Semicolon ∷ rest))) e
commit_complete work (inr e) rest = ap (λ z. read_session_rule (plain kind.Commit ∷ (z ++ plain kind.Semicolon ∷ rest))) e

pub rollback_complete : (work : List Word) → Optional kind.Work work → Reads_to_end read_session_rule (plain kind.Rollback ∷ work) Rollback
unfolding read_session_rule read_rollback
rollback_complete work (inl e) rest = ap (λ z. read_session_rule (plain kind.Rollback ∷ (z ++ plain kind.Semicolon ∷ rest))) e
rollback_complete work (inr e) rest = ap (λ z. read_session_rule (plain kind.Rollback ∷ (z ++ plain kind.Semicolon ∷ rest))) e

pub to_complete : (n : List ℕ) (work : List Word) → Optional kind.Work work
    → Reads_to_end read_session_rule (plain kind.Rollback ∷ (work ++ plain kind.To ∷ plain kind.Savepoint ∷ name n ∷ [])) (RollbackTo n)
unfolding read_session_rule read_rollback
to_complete n work (inl e) rest = ap (λ z. read_session_rule (plain kind.Rollback ∷ ((z ++ plain kind.To ∷ plain kind.Savepoint ∷ name n ∷ []) ++ plain kind.Semicolon ∷ rest))) e
to_complete n work (inr e) rest = ap (λ z. read_session_rule (plain kind.Rollback ∷ ((z ++ plain kind.To ∷ plain kind.Savepoint ∷ name n ∷ []) ++ plain kind.Semicolon ∷ rest))) e

pub savepoint_complete : (n : List ℕ) → Reads_to_end read_session_rule (plain kind.Savepoint ∷ name n ∷ []) (Savepoint n)
unfolding read_session_rule
savepoint_complete n rest = refl

pub release_complete : (n : List ℕ) → Reads_to_end read_session_rule (plain kind.Release ∷ plain kind.Savepoint ∷ name n ∷ []) (Release n)
unfolding read_session_rule
release_complete n rest = refl

mode_complete : (m : ConstraintMode) (rest : List Word) → read_mode (plain (mode_kind m) ∷ rest) ≡ Some (m, rest)
unfolding read_mode
mode_complete Immediate rest = refl
mode_complete Deferred rest = refl

no_comma : (m : ConstraintMode) (rest : List Word) → after kind.Comma (plain (mode_kind m) ∷ rest) ≡ None
no_comma Immediate rest = refl
no_comma Deferred rest = refl

-- names don't begin with ALL
names_begin : (ns : List (List ℕ)) (front rest : List Word) → Names front ns → after kind.All (front ++ rest) ≡ None
names_begin [] front rest p = absurd p
names_begin (n ∷ ns) front rest (f, g, p, m, w) = ap (λ z. after kind.All (z ++ rest)) w ∙ ap (λ z. after kind.All ((z ++ g) ++ rest)) p

list_complete : (l : ConstraintList) (front rest : List Word) → IsConstraintList front l → after kind.Comma rest ≡ None → read_list (front ++ rest) ≡ Some (l, rest)
list_complete All front rest p e = ap (λ z. read_list (z ++ rest)) p
list_complete (Named ns) front rest p e =
    ap (λ o. if_some o (λ left. Some (All, left)) (then_read (read_series read_name (front ++ rest)) (λ ns left. Some (Named ns, left)))) (names_begin ns front rest p)
    ∙ ap (λ o. then_read o (λ ns left. Some (Named ns, left))) (names_complete.reads ns front rest p (tt, e))

pub set_complete : (l : ConstraintList) (m : ConstraintMode) (front : List Word) → IsConstraintList front l
    → Reads_to_end read_session_rule (plain kind.Set ∷ plain kind.Constraints ∷ (front ++ plain (mode_kind m) ∷ [])) (SetConstraints l m)
unfolding read_session_rule read_set
set_complete l m front p rest =
    ap (λ z. then_read (read_list z) (λ l more. then_read (read_mode more) (λ m left. Some (SetConstraints l m, left)))) (append_assoc front (plain (mode_kind m) ∷ []) (plain kind.Semicolon ∷ rest))
    ∙ ap (λ o. then_read o (λ l more. then_read (read_mode more) (λ m left. Some (SetConstraints l m, left)))) (list_complete l front (plain (mode_kind m) ∷ plain kind.Semicolon ∷ rest) p (no_comma m (plain kind.Semicolon ∷ rest)))
    ∙ ap (λ o. then_read o (λ m left. Some (SetConstraints l m, left))) (mode_complete m (plain kind.Semicolon ∷ rest))
