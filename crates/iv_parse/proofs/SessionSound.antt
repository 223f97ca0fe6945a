-- What is read of statements about transactions, savepoints and constraint modes is in the grammar.
use Rattle.std.proofs.Common.{Some, None, List, ◌∷◌, ◌++◌, refl, sym, ◌∙◌, ap, subst, append-nil}
use Rattle.iv_lex.specs.declared.kind.TokenKind.TheVariants as kind
use Rattle.iv_lex.specs.Words.{Word, plain}
use Rattle.iv_parse.specs.Types.statement.{DropTrigger, StartTransaction, Commit, Rollback, Savepoint, Release, RollbackTo, SetConstraints}
use Rattle.iv_parse.specs.Types.constraints.{All, Named}
use Rattle.iv_parse_data.specs.Series.{Optional}
use Rattle.iv_parse_data.specs.readers.Series.{read_series}
use Rattle.iv_parse_data.specs.Data.{Names}
use Rattle.iv_parse_data.specs.readers.Data.{read_name}
use Rattle.iv_parse_data.specs.readers.Tables.{read_mode}
use Rattle.iv_parse.specs.Statements.{IsConstraintList, Reads}
use Rattle.iv_parse.specs.readers.Statements.{read_rollback, read_list, read_set, read_session_rule}
use Rattle.iv_parse_data.proofs.DataSound.{names_good}
use Rattle.iv_parse_data.proofs.TableSound.{IsMode, mode_good}
use Rattle.iv_parse_data.proofs.Fronts.{Good, nothing_good, done_good, after_good, name_good, then_good, skip_good}
use Rattle.iv_parse.proofs.Readers.{read_drop, read_start, read_commit, read_to, read_rollback_rest, read_savepoint, read_release, read_savepoint_rule}

pub drop_good : (ws : List Word) → Good (λ back s. Reads (plain kind.Drop ∷ back) s) ws (read_drop ws)
drop_good ws =
    after_good _ kind.Trigger ws _ None
    (λ rest. name_good _ rest _ (λ n more. done_good _ more (DropTrigger n) refl))
    (nothing_good _ ws)

pub start_good : (ws : List Word) → Good (λ back s. Reads (plain kind.Start ∷ back) s) ws (read_start ws)
start_good ws = after_good _ kind.Transaction ws _ None (λ rest. done_good _ rest StartTransaction refl) (nothing_good _ ws)

pub commit_good : (ws : List Word) → Good (λ back s. Reads (plain kind.Commit ∷ back) s) ws (read_commit ws)
commit_good ws =
    skip_good _ kind.Work ws (λ rest. Some (Commit, rest)) (λ work rest o. done_good _ rest Commit (work, o, ap (λ z. plain kind.Commit ∷ z) (append-nil work)))

to_good : (work : List Word) → Optional kind.Work work → (ws : List Word) → Good (λ back s. Reads (plain kind.Rollback ∷ (work ++ plain kind.To ∷ back)) s) ws (read_to ws)
to_good work o ws =
    after_good _ kind.Savepoint ws _ None
    (λ rest. name_good _ rest _ (λ n more. done_good _ more (RollbackTo n) (work, o, refl)))
    (nothing_good _ ws)

pub rollback_good : (ws : List Word) → Good (λ back s. Reads (plain kind.Rollback ∷ back) s) ws (read_rollback ws)
unfolding read_rollback
rollback_good ws =
    skip_good _ kind.Work ws read_rollback_rest
    (λ work rest o. after_good _ kind.To rest read_to (Some (Rollback, rest))
    (λ more. to_good work o more)
    (done_good _ rest Rollback (work, o, ap (λ z. plain kind.Rollback ∷ z) (append-nil work))))

pub savepoint_good : (ws : List Word) → Good (λ back s. Reads (plain kind.Savepoint ∷ back) s) ws (read_savepoint ws)
savepoint_good ws = name_good _ ws _ (λ n rest. done_good _ rest (Savepoint n) refl)

pub release_good : (ws : List Word) → Good (λ back s. Reads (plain kind.Release ∷ back) s) ws (read_release ws)
release_good ws =
    after_good _ kind.Savepoint ws _ None
    (λ rest. name_good _ rest _ (λ n more. done_good _ more (Release n) refl))
    (nothing_good _ ws)

list_good : (ws : List Word) → Good IsConstraintList ws (read_list ws)
list_good ws =
    after_good _ kind.All ws _ _
    (λ rest. done_good _ rest All refl)
    (then_good Names IsConstraintList ws (read_series read_name ws) _ (names_good ws)
    (λ ns front rest p. done_good _ rest (Named ns) (subst (λ z. Names z ns) (sym (append-nil front)) p)))

pub set_good : (ws : List Word) → Good (λ back s. Reads (plain kind.Set ∷ back) s) ws (read_set ws)
unfolding read_set
set_good ws =
    after_good _ kind.Constraints ws _ None
    (λ rest. then_good IsConstraintList _ rest (read_list rest) _ (list_good rest)
    (λ l front more p. then_good IsMode _ more (read_mode more) _ (mode_good more)
    (λ m back left q. done_good _ left (SetConstraints l m)
    (front, p, ap (λ z. plain kind.Set ∷ plain kind.Constraints ∷ (front ++ z)) (append-nil back ∙ q)))))
    (nothing_good _ ws)

savepoint_rule_good : (ws : List Word) → Good Reads ws (read_savepoint_rule ws)
savepoint_rule_good ws =
    after_good Reads kind.Savepoint ws read_savepoint _ savepoint_good
    (after_good Reads kind.Release ws read_release _ release_good
    (after_good Reads kind.Set ws read_set None set_good (nothing_good Reads ws)))

pub session_good : (ws : List Word) → Good Reads ws (read_session_rule ws)
unfolding read_session_rule
session_good ws =
    after_good Reads kind.Commit ws read_commit _ commit_good
    (after_good Reads kind.Rollback ws read_rollback _ rollback_good
    (after_good Reads kind.Start ws read_start _ start_good (savepoint_rule_good ws)))
