-- Statements: what is read is in the grammar, and what is in the grammar is read.
use Rattle.std.proofs.Common.{◌≡◌, Some, None, List, [], ◌∷◌, ◌++◌, refl, sym, ◌∙◌, ap}
use Rattle.iv_lex.specs.declared.kind.TokenKind.TheVariants as kind
use Rattle.iv_lex.specs.Words.{Word, plain}
use Rattle.iv_parse.specs.Types.{Statement}
use Rattle.iv_parse.specs.Types.statement
use Rattle.iv_parse_terms.specs.After.{then_read}
use Rattle.iv_parse_data.specs.Series.{Series, InParentheses}
use Rattle.iv_parse_data.specs.Tables.{IsElement, IsTableConstraint}
use Rattle.iv_parse_data.specs.readers.Tables.{read_elements, read_table_constraint, read_create_table, read_alter}
use Rattle.iv_parse_data.specs.Data.{IsInsert, IsUpdate, IsDelete, IsSelect}
use Rattle.iv_parse_data.specs.readers.Data.{then_word, read_insert, read_update, read_delete, read_select}
use Rattle.iv_parse.specs.Statements.{Reads}
use Rattle.iv_parse.specs.readers.Statements.{read_definition_rule, read_rule, read_statement}
use Rattle.iv_parse.specs.Script.{BeginsStatement}
use Rattle.iv_parse_data.proofs.Fronts.{Good, nothing_good, done_good, after_good, name_good, then_good, made_good}
use Rattle.iv_parse_data.proofs.DataSound.{insert_good, update_good, delete_good, select_good}
use Rattle.iv_parse_data.proofs.TableSound.{elements_good, table_constraint_good}
use Rattle.iv_parse_data.proofs.TableComplete.{elements_complete, table_constraint_reads, statement_constraint}
use Rattle.iv_parse_data.proofs.DataComplete.{insert_reads, update_reads, delete_reads, select_reads, semicolon}
use Rattle.iv_parse.specs.Triggers.{IsTrigger}
use Rattle.iv_parse.specs.readers.Triggers.{read_trigger}
use Rattle.iv_parse.proofs.TriggerSound.{trigger_good}
use Rattle.iv_parse.proofs.TriggerComplete.{trigger_reads}
use Rattle.iv_parse.proofs.SessionSound.{drop_good, session_good}
use Rattle.iv_parse.proofs.SessionComplete.{start_complete, commit_complete, rollback_complete, to_complete, savepoint_complete, release_complete, set_complete}
use Rattle.iv_parse.proofs.Readers.{read_create, read_drop, read_insert_rule, read_update_rule, read_delete_rule, read_select_rule}

insert_rule_good : (ws : List Word) → Good (λ back s. Reads (plain kind.Insert ∷ back) s) ws (read_insert_rule ws)
insert_rule_good ws =
    made_good (λ back i. IsInsert (plain kind.Insert ∷ back) i) _ ws (read_insert ws) statement.Insert (insert_good ws) (λ i front p. p)

update_rule_good : (ws : List Word) → Good (λ back s. Reads (plain kind.Update ∷ back) s) ws (read_update_rule ws)
update_rule_good ws =
    made_good (λ back u. IsUpdate (plain kind.Update ∷ back) u) _ ws (read_update ws) statement.Update (update_good ws) (λ u front p. p)

delete_rule_good : (ws : List Word) → Good (λ back s. Reads (plain kind.Delete ∷ back) s) ws (read_delete_rule ws)
delete_rule_good ws =
    made_good (λ back d. IsDelete (plain kind.Delete ∷ back) d) _ ws (read_delete ws) statement.Delete (delete_good ws) (λ d front p. p)

select_rule_good : (ws : List Word) → Good (λ back s. Reads (plain kind.Select ∷ back) s) ws (read_select_rule ws)
select_rule_good ws =
    made_good (λ back s. IsSelect (plain kind.Select ∷ back) s) _ ws (read_select ws) statement.Select (select_good ws) (λ s front p. p)

create_good : (ws : List Word) → Good (λ back s. Reads (plain kind.Create ∷ back) s) ws (read_create ws)
unfolding read_create_table
create_good ws =
    after_good _ kind.Table ws read_create_table _
    (λ rest. name_good _ rest _
    (λ n more. made_good (InParentheses (Series IsElement)) _ more (read_elements more) (statement.CreateTable n) (elements_good more) (λ es front p. (front, p, refl))))
    (after_good _ kind.Trigger ws _ None
    (λ rest. made_good (λ back t. IsTrigger (plain kind.Create ∷ plain kind.Trigger ∷ back) t) _ rest (read_trigger rest) statement.CreateTrigger (trigger_good rest) (λ t front p. p))
    (nothing_good _ ws))

alter_good : (ws : List Word) → Good (λ back s. Reads (plain kind.Alter ∷ back) s) ws (read_alter ws)
unfolding read_alter
alter_good ws =
    after_good _ kind.Table ws _ None
    (λ rest. name_good _ rest _
    (λ n more. after_good _ kind.Add more _ None
    (λ left. made_good IsTableConstraint _ left (read_table_constraint left) (statement.AlterTable n) (table_constraint_good left) (λ c front p. (front, p, refl)))
    (nothing_good _ more)))
    (nothing_good _ ws)

definition_good : (ws : List Word) → Good Reads ws (read_definition_rule ws)
unfolding read_definition_rule
definition_good ws =
    after_good Reads kind.Create ws read_create _ create_good
    (after_good Reads kind.Alter ws read_alter _ alter_good
    (after_good Reads kind.Drop ws read_drop _ drop_good (session_good ws)))

rule_good : (ws : List Word) → Good Reads ws (read_rule ws)
unfolding read_rule
rule_good ws =
    after_good Reads kind.Insert ws read_insert_rule _ insert_rule_good
    (after_good Reads kind.Update ws read_update_rule _ update_rule_good
    (after_good Reads kind.Delete ws read_delete_rule _ delete_rule_good
    (after_good Reads kind.Select ws read_select_rule _ select_rule_good (definition_good ws))))

-- a statement and its semicolon
abbrev pub Ended : List Word → Statement → Type 0
Ended ws s = (front : List Word) × Reads front s × (ws ≡ front ++ plain kind.Semicolon ∷ [])

pub statement_good : (ws : List Word) → Good Ended ws (read_statement ws)
unfolding read_statement
statement_good ws =
    then_good Reads Ended ws (read_rule ws) _ (rule_good ws)
    (λ s front rest p. after_good _ kind.Semicolon rest (λ more. Some (s, more)) None
    (λ more. done_good _ more s (front, p, refl))
    (nothing_good _ rest))

rule_reads : (s : Statement) (front rest : List Word) → Reads front s → read_rule (front ++ plain kind.Semicolon ∷ rest) ≡ Some (s, plain kind.Semicolon ∷ rest)
unfolding read_rule read_definition_rule read_create_table read_alter
rule_reads (statement.CreateTable n es) front rest (body, p, w) =
    ap (λ z. read_rule (z ++ plain kind.Semicolon ∷ rest)) w
    ∙ ap (λ o. then_read o (λ es more. Some (statement.CreateTable n es, more))) (elements_complete.reads es body (plain kind.Semicolon ∷ rest) p tt)
rule_reads (statement.AlterTable n c) front rest (body, p, w) =
    ap (λ z. read_rule (z ++ plain kind.Semicolon ∷ rest)) w
    ∙ ap (λ o. then_read o (λ c more. Some (statement.AlterTable n c, more))) (table_constraint_reads c body (plain kind.Semicolon ∷ rest) p (statement_constraint rest))
rule_reads (statement.CreateTrigger t) front rest p =
    let (back, w, h) = trigger_reads t front (plain kind.Semicolon ∷ rest) p (semicolon rest) in
    ap read_rule w ∙ ap (λ o. then_read o (λ t more. Some (statement.CreateTrigger t, more))) h
rule_reads (statement.DropTrigger n) front rest p = ap (λ z. read_rule (z ++ plain kind.Semicolon ∷ rest)) p
rule_reads (statement.Insert i) front rest p =
    let (back, w, h) = insert_reads i front (plain kind.Semicolon ∷ rest) p (semicolon rest) in
    ap read_rule w ∙ ap (λ o. then_read o (λ i more. Some (statement.Insert i, more))) h
rule_reads (statement.Update u) front rest p =
    let (back, w, h) = update_reads u front (plain kind.Semicolon ∷ rest) p (semicolon rest) in
    ap read_rule w ∙ ap (λ o. then_read o (λ u more. Some (statement.Update u, more))) h
rule_reads (statement.Delete d) front rest p =
    let (back, w, h) = delete_reads d front (plain kind.Semicolon ∷ rest) p (semicolon rest) in
    ap read_rule w ∙ ap (λ o. then_read o (λ d more. Some (statement.Delete d, more))) h
rule_reads (statement.Select s) front rest p =
    let (back, w, h) = select_reads s front (plain kind.Semicolon ∷ rest) p (semicolon rest) in
    ap read_rule w ∙ ap (λ o. then_read o (λ s more. Some (statement.Select s, more))) h
rule_reads statement.StartTransaction front rest p = ap (λ z. read_rule (z ++ plain kind.Semicolon ∷ rest)) p ∙ start_complete rest
rule_reads statement.Commit front rest (work, o, w) = ap (λ z. read_rule (z ++ plain kind.Semicolon ∷ rest)) w ∙ commit_complete work o rest
rule_reads statement.Rollback front rest (work, o, w) = ap (λ z. read_rule (z ++ plain kind.Semicolon ∷ rest)) w ∙ rollback_complete work o rest
rule_reads (statement.Savepoint n) front rest p = ap (λ z. read_rule (z ++ plain kind.Semicolon ∷ rest)) p ∙ savepoint_complete n rest
rule_reads (statement.Release n) front rest p = ap (λ z. read_rule (z ++ plain kind.Semicolon ∷ rest)) p ∙ release_complete n rest
rule_reads (statement.RollbackTo n) front rest (work, o, w) = ap (λ z. read_rule (z ++ plain kind.Semicolon ∷ rest)) w ∙ to_complete n work o rest
rule_reads (statement.SetConstraints l m) front rest (list, p, w) = ap (λ z. read_rule (z ++ plain kind.Semicolon ∷ rest)) w ∙ set_complete l m list p rest

-- a statement of the grammar and its semicolon are read, whatever follows
pub statement_complete : (s : Statement) (front rest : List Word) → Reads front s → read_statement (front ++ plain kind.Semicolon ∷ rest) ≡ Some (s, rest)
unfolding read_statement
statement_complete s front rest p = ap (λ o. then_read o (λ s left. then_word kind.Semicolon left (λ more. Some (s, more)))) (rule_reads s front rest p)

-- where nothing is read no statement begins
pub none_begins : (ws : List Word) → read_statement ws ≡ None → ¬ (BeginsStatement ws)
none_begins ws h (s, front, rest, p, w) =
    let e = sym h ∙ ap read_statement w ∙ statement_complete s front rest p in
    cc
