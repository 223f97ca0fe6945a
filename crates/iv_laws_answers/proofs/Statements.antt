-- Each statement that is read from a text is writable.
use Rattle.std.proofs.Common.{◌≡◌, Bool, true, false, not, ◌||◌, List, [], ◌∷◌, ◌++◌, map, refl, ◌∙◌, ap, subst}
use Rattle.std.specs.List.{list_all}
use Rattle.std.proofs.lemmas.Bool.{and_parts}
use Rattle.iv_lex.specs.declared.kind.TokenKind.TheVariants as kind
use Rattle.iv_lex.specs.Words.{Word, name, plain, words}
use Rattle.iv_parse_data.specs.Tables.{mode_kind}
use Rattle.iv_parse.specs.Types.{Statement}
use Rattle.iv_parse.specs.Types.statement
use Rattle.iv_parse.specs.Types.constraints.{All, Named}
use Rattle.iv_parse.specs.Statements.{IsConstraintList, Reads}
use Rattle.iv_parse.specs.Script.{AreStatements}
use Rattle.iv_resolution.specs.Writable.{is_constraint_list, is_writable}
use Rattle.iv_catalogue.specs.Catalogues.{Schema}
use Rattle.iv_resolution.specs.Resolution.{is_too_large, is_beyond_limits}
use Rattle.iv_laws_answers.specs.WritableLaws.{StatementsAreWritable, LimitsAreTooLarge}
use Rattle.iv_laws_answers.proofs.Names.{Written, front, back, join, run_written}
use Rattle.iv_laws_answers.proofs.Parts.{Passes, names_pass}
use Rattle.iv_laws_answers.proofs.Data.{insert_passes, update_passes, delete_passes, select_passes}
use Rattle.iv_laws_answers.proofs.Tables.{create_table_passes, alter_table_passes}
use Rattle.iv_laws_answers.proofs.Triggers.{trigger_passes}

constraint_list_passes : Passes IsConstraintList is_constraint_list
constraint_list_passes ws All e w = refl
constraint_list_passes ws (Named ns) p w = names_pass ws ns p w

statement_passes : Passes Reads is_writable
statement_passes ws (statement.CreateTable n es) p w = create_table_passes ws n es p w
statement_passes ws (statement.AlterTable n k) p w = alter_table_passes ws n k p w
statement_passes ws (statement.CreateTrigger t) p w = trigger_passes ws t p w
statement_passes ws (statement.DropTrigger n) e w = (subst Written e w).1.1.0
statement_passes ws (statement.Insert i) p w = insert_passes ws i p w
statement_passes ws (statement.Update u) p w = update_passes ws u p w
statement_passes ws (statement.Delete d) p w = delete_passes ws d p w
statement_passes ws (statement.Select s) p w = select_passes ws s p w
statement_passes ws statement.StartTransaction p w = refl
statement_passes ws statement.Commit p w = refl
statement_passes ws statement.Rollback p w = refl
statement_passes ws (statement.Savepoint n) e w = (subst Written e w).1.0
statement_passes ws (statement.Release n) e w = (subst Written e w).1.1.0
statement_passes ws (statement.RollbackTo n) (work, p, e) w =
    (back work (plain kind.To ∷ plain kind.Savepoint ∷ name n ∷ []) (subst Written e w).1).1.1.0
statement_passes ws (statement.SetConstraints l m) (list, p, e) w =
    constraint_list_passes list l p (front list (plain (mode_kind m) ∷ []) (subst Written e w).1.1)

statements_pass : (ws : List Word) (ss : List Statement) → AreStatements ws ss → Written ws → list_all is_writable ss ≡ true
statements_pass ws [] p w = refl
statements_pass ws (s ∷ ss) (f, b, p, q, e) w =
    let v : Written (f ++ plain kind.Semicolon ∷ b) = subst Written e w in
    join (is_writable s) _ (statement_passes f s p (front f (plain kind.Semicolon ∷ b) v)) (statements_pass b ss q (back f (plain kind.Semicolon ∷ b) v).1)

pub statements_are_writable : StatementsAreWritable
statements_are_writable text ss fault script =
    statements_pass (words text script.run) ss script.whole (run_written text script.run script.left script.tokens)

-- ---- limits

only_large : (large writable : Bool) → writable ≡ true → (large || not writable) ≡ large
only_large true writable h = refl
only_large false writable h = ap not h

same_limits : (schema : Schema) (ss : List Statement) → list_all is_writable ss ≡ true → map (is_beyond_limits schema) ss ≡ map (is_too_large schema) ss
same_limits schema [] h = refl
same_limits schema (s ∷ ss) h =
    let parts = and_parts (is_writable s) (list_all is_writable ss) h in
    ap (λ b. b ∷ map (is_beyond_limits schema) ss) (only_large (is_too_large schema s) (is_writable s) parts.0)
    ∙ ap (λ bs. is_too_large schema s ∷ bs) (same_limits schema ss parts.1)

pub limits_are_too_large : LimitsAreTooLarge
limits_are_too_large text ss fault script schema = same_limits schema ss (statements_are_writable text ss fault script)
