-- Statements in the words that they are written with, and what a script says that was written from some.
use Rattle.std.proofs.Common.{inl, ◌≡◌, ℕ, Option, None, List, [], ◌∷◌, ◌++◌, refl, sym, ◌∙◌, ap, subst, append-nil, append_assoc}
use Rattle.std.specs.Prelude.{IsUtf8}
use Rattle.std.proofs.lemmas.List.{map-append}
use Rattle.iv_lex.specs.declared.kind.TokenKind.TheVariants as kind
use Rattle.iv_lex.specs.Words.{Word, name, plain, word_of, words}
use Rattle.iv_lex.specs.Tokens.{tokens_of}
use Rattle.iv_parse_data.specs.Tables.{mode_kind}
use Rattle.iv_parse.specs.Statements.{IsConstraintList, Reads}
use Rattle.iv_parse.specs.Script.{AreStatements, BeginsStatement, IsScript}
use Rattle.iv_parse.proofs.OneReading.{one_script}
use Rattle.iv_template.specs.Templates.{words_of}
use Rattle.iv_write.specs.Types.{Statement}
use Rattle.iv_write.specs.Types.statement
use Rattle.iv_write.specs.Types.constraints.{All, Named}
use Rattle.iv_write.specs.Spelling.{AreWritten}
use Rattle.iv_write.specs.Layouts.{text_of}
use Rattle.iv_write.specs.Statements.{constraint_list_words, statement_words, whole_words, script_words}
use Rattle.iv_write.specs.Scripts.{AllCanBeWritten, SaysScript}
use Rattle.iv_write.proofs.Canonical.{joined, parts, Canonical}
use Rattle.iv_write.proofs.CanonicalData.{names_canonical, insert_canonical, update_canonical, delete_canonical, select_canonical}
use Rattle.iv_write.proofs.CanonicalTables.{create_table_canonical, alter_table_canonical}
use Rattle.iv_write.proofs.CanonicalTriggers.{trigger_canonical}
use Rattle.iv_write.proofs.LaidOut.{written_words}
use Rattle.iv_write.proofs.ReadBack.{text_written}

constraint_list_canonical : Canonical IsConstraintList constraint_list_words
constraint_list_canonical ws All e w = (refl, subst AreWritten e w)
constraint_list_canonical ws (Named ns) p w = names_canonical ws ns p w

statement_canonical : Canonical Reads statement_words
statement_canonical ws (statement.CreateTable n es) p w = create_table_canonical ws n es p w
statement_canonical ws (statement.AlterTable n c) p w = alter_table_canonical ws n c p w
statement_canonical ws (statement.CreateTrigger t) p w = trigger_canonical ws t p w
statement_canonical ws (statement.Insert i) p w = insert_canonical ws i p w
statement_canonical ws (statement.Update u) p w = update_canonical ws u p w
statement_canonical ws (statement.Delete d) p w = delete_canonical ws d p w
statement_canonical ws (statement.Select s) p w = select_canonical ws s p w
statement_canonical ws (statement.DropTrigger n) e w = (refl, subst AreWritten e w)
statement_canonical ws statement.StartTransaction e w = (refl, subst AreWritten e w)
statement_canonical ws statement.Commit p w = (([], inl refl, refl), (refl, tt {0}))
statement_canonical ws statement.Rollback p w = (([], inl refl, refl), (refl, tt {0}))
statement_canonical ws (statement.RollbackTo n) (work, p, e) w =
    let u : AreWritten (plain kind.Rollback ∷ (work ++ plain kind.To ∷ plain kind.Savepoint ∷ name n ∷ [])) = subst AreWritten e w in
    (([], inl refl, refl), (refl, (parts work (plain kind.To ∷ plain kind.Savepoint ∷ name n ∷ []) u.1).1))
statement_canonical ws (statement.Savepoint n) e w = (refl, subst AreWritten e w)
statement_canonical ws (statement.Release n) e w = (refl, subst AreWritten e w)
statement_canonical ws (statement.SetConstraints l m) (list, p, e) w =
    let u : AreWritten (plain kind.Set ∷ plain kind.Constraints ∷ (list ++ plain (mode_kind m) ∷ [])) = subst AreWritten e w in
    let v = parts list (plain (mode_kind m) ∷ []) u.1.1 in
    let x = constraint_list_canonical list l p v.0 in
    ((constraint_list_words l, x.0, refl), (refl, (refl, joined (constraint_list_words l) (plain (mode_kind m) ∷ []) x.1 v.1)))

-- ---- scripts

-- each statement with its semicolon
are_statements : (ss : List Statement) → AllCanBeWritten ss → AreStatements (script_words ss) ss × AreWritten (script_words ss)
are_statements [] h = (refl, tt {0})
are_statements (s ∷ ss) ((ws, p, w), h) =
    let x = statement_canonical ws s p w in
    let y = are_statements ss h in
    let e : whole_words s ++ script_words ss ≡ statement_words s ++ plain kind.Semicolon ∷ script_words ss = append_assoc (statement_words s) (plain kind.Semicolon ∷ []) (script_words ss) in (
      (statement_words s, script_words ss, x.0, y.0, e),
      joined (whole_words s) (script_words ss) (joined (statement_words s) (plain kind.Semicolon ∷ []) x.1 (refl, tt {0})) y.1,
    )

begins_none : BeginsStatement [] → ⊥
begins_none (s, [], rest, r, e) = absurd (cc)
begins_none (s, (w ∷ ws), rest, r, e) = absurd (cc)

pub says_script : (text : List ℕ) (ss : List Statement) → IsUtf8 text → text ≡ text_of (script_words ss) → AllCanBeWritten ss → SaysScript text ss
says_script text ss u t h =
    let a = are_statements ss h in
    let w = written_words text (script_words ss) u t a.1 in
    let i : IsScript text ss None = record {
      run = (tokens_of text).tokens;
      left = [];
      tokens = sym (append-nil (tokens_of text).tokens);
      whole = subst (λ z. AreStatements z ss) (sym w.0) a.0;
      longest = begins_none;
      place = sym w.1;
    } in
    record {
      is_script = i;
      is_no_other = λ others f j. one_script text others ss f None j i;
    }

-- ---- what is read of a text can be written

all_back : (ss : List Statement) (ws : List Word) → AreStatements ws ss → AreWritten ws → AllCanBeWritten ss
all_back [] ws e w = tt {0}
all_back (s ∷ ss) ws (front, back, r, rest, e) w =
    let v = parts front (plain kind.Semicolon ∷ back) (subst AreWritten e w) in
    ((front, r, v.0), all_back ss back rest v.1.1)

pub script_back : (text : List ℕ) (ss : List Statement) (fault : Option ℕ) → IsUtf8 text → IsScript text ss fault → AllCanBeWritten ss
script_back text ss fault u i =
    let e : words_of text ≡ words text i.run ++ words text i.left = ap (words text) i.tokens ∙ map-append (word_of text) i.run i.left in
    all_back ss (words text i.run) i.whole (parts (words text i.run) (words text i.left) (subst AreWritten e (text_written text u))).0
