use Rattle.std.proofs.Common.{[], ◌∷◌, string_bytes, ◌∙◌, sym, ap, append-nil}
use Rattle.std.proofs.lemmas.Str.{IsUtf8-had}
use Rattle.iv_write.specs.Layouts.{text_of}
use Rattle.iv_write.specs.Statements.{whole_words}
use Rattle.iv_write.proofs.WriteLemmas.{from_start}
use Rattle.iv_write.proofs.CanonicalStatements.{says_script}
use Rattle.iv_write.proofs.script.write_statement.Goals as goal

pub returns-clause-says : goal.returns-clause-says
returns-clause-says c h =
    says_script (string_bytes c.into_text.result) (c.args.statement.now ∷ []) (IsUtf8-had (string_bytes c.into_text.result) c.into_text.result.ok)
    (from_start c.new-writer.result c.write.new.writer (whole_words c.args.statement.now) (string_bytes c.into_text.result) (ap string_bytes c.into_text.ensures) c.new-writer.ensures.text c.new-writer.ensures.layout c.in_ok-write.ensures
    ∙ ap text_of (sym (append-nil (whole_words c.args.statement.now))))
    (h, tt {0})
