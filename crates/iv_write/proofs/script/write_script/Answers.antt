use Rattle.std.proofs.Common.{string_bytes, ap}
use Rattle.std.proofs.lemmas.Str.{IsUtf8-had}
use Rattle.iv_write.specs.Statements.{script_words}
use Rattle.iv_write.proofs.WriteLemmas.{from_start}
use Rattle.iv_write.proofs.CanonicalStatements.{says_script}
use Rattle.iv_write.proofs.script.write_script.Goals as goal

pub returns-clause-says : goal.returns-clause-says
returns-clause-says c =
    says_script (string_bytes c.into_text.result) c.args.statements.now (IsUtf8-had (string_bytes c.into_text.result) c.into_text.result.ok)
    (from_start c.new-writer.result c.push_sequence.new.writer (script_words c.args.statements.now) (string_bytes c.into_text.result) (ap string_bytes c.into_text.ensures) c.new-writer.ensures.text c.new-writer.ensures.layout c.in_ok-push_sequence.ensures)
