use Rattle.std.proofs.Common.{string_bytes, ap}
use Rattle.std.proofs.lemmas.Str.{IsUtf8-had}
use Rattle.iv_write.specs.Terms.{condition_words}
use Rattle.iv_write.proofs.WriteLemmas.{from_start}
use Rattle.iv_write.proofs.Canonical.{says_condition}
use Rattle.iv_write.proofs.texts.write_condition.Goals as goal

pub returns-clause-says : goal.returns-clause-says
returns-clause-says c =
    says_condition (string_bytes c.into_text.result) c.args.condition.now (IsUtf8-had (string_bytes c.into_text.result) c.into_text.result.ok)
    (from_start c.new-writer.result c.push_condition.new.writer (condition_words c.args.condition.now) (string_bytes c.into_text.result) (ap string_bytes c.into_text.ensures) c.new-writer.ensures.text c.new-writer.ensures.layout c.in_ok-push_condition.ensures)
