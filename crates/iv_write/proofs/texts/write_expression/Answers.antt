use Rattle.std.proofs.Common.{string_bytes, ap}
use Rattle.std.proofs.lemmas.Str.{IsUtf8-had}
use Rattle.iv_parse_terms.specs.Expressions.{spelling}
use Rattle.iv_write.proofs.WriteLemmas.{from_start}
use Rattle.iv_write.proofs.Canonical.{says_expression}
use Rattle.iv_write.proofs.texts.write_expression.Goals as goal

pub returns-clause-says : goal.returns-clause-says
returns-clause-says c =
    says_expression (string_bytes c.into_text.result) c.args.expression.now (IsUtf8-had (string_bytes c.into_text.result) c.into_text.result.ok)
    (from_start c.new-writer.result c.push_expression.new.writer (spelling c.args.expression.now) (string_bytes c.into_text.result) (ap string_bytes c.into_text.ensures) c.new-writer.ensures.text c.new-writer.ensures.layout c.in_ok-push_expression.ensures)
