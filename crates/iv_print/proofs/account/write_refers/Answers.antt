use Rattle.std.proofs.Common.{◌∙◌, subst}
use Rattle.iv_text.specs.Writing.{Writes}
use Rattle.iv_print.specs.AccountLines.{referenced_text, reference_words_of}
use Rattle.iv_text.proofs.WriteLemmas.{writes_then}
use Rattle.iv_print.proofs.account.write_refers.Goals as goal

pub returns : goal.returns
returns g c =
    let before = g.W.Sink.state c.write_referenced.new.sink in
    let after = g.W.Sink.state c.write_all.new.sink in
    writes_then (g.W.Sink.state c.args.sink.now) before after c.write_all.result
    (referenced_text c.args.catalogue.now c.args.values.now c.args.key.now) (reference_words_of c.args.outcome.now)
    c.in_ok-write_referenced.ensures
    (subst (Writes before after c.write_all.result) (c.as_bytes.ensures.value ∙ c.reference_words.ensures) c.write_all.ensures)
