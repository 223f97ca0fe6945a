use Rattle.std.proofs.Common.{codes, subst, Ok, ◌∙◌}
use Rattle.iv_text.specs.Writing.{Writes}
use Rattle.iv_text.proofs.WriteLemmas.{writes_then}
use Rattle.iv_print.proofs.account.write_skipped.Goals as goal

pub returns : goal.returns
returns g c =
    let s0 = g.W.Sink.state c.args.sink.now in
    let s1 = g.W.Sink.state c.write_asked.new.sink in
    let s2 = g.W.Sink.state c.write_all.new.sink in
    let s3 = g.W.Sink.state c.write_all-2.new.sink in
    let s4 = g.W.Sink.state c.write_all-3.new.sink in
    let r = c.write_all-3.result in
    writes_then s0 s1 s4 r _ _ c.in_ok-write_asked.ensures
    (writes_then s1 s2 s4 r (codes " skipped: WHEN is ") _ c.in_ok-write_all.ensures
    (writes_then s2 s3 s4 r _ _
    (subst (Writes s2 s3 (Ok tt)) (c.as_bytes.ensures.value ∙ c.truth_name.ensures) c.in_ok-write_all-2.ensures) c.write_all-3.ensures))
