use Rattle.std.proofs.Common.{codes}
use Rattle.iv_text.specs.Conditions.{condition_text}
use Rattle.iv_text.specs.Json.{json_text, member}
use Rattle.iv_text.specs.declared.condition.Shown.TheVariants.{Names}
use Rattle.iv_text.proofs.WriteLemmas.{writes_then}
use Rattle.iv_print.proofs.check.write_both.Goals as goal

pub returns : goal.returns
returns g c =
    let s0 = g.W.Sink.state c.args.sink.now in
    let s1 = g.W.Sink.state c.write_member.new.sink in
    let s2 = g.W.Sink.state c.write_quoted.new.sink in
    let s3 = g.W.Sink.state c.write_named.new.sink in
    writes_then s0 s1 s3 c.write_named.result (member (codes "condition")) _ c.in_ok-write_member.ensures
    (writes_then s1 s2 s3 c.write_named.result (json_text (condition_text Names c.args.columns.now c.args.row.now c.args.condition.now)) _
    c.in_ok-write_quoted.ensures c.write_named.ensures)
