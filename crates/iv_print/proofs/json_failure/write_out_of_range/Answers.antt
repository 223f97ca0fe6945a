use Rattle.std.proofs.Common.{codes, rules}
use Rattle.iv_print.specs.JsonAccounts.{because, integer_member, operator_member}
use Rattle.iv_text.proofs.WriteLemmas.{writes_then}
use Rattle.iv_print.proofs.json_failure.write_out_of_range.Goals as goal

pub returns : goal.returns
returns g c =
    let s0 = g.W.Sink.state c.args.sink.now in
    let s1 = g.W.Sink.state c.write_because.new.sink in
    let s2 = g.W.Sink.state c.write_integer_member.new.sink in
    let s3 = g.W.Sink.state c.write_operator.new.sink in
    let s4 = g.W.Sink.state c.write_integer_member-2.new.sink in
    let r = c.write_integer_member-2.result in
    writes_then s0 s1 s4 r (because (codes "out_of_range")) _ c.in_ok-write_because.ensures
    (writes_then s1 s2 s4 r (integer_member (codes "left") c.args.left) _ (search rules)
    (writes_then s2 s3 s4 r (operator_member c.args.operator) (integer_member (codes "right") c.args.right) c.in_ok-write_operator.ensures (search rules)))
