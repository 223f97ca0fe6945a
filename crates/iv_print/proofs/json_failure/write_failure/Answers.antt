use Rattle.std.proofs.Common.{codes}
use Rattle.iv_print.specs.JsonAccounts.{entry_key, failure_members, hand_members, part_members}
use Rattle.iv_text.proofs.WriteLemmas.{writes_then}
use Rattle.iv_print.proofs.json_failure.write_failure.Goals as goal

pub returns : goal.returns
returns g c =
    let s0 = g.W.Sink.state c.args.sink.now in
    let s1 = g.W.Sink.state c.write_entry_key.new.sink in
    let s2 = g.W.Sink.state c.write_part.new.sink in
    let s3 = g.W.Sink.state c.write_hand.new.sink in
    let s4 = g.W.Sink.state c.write_value_failure.new.sink in
    let s5 = g.W.Sink.state c.write_all.new.sink in
    let r = c.write_all.result in
    writes_then s0 s1 s5 r (entry_key (codes "failure")) _ c.in_ok-write_entry_key.ensures
    (writes_then s1 s2 s5 r (part_members c.args.catalogue.now c.args.failed.now.part) _ c.in_ok-write_part.ensures
    (writes_then s2 s3 s5 r (hand_members c.args.catalogue.now c.args.failed.now.row) _ c.in_ok-write_hand.ensures
    (writes_then s3 s4 s5 r (failure_members c.args.failed.now.failure) (codes "}") c.in_ok-write_value_failure.ensures c.write_all.ensures)))
