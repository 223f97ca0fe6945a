use Rattle.std.proofs.Common.{codes}
use Rattle.iv_text.specs.Json.{member}
use Rattle.iv_text.proofs.WriteLemmas.{writes_then}
use Rattle.iv_print.proofs.pending.write_went_list.Goals as goal

pub returns : goal.returns
returns g c =
    let s0 = g.W.Sink.state c.args.sink.now in
    let s1 = g.W.Sink.state c.write_member.new.sink in
    let s2 = g.W.Sink.state c.write_all.new.sink in
    let s3 = g.W.Sink.state c.write_went_objects.new.sink in
    let s4 = g.W.Sink.state c.write_all-2.new.sink in
    let r = c.write_all-2.result in
    writes_then s0 s1 s4 r (member (codes "no_longer_pending")) _ c.in_ok-write_member.ensures
    (writes_then s1 s2 s4 r (codes "[") _ c.in_ok-write_all.ensures
    (writes_then s2 s3 s4 r _ _ c.in_ok-write_went_objects.ensures c.write_all-2.ensures))
