use Rattle.iv_text.proofs.WriteLemmas.{wrote_start, wrote_more}
use Rattle.iv_text.proofs.write.write_all.Goals as goal

pub loop-rest-init : goal.loop-rest-init
loop-rest-init g c = wrote_start _ _

pub loop-rest-preserved : goal.loop-rest-preserved
loop-rest-preserved g c =
    wrote_more c.args.bytes.now c.loop-rest.rest.now (g.W.Sink.state c.args.sink.now) (g.W.Sink.state c.loop-rest.sink) (g.W.Sink.state c.write.new.self) c.in_ok-count.count
    c.loop-rest.invariant c.in_ok-count.ensures.bytes c.in_ok-count.ensures.works
