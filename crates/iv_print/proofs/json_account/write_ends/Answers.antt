use Rattle.std.proofs.Common.{◌-◌, codes}
use Rattle.iv_print.specs.JsonAccounts.{ends}
use Rattle.iv_text.proofs.WriteLemmas.{wrote_step}
use Rattle.iv_print.proofs.JsonLemmas.{ends_step}
use Rattle.iv_print.proofs.json_account.write_ends.Goals as goal

pub loop-left-preserved : goal.loop-left-preserved
loop-left-preserved g c =
    wrote_step (ends c.args.depth) (codes "]}") (ends (c.loop-left.left - 1)) (ends c.loop-left.left)
    (g.W.Sink.state c.args.sink.now) (g.W.Sink.state c.loop-left.sink) (g.W.Sink.state c.write_all.new.sink)
    c.loop-left.invariant (ends_step c.loop-left.left c.loop-left-test.true) c.in_ok-write_all.ensures
