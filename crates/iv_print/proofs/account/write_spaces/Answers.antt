use Rattle.std.proofs.Common.{◌-◌, codes}
use Rattle.iv_print.specs.AccountLines.{spaces}
use Rattle.iv_text.proofs.WriteLemmas.{wrote_step}
use Rattle.iv_print.proofs.AccountLemmas.{spaces_step}
use Rattle.iv_print.proofs.account.write_spaces.Goals as goal

pub loop-left-preserved : goal.loop-left-preserved
loop-left-preserved g c =
    wrote_step (spaces c.args.depth) (codes "  ") (spaces (c.loop-left.left - 1)) (spaces c.loop-left.left)
    (g.W.Sink.state c.args.sink.now) (g.W.Sink.state c.loop-left.sink) (g.W.Sink.state c.write_all.new.sink)
    c.loop-left.invariant (spaces_step c.loop-left.left c.loop-left-test.true) c.in_ok-write_all.ensures
