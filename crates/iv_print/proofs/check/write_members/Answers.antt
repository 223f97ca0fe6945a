use Rattle.std.proofs.Common.{codes}
use Rattle.iv_print.specs.JsonAccounts.{because}
use Rattle.iv_text.proofs.WriteLemmas.{writes_then}
use Rattle.iv_print.proofs.check.write_members.Goals as goal

pub returns : goal.returns
returns g c =
    writes_then (g.W.Sink.state c.args.sink.now) (g.W.Sink.state c.write_because.new.sink) (g.W.Sink.state c.write_both.new.sink) c.write_both.result
    (because (codes "false_condition")) _ c.in_ok-write_because.ensures c.write_both.ensures
