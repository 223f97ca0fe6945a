use Rattle.std.proofs.Common.{codes}
use Rattle.iv_text.specs.Json.{member}
use Rattle.iv_text.proofs.WriteLemmas.{writes_then}
use Rattle.iv_print.proofs.json_account.write_changes_nothing.Goals as goal

pub returns : goal.returns
returns g c =
    writes_then (g.W.Sink.state c.args.sink.now) (g.W.Sink.state c.write_member.new.sink) (g.W.Sink.state c.write_all.new.sink) c.write_all.result
    (member (codes "changes_nothing")) (codes "true") c.in_ok-write_member.ensures c.write_all.ensures
