use Rattle.iv_text.proofs.WriteLemmas.{writes_then}
use Rattle.iv_connection.specs.Messages.{heading, refusal_parts}
use Rattle.iv_connection.proofs.messages.write_refusal.Goals as goal

pub returns : goal.returns
returns g c =
    writes_then (g.W.Sink.state c.args.sink.now) (g.W.Sink.state c.write_heading.new.sink) (g.W.Sink.state c.write_about.new.sink) c.write_about.result
    (heading c.args.refusal.now.cause) (refusal_parts c.args.catalogue.now c.args.refusal.now c.args.line.now) c.in_ok-write_heading.ensures c.write_about.ensures
