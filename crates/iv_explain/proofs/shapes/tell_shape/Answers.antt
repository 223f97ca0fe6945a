use Rattle.std.proofs.Common.{subst, sym}
use Rattle.iv_text.specs.Writing.{Writes}
use Rattle.iv_resolve_reasons.specs.Seen.{shape_seen}
use Rattle.iv_resolve_reasons.specs.declared.shape.ShapeFault.{ShapeFault}
use Rattle.iv_explain.specs.Reasons.{shape_text}
use Rattle.iv_text.specs.Spelled.{spelled}
use Rattle.iv_explain.proofs.shapes.tell_shape.Goals as goal

pub returns-in-QueryCount : goal.returns-in-QueryCount
returns-in-QueryCount g c =
    subst (λ (x : ShapeFault). Writes (g.W.Sink.state c.args.writer.now) (g.W.Sink.state c.tell_counted.new.writer) c.tell_counted.result (spelled c.args.format (shape_text (shape_seen x))))
    (sym c.in-QueryCount.is) c.tell_counted.ensures
