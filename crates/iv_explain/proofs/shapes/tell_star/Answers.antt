use Rattle.std.proofs.Common.{◌++◌, codes, refl}
use Rattle.iv_explain.specs.Reasons.{typed_text}
use Rattle.iv_text.proofs.SpelledLemmas.{two}
use Rattle.iv_explain.proofs.shapes.tell_star.Goals as goal

pub returns : goal.returns
returns g c =
    two c.args.format (g.W.Sink.state c.args.writer.now) (g.W.Sink.state c.tell_typed.new.writer) (g.W.Sink.state c.tell_and_typed.new.writer) c.tell_and_typed.result
    (typed_text c.args.from.now c.args.given.now c.args.given_kind) (codes ", and " ++ typed_text c.args.table.now c.args.column.now c.args.kind)
    (typed_text c.args.from.now c.args.given.now c.args.given_kind ++ (codes ", and " ++ typed_text c.args.table.now c.args.column.now c.args.kind))
    refl c.in_ok-tell_typed.ensures c.tell_and_typed.ensures
