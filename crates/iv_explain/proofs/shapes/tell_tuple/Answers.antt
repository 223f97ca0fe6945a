use Rattle.std.proofs.Common.{◌++◌, codes, refl}
use Rattle.std.proofs.Common.{decimal}
use Rattle.iv_explain.specs.Reasons.{counts_text}
use Rattle.iv_text.proofs.SpelledLemmas.{three}
use Rattle.iv_explain.proofs.shapes.tell_tuple.Goals as goal

pub returns : goal.returns
returns g c =
    three c.args.format (g.W.Sink.state c.args.writer.now) (g.W.Sink.state c.tell.new.writer) (g.W.Sink.state c.tell_part.new.writer) (g.W.Sink.state c.tell_counted.new.writer) c.tell_counted.result
    (codes "tuple ") (decimal c.args.number) (codes " has " ++ counts_text c.args.values c.args.columns c.args.table.now)
    (codes "tuple " ++ (decimal c.args.number ++ (codes " has " ++ counts_text c.args.values c.args.columns c.args.table.now)))
    refl c.in_ok-tell.ensures c.in_ok-tell_part.ensures c.tell_counted.ensures
