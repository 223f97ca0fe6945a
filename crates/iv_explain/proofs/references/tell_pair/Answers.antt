use Rattle.std.proofs.Common.{◌++◌, codes, refl}
use Rattle.iv_explain.specs.Reasons.{own_text, typed_text}
use Rattle.iv_text.proofs.SpelledLemmas.{two}
use Rattle.iv_explain.proofs.references.tell_pair.Goals as goal

pub returns : goal.returns
returns g c =
    two c.args.format (g.W.Sink.state c.args.writer.now) (g.W.Sink.state c.tell_own.new.writer) (g.W.Sink.state c.tell_and_typed.new.writer) c.tell_and_typed.result
    (own_text c.args.column.now c.args.kind) (codes ", and " ++ typed_text c.args.table.now c.args.other.now c.args.other_kind)
    (own_text c.args.column.now c.args.kind ++ (codes ", and " ++ typed_text c.args.table.now c.args.other.now c.args.other_kind))
    refl c.in_ok-tell_own.ensures c.tell_and_typed.ensures
