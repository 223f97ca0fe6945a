use Rattle.std.proofs.Common.{◌++◌, ◌∙◌, ℕ, List, codes, ap, sym}
use Rattle.iv_text.proofs.SpelledLemmas.{three}
use Rattle.iv_explain.proofs.names.tell_qualified.Goals as goal

pub returns : goal.returns
returns g c =
    three c.args.format (g.W.Sink.state c.args.writer.now) (g.W.Sink.state c.tell.new.writer) (g.W.Sink.state c.tell-2.new.writer) (g.W.Sink.state c.tell_both.new.writer) c.tell_both.result
    (codes "column ") c.as_bytes.result.now (codes "." ++ c.as_bytes-2.result.now)
    (codes "column " ++ (c.args.range.now ++ (codes "." ++ c.args.name.now)))
    (ap (λ (l : List ℕ). codes "column " ++ (l ++ (codes "." ++ c.args.name.now))) (sym c.as_bytes.ensures.value)
    ∙ ap (λ (l : List ℕ). codes "column " ++ (c.as_bytes.result.now ++ (codes "." ++ l))) (sym c.as_bytes-2.ensures.value))
    c.in_ok-tell.ensures c.in_ok-tell-2.ensures c.tell_both.ensures
