use Rattle.std.proofs.Common.{◌++◌, ℕ, List, codes, ap, sym}
use Rattle.std.specs.List.{flat_map}
use Rattle.iv_text.specs.Lines.{quote_doubled}
use Rattle.iv_text.proofs.SpelledLemmas.{three}
use Rattle.iv_text.proofs.spelled_value.tell_quoted.Goals as goal

pub returns : goal.returns
returns g c =
    three c.args.format (g.W.Sink.state c.args.writer.now) (g.W.Sink.state c.tell.new.writer) (g.W.Sink.state c.tell_characters.new.writer) (g.W.Sink.state c.tell-2.new.writer) c.tell-2.result
    (codes "'") (flat_map quote_doubled c.as_bytes.result.now) (codes "'")
    (codes "'" ++ (flat_map quote_doubled c.args.text.now ++ codes "'"))
    (ap (λ (l : List ℕ). codes "'" ++ (flat_map quote_doubled l ++ codes "'")) (sym c.as_bytes.ensures.value)) c.in_ok-tell.ensures c.in_ok-tell_characters.ensures c.tell-2.ensures
