use Rattle.std.proofs.Common.{ℕ, List, subst}
use Rattle.iv_text.specs.Writing.{Writes}
use Rattle.iv_explain.proofs.GeneratedNames.{parts_are}
use Rattle.iv_explain.proofs.json_name.write_generated_name.Goals as goal

pub returns : goal.returns
returns g c =
    subst (λ (l : List ℕ). Writes (g.W.Sink.state c.args.writer.now) (g.W.Sink.state c.write_generated_parts.new.writer) c.write_generated_parts.result l)
    (parts_are c.args.table.now c.args.place) c.write_generated_parts.ensures
