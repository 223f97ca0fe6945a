use Rattle.std.proofs.Common.{◌++◌, ℕ, codes, decimal, subst}
use Rattle.iv_text.specs.Spelled.{spelled}
use Rattle.iv_text.specs.Writing.{Writes}
use Rattle.iv_text.proofs.way.tell_used.Goals as goal

pub returns : goal.returns
returns g c =
    subst (λ (n : ℕ). Writes (g.W.Sink.state c.args.writer.now) (g.W.Sink.state c.tell_most.new.writer) c.tell_most.result
    (spelled c.args.format ((codes "counted so far " ++ decimal n) ++ (codes ", " ++ (decimal c.args.limits.changes ++ codes " is the most, and this or the next row changes are too many")))))
    c.used_so_far.ensures
    (subst (λ (m : ℕ). Writes (g.W.Sink.state c.args.writer.now) (g.W.Sink.state c.tell_most.new.writer) c.tell_most.result
    (spelled c.args.format ((codes "counted so far " ++ decimal c.used_so_far.result) ++ (codes ", " ++ (decimal m ++ codes " is the most, and this or the next row changes are too many")))))
    c.most_in_a_statement.ensures c.tell_most.ensures)
