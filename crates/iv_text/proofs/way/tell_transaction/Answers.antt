use Rattle.std.proofs.Common.{◌++◌, ℕ, codes, decimal, subst}
use Rattle.iv_text.specs.Spelled.{spelled}
use Rattle.iv_text.specs.Writing.{Writes}
use Rattle.iv_text.proofs.way.tell_transaction.Goals as goal

pub returns : goal.returns
returns g c =
    subst (λ (n : ℕ). Writes (g.W.Sink.state c.args.writer.now) (g.W.Sink.state c.tell_number_between.new.writer) c.tell_number_between.result
    (spelled c.args.format (codes "a transaction has at most " ++ (decimal n ++ codes " row changes")))) c.most_in_a_transaction.ensures c.tell_number_between.ensures
