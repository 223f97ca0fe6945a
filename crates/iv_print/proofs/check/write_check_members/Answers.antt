use Rattle.std.proofs.Common.{List, Option, slice_get, subst, ap, ◌∙◌}
use Rattle.iv_catalogue.specs.declared.catalogue.Column.{Column}
use Rattle.iv_print.specs.JsonAccounts.{check_members}
use Rattle.iv_text.specs.Rules.{columns_of}
use Rattle.iv_text.specs.Writing.{Writes}
use Rattle.iv_print.proofs.check.write_check_members.Goals as goal

pub returns : goal.returns
returns g c =
    subst (λ (l : List Column). Writes (g.W.Sink.state c.args.sink.now) (g.W.Sink.state c.write_members.new.sink) c.write_members.result
    (check_members l c.args.row.now c.args.condition.now)) (c.columns_of.ensures ∙ ap columns_of c.table.ensures) c.write_members.ensures
