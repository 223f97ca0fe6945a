use Rattle.std.proofs.Common.{List, slice_get, subst, sym}
use Rattle.iv_value.specs.declared.value.Value.{Value}
use Rattle.iv_catalogue.specs.declared.constraint.Rule.{Rule}
use Rattle.iv_print.specs.AccountLines.{check_text, rule_text}
use Rattle.iv_text.specs.Rules.{columns_of}
use Rattle.iv_text.specs.Writing.{Writes}
use Rattle.iv_print.proofs.account.write_rule.Goals as goal

pub returns-in-Check : goal.returns-in-Check
returns-in-Check g c =
    let s0 = g.W.Sink.state c.args.sink.now in
    let s1 = g.W.Sink.state c.write_check.new.sink in
    let s = c.args.catalogue.now in
    let table = c.args.constraint.now.table in
    subst (λ (r : Rule). Writes s0 s1 c.write_check.result (rule_text s c.args.outcome.now c.args.row.now c.args.others.now table r)) (sym c.in-Check.is)
    (subst (λ (v : List Value). Writes s0 s1 c.write_check.result (check_text (columns_of (slice_get s.tables table)) v c.in-Check.condition)) c.values-in-Check.ensures
    c.write_check.ensures)

pub returns-in-NotNull : goal.returns-in-NotNull
returns-in-NotNull g c =
    let s0 = g.W.Sink.state c.args.sink.now in
    let s1 = g.W.Sink.state c.write_null.new.sink in
    subst (λ (r : Rule). Writes s0 s1 c.write_null.result
    (rule_text c.args.catalogue.now c.args.outcome.now c.args.row.now c.args.others.now c.args.constraint.now.table r)) (sym c.in-NotNull.is) c.write_null.ensures
