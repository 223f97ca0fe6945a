use Rattle.std.proofs.Common.{List, slice_get, subst, sym}
use Rattle.iv_value.specs.declared.value.Value.{Value}
use Rattle.iv_catalogue.specs.declared.constraint.Rule.{Rule}
use Rattle.iv_print.specs.JsonAccounts.{check_members, rule_members}
use Rattle.iv_text.specs.Rules.{columns_of}
use Rattle.iv_text.specs.Writing.{Writes}
use Rattle.iv_print.proofs.json_account.write_rule.Goals as goal

pub returns-in-Check : goal.returns-in-Check
returns-in-Check g c =
    let s0 = g.W.Sink.state c.args.sink.now in
    let s1 = g.W.Sink.state c.write_check_members.new.sink in
    let s = c.args.catalogue.now in
    let table = c.args.constraint.now.table in
    subst (λ (r : Rule). Writes s0 s1 c.write_check_members.result (rule_members s c.args.outcome.now c.args.row.now c.args.others.now table r)) (sym c.in-Check.is)
    (subst (λ (v : List Value). Writes s0 s1 c.write_check_members.result (check_members (columns_of (slice_get s.tables table)) v c.in-Check.condition))
    c.values-in-Check.ensures c.write_check_members.ensures)
