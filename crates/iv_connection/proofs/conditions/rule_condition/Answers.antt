use Rattle.std.proofs.Common.{ℕ, List, string_bytes, subst, sym}
use Rattle.iv_catalogue.specs.declared.constraint.Rule.{Rule}
use Rattle.iv_resolution.specs.Scopes.{NamedColumn}
use Rattle.iv_restate.specs.Constraints.{columns_at}
use Rattle.iv_connection.specs.Conditions.{SaysCheck, SaysRule}
use Rattle.iv_connection.proofs.conditions.rule_condition.Goals as goal

pub returns-in_ok-text-in-Check-2-clause-says : goal.returns-in_ok-text-in-Check-2-clause-says
returns-in_ok-text-in-Check-2-clause-says c =
    subst (λ (r : Rule). SaysRule (columns_at c.args.catalogue.now.tables c.args.table) r (string_bytes c.in_ok-text-in-Check-2.text)) (sym c.in-Check.is)
    (subst (SaysCheck (columns_at c.args.catalogue.now.tables c.args.table) c.in-Check.condition) (sym c.in_ok-text-in-Check-2.ensures.same)
    (subst (λ (cs : List NamedColumn). SaysCheck cs c.in-Check.condition (string_bytes c.in_ok-text-in-Check.text)) c.columns_of.ensures c.in_ok-text-in-Check.ensures.says))
