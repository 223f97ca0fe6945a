use Rattle.std.proofs.Common.{◌≡◌, ◌∙◌, false, subst, sym}
use Rattle.iv_machine.specs.Types.{NullTreatment}
use Rattle.iv_machine.specs.Databases.{shares_key}
use Rattle.iv_account.proofs.KeyAsked.{distinct_shares}
use Rattle.iv_account.proofs.equal.is_distinct.Goals as goal

pub returns-in-Distinct : goal.returns-in-Distinct
returns-in-Distinct c = λ is other.
    subst (λ (nulls : NullTreatment). shares_key nulls c.args.columns.now c.args.row.now other ≡ false) (sym c.in-Distinct.is)
    (distinct_shares c.args.columns.now c.args.row.now (sym c.has_null.ensures ∙ is) other)
