-- Where a statement is refused since a number is out of range or a text is too long, what failed is found: an account tells it there, and by
-- `failure_told` nowhere else.
use Rattle.std.specs.Prelude.{◌≡◌, true, is_some, List, Err}
use Rattle.iv_expr.specs.declared.row.StoredRow.{StoredRow}
use Rattle.iv_expr.specs.declared.row.Change.{Change}
use Rattle.iv_expr.specs.declared.tree.ExprFault.{ExprFault}
use Rattle.iv_expr.specs.Evaluation.{truth}
use Rattle.iv_expr.specs.Scopes.{Frame, scope_of}
use Rattle.iv_catalogue.specs.Refusals.{cause_of}
use Rattle.iv_catalogue.specs.declared.cause.Cause.{Cause}
use Rattle.iv_catalogue.specs.declared.cause.Refusal.{Refusal}
use Rattle.iv_catalogue.specs.declared.plan.DataStatement.{DataStatement}
use Rattle.iv_catalogue.specs.declared.plan.QueryPlan.{QueryPlan}
use Rattle.iv_catalogue.specs.declared.plan.Setting.{Setting}
use Rattle.iv_catalogue.specs.declared.plan.Trigger.{Trigger}
use Rattle.iv_machine.specs.declared.database.Database.{Database}
use Rattle.iv_machine.specs.Context.{Context}
use Rattle.iv_machine.specs.Proposals.{proposed_wave}
use Rattle.iv_machine.specs.BeforeTriggers.{change_after_set}
use Rattle.iv_machine.specs.Machine.{State, query_outcome}
use Rattle.iv_account.specs.Accounts.{tells_failure}
use Rattle.iv_account.specs.Failures.{proposal_failure, query_failure, set_failure, when_failure}

-- in what a statement proposes
abbrev pub ProposalFailuresAreFound : Type 0
ProposalFailuresAreFound =
    (w : Context) (db : Database) (frame : Frame) (d : DataStatement) (cause : Cause)
    → proposed_wave w db frame d ≡ Err cause → tells_failure cause ≡ true → is_some (proposal_failure w.schema db.rows frame d) ≡ true

-- in the WHEN of a trigger
abbrev pub WhenFailuresAreFound : Type 0
WhenFailuresAreFound =
    (rows : List StoredRow) (t : Trigger) (frame : Frame) (fault : ExprFault)
    → truth (scope_of frame rows) t.when ≡ Err fault → tells_failure (cause_of fault) ≡ true → is_some (when_failure rows t frame) ≡ true

-- in a SET at a change
abbrev pub SetFailuresAreFound : Type 0
SetFailuresAreFound =
    (w : Context) (rows : List StoredRow) (s : Setting) (c : Change) (cause : Cause)
    → change_after_set w rows s c ≡ Err cause → tells_failure cause ≡ true → is_some (set_failure w.schema rows s c) ≡ true

-- in a query
abbrev pub QueryFailuresAreFound : Type 0
QueryFailuresAreFound =
    (s : State) (q : QueryPlan) (refusal : Refusal)
    → (query_outcome s q).answer ≡ Err refusal → tells_failure refusal.cause ≡ true → is_some (query_failure s.database.rows q) ≡ true
