-- What is told of a statement, by its resolution.
use Rattle.std.specs.Prelude.{◌≡◌, Bool, true, false, if◌then◌else◌, List, [], Some, None, Result, Ok, Err, MatchBool}
use Rattle.iv_syntax.specs.declared.statement.Statement.{Statement}
use Rattle.iv_catalogue.specs.declared.cause.Refusal.{Refusal}
use Rattle.iv_catalogue.specs.declared.plan.Plan.{Plan}
use Rattle.iv_catalogue.specs.Refusals.{is_memory}
use Rattle.iv_machine.specs.declared.answer.Answer.{Answer}
use Rattle.iv_machine.specs.Machine.{State, is_open, occasion_of, transaction_cause}
use Rattle.iv_resolution.specs.Resolution.{resolution}
use Rattle.iv_account.specs.declared.entry.Entry.{Entry}
use Rattle.iv_account.specs.Sessions.{plan_told, runs_untold}
use Rattle.iv_account.specs.Telling.{Account, MayTell, no_account}

-- what is told of a statement's resolution
abbrev pub resolution_told : State → Result Plan Refusal → List Entry
resolution_told s (Ok p) = plan_told s p
resolution_told s (Err r) = []

-- What is told of a statement: nothing if it is refused for the transaction that is open or isn't, or has no meaning.
abbrev pub statement_told : State → Statement → List Entry
statement_told s st = elim (transaction_cause (is_open s) (occasion_of st)) [ Some cause ↦ [] | None ↦ resolution_told s (resolution s.schema st) ]

-- the statement means a COMMIT or a ROLLBACK TO SAVEPOINT, which runs even if its account can't be allocated, and is told nothing then
abbrev pub may_be_untold : Result Plan Refusal → Bool
may_be_untold (Ok p) = runs_untold p
may_be_untold (Err r) = false

-- The account after a statement: what is told of only this statement if an account is asked for, and nothing if an allocation failed.
abbrev pub Tells : Bool → State → Statement → Result Answer Refusal → Account → Type 0
Tells asked s st r account =
    MatchBool (is_memory r) (account ≡ no_account asked) (MayTell (may_be_untold (resolution s.schema st)) (no_account asked) account (statement_told s st))
