-- What a plan tells.
use Rattle.std.specs.Prelude.{◌≡◌, ℕ, List, [], ◌∷◌, Result, Ok, Err, MatchBool}
use Rattle.iv_expr.specs.declared.row.StoredRow.{StoredRow}
use Rattle.iv_state.specs.Types.{Refusal, Answer, Constraint, Plan}
use Rattle.iv_catalogue.specs.Refusals.{is_memory}
use Rattle.iv_machine.specs.Machine.{State}
use Rattle.iv_store.specs.declared.fault.AddFault.{AddFault}
use Rattle.iv_store.specs.declared.fault.AddFault.TheVariants as fault
use Rattle.iv_account.specs.Accounts.{not_added_told}
use Rattle.iv_account.specs.Sessions.{plan_told, runs_untold}
use Rattle.iv_account.specs.Telling.{Account, MayTell, and_told}

-- What is told of a plan, unless an allocation failed. A COMMIT never fails for lack of memory, and a ROLLBACK TO SAVEPOINT not for its
-- account; if that can't be allocated, it is empty.
abbrev pub TellsPlan : State → Plan → Result Answer Refusal → Account → Account → Type 0
TellsPlan s p r old new = MatchBool (is_memory r) (Unit {0}) (MayTell (runs_untold p) old new (plan_told s p))

-- What is told of a constraint that a store with these rows doesn't take: the row that violates it, unless an allocation failed.
abbrev pub TellsFault : List StoredRow → Constraint → AddFault → Account → Account → Type 0
TellsFault rows k (fault.Row number) old new = new ≡ and_told old (not_added_told rows k number ∷ [])
TellsFault rows k fault.NoMemory old new = Unit {0}

-- What is told by whether the store takes it: nothing if it does.
abbrev pub TellsAddition : {A : Type 0} → List StoredRow → Constraint → Result A AddFault → Account → Account → Type 0
TellsAddition rows k (Ok a) old new = new ≡ old
TellsAddition rows k (Err f) old new = TellsFault rows k f old new
