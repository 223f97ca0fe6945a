-- What executing a statement does, as the clauses of `Session::execute` say it.
use Rattle.std.specs.Prelude.{◌≡◌, ◌-◌, Bool, true, false, Result, MatchBool}
use Rattle.iv_session.specs.Types.{Statement, Refusal, Answer}
use Rattle.iv_catalogue.specs.Refusals.{is_memory}
use Rattle.iv_laws_rows.specs.Changing.{UnlessMemory}
use Rattle.iv_step.specs.Step.{Executes, step, takes_no_memory}
use Rattle.iv_step.specs.Sure.{is_rollback_to}
use Rattle.iv_step.specs.Telling.{Tells}
use Rattle.iv_state.specs.Kept.{Seen}
use Rattle.iv_session.specs.FewLookups.{FewLookups, defines_schema}

-- A session executed a statement with this outcome; `sure_back` says whether going back to a savepoint allocates nothing.
pub record Executed (sure_back : Bool) (old : Seen) (st : Statement) (r : Result Answer Refusal) (new : Seen) : Type 0 where
  pub step_is : Executes old.state st r new.state
  pub sure : takes_no_memory old.state st ≡ true → is_memory r ≡ false
  pub sure_store : sure_back ≡ true → is_rollback_to st ≡ true → is_memory r ≡ false
  pub work : MatchBool (is_memory r) (Unit {0}) (new.work ≡ (step old.state st).work)
  pub lookups : new.lookups ≡ new.looked_up - old.looked_up
  pub bounded : defines_schema st ≡ false → UnlessMemory r (FewLookups old.state new)
  pub told : Tells old.account.asked old.state st r new.account
