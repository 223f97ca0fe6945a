-- A session that was just opened.
use Rattle.std.specs.Prelude.{◌≡◌, false, [], None, Ok}
use Rattle.iv_account.specs.Telling.{no_account}
use Rattle.iv_machine.specs.Bounds.{Bounds}
use Rattle.iv_machine.specs.declared.answer.Answer.TheVariants.{Done}
use Rattle.iv_machine.specs.Machine.{empty_state, no_work}
use Rattle.iv_shown.specs.declared.connection.Connection.{Connection}

-- The state is that of no table, with these limits. Nothing was done yet: no statement was read or executed, no value was bound, nothing was looked up or looked
-- for, and nothing was written or dumped. No account is asked for.
pub record IsNew (limits : Bounds) (c : Connection) : Type 0 where
  pub state : c.session.state ≡ empty_state limits
  pub work : c.session.work ≡ no_work
  pub lookups : c.session.lookups ≡ 0
  pub limits_are : c.limits ≡ limits
  pub statements : c.statements ≡ []
  pub fault : c.fault ≡ None
  pub text : c.text ≡ record { text = []; holes = 0 }
  pub values : c.values ≡ []
  pub outcome : c.outcome ≡ Ok Done
  pub executed : c.executed ≡ None
  pub untold : c.is_told ≡ false
  pub pending : c.pending.items ≡ []
  pub transcript : c.transcript.items ≡ []
  pub dump : c.dump.items ≡ []
  pub account : c.session.account ≡ no_account false
