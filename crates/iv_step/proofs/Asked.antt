-- Whether an account is asked for stays.
use Rattle.std.proofs.Common.{◌≡◌, inl, inr, Bool, true, false, List, Result, MatchBool, ap, sym, ◌∙◌}
use Rattle.iv_syntax.specs.declared.statement.Statement.{Statement}
use Rattle.iv_catalogue.specs.declared.cause.Refusal.{Refusal}
use Rattle.iv_catalogue.specs.Refusals.{is_memory}
use Rattle.iv_machine.specs.declared.answer.Answer.{Answer}
use Rattle.iv_machine.specs.Machine.{State}
use Rattle.iv_resolution.specs.Resolution.{resolution}
use Rattle.iv_account.specs.declared.entry.Entry.{Entry}
use Rattle.iv_account.specs.Telling.{Account, MayTell, no_account}
use Rattle.iv_step.specs.Telling.{Tells, may_be_untold, statement_told}

may_tell_asked : (may asked : Bool) (account : Account) (entries : List Entry) → MayTell may (no_account asked) account entries → account.asked ≡ asked
may_tell_asked false asked account entries told = ap (λ (x : Account). x.asked) told
may_tell_asked true asked account entries (inl told) = ap (λ (x : Account). x.asked) told
may_tell_asked true asked account entries (inr none) = ap (λ (x : Account). x.asked) none.1 ∙ sym none.0

-- whether an account is asked for stays after each statement
pub asked_stays : (asked : Bool) (s : State) (st : Statement) (r : Result Answer Refusal) (account : Account) → Tells asked s st r account → account.asked ≡ asked
asked_stays asked s st r account told = by (is_memory r) told where
  by : (b : Bool) → MatchBool b (account ≡ no_account asked) (MayTell (may_be_untold (resolution s.schema st)) (no_account asked) account (statement_told s st)) → account.asked ≡ asked
  by true none = ap (λ (x : Account). x.asked) none
  by false told = may_tell_asked (may_be_untold (resolution s.schema st)) asked account (statement_told s st) told
