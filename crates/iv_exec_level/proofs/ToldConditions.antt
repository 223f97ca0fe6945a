-- A trigger is told by the truth of its WHEN, or what failed in that.
use Rattle.std.proofs.Common.{◌≡◌, ◌∙◌, Bool, true, false, if◌then◌else◌, List, [], ◌∷◌, Result, ap, sym}
use Rattle.iv_value.specs.declared.value.Truth.{Truth}
use Rattle.iv_value.specs.Truths.{is_true}
use Rattle.iv_catalogue.specs.declared.cause.Cause.{Cause}
use Rattle.iv_catalogue.specs.declared.cause.Refusal.{Refusal}
use Rattle.iv_machine.specs.BeforeTriggers.{placed_statements}
use Rattle.iv_machine.specs.Levels.{Firing, Progress, Runs}
use Rattle.iv_laws_rows.specs.Changing.{UnlessMemory}
use Rattle.iv_account.specs.declared.entry.Entry.{Entry}
use Rattle.iv_account.specs.Accounts.{Tells, body_told, failure_told, fired_told, firing_told, ran_or_skipped}
use Rattle.iv_account.specs.Failures.{when_failure}
use Rattle.iv_account.specs.Telling.{Account, and_told}
use Rattle.iv_account.proofs.Telling.{then_tell}
use Rattle.iv_exec_level.proofs.ToldLevels.{unless_as}

-- what is told of a WHEN that fails
abbrev pub when_failed : Firing → Progress → Cause → List Entry
when_failed x at cause = failure_told cause (when_failure at.database.rows x.trigger x.frame)

module _ (run : Runs) (tell : Tells) (x : Firing) (at : Progress) (account mid : Account) (when : Truth)
    (by_truth : firing_told run tell x at ≡ fired_told run tell x at when)
    (asked : mid ≡ and_told account (ran_or_skipped x.trigger x.frame when ∷ [])) where
  -- with its body or without
  with_body : (b : Bool) → b ≡ is_true when
      → and_told account (ran_or_skipped x.trigger x.frame when ∷ (if b then body_told run tell x (placed_statements x.trigger) at else []))
      ≡ and_told account (firing_told run tell x at)
  with_body b is =
      ap (λ (c : Bool). and_told account (ran_or_skipped x.trigger x.frame when ∷ (if c then body_told run tell x (placed_statements x.trigger) at else []))) is
      ∙ ap (and_told account) (sym by_truth)

  pub body_told_after : {A : Type 0} (r : Result A Refusal) (later : Account) → true ≡ is_true when
      → UnlessMemory r (later ≡ and_told mid (body_told run tell x (placed_statements x.trigger) at))
      → UnlessMemory r (later ≡ and_told account (firing_told run tell x at))
  body_told_after r later is told =
      unless_as r (later ≡ and_told mid (body_told run tell x (placed_statements x.trigger) at)) (later ≡ and_told account (firing_told run tell x at))
      (λ e. then_tell account mid later (ran_or_skipped x.trigger x.frame when ∷ []) (body_told run tell x (placed_statements x.trigger) at) asked e ∙ with_body true is)
      told

  pub nothing_after : false ≡ is_true when → mid ≡ and_told account (firing_told run tell x at)
  nothing_after is = asked ∙ with_body false is
