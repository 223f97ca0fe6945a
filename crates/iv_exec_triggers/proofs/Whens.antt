-- A condition takes effect, and is told, by its truth.
use Rattle.std.proofs.Common.{◌≡◌, refl, Bool, List, Result, Ok, Err}
use Rattle.iv_value.specs.declared.value.Truth.{Truth}
use Rattle.iv_value.specs.Truths.{is_true}
use Rattle.iv_expr.specs.declared.tree.Cond.{Cond}
use Rattle.iv_expr.specs.declared.tree.ExprFault.{ExprFault}
use Rattle.iv_expr.specs.Evaluation.{and_then, truth}
use Rattle.iv_expr.specs.Scopes.{Scope}
use Rattle.iv_catalogue.specs.declared.cause.Cause.{Cause}
use Rattle.iv_catalogue.specs.Refusals.{cause_of}
use Rattle.iv_machine.specs.Proposals.{holds, with_cause}
use Rattle.iv_account.specs.declared.entry.Entry.{Entry}
use Rattle.iv_account.specs.Accounts.{told_or}

pub effect_of_truth : (s : Scope) (c : Cond) → holds s c ≡ and_then (with_cause (truth s c)) (λ t. Ok (is_true t))
effect_of_truth s c = by (truth s c)
  where
    by : (r : Result Truth ExprFault)
        → ◌≡◌ {A = Result Bool Cause} (elim r [ Ok t ↦ Ok (is_true t) | Err fault ↦ Err (cause_of fault) ]) (and_then (with_cause r) (λ t. Ok (is_true t)))
    by (Ok t) = refl
    by (Err fault) = refl

pub told_of_truth : (s : Scope) (c : Cond) (failed : Cause → List Entry) (tell : Truth → List Entry)
    → told_or (truth s c) (λ fault. failed (cause_of fault)) tell ≡ told_or (with_cause (truth s c)) failed tell
told_of_truth s c failed tell = by (truth s c)
  where
    by : (r : Result Truth ExprFault) → told_or r (λ fault. failed (cause_of fault)) tell ≡ told_or (with_cause r) failed tell
    by (Ok t) = refl
    by (Err fault) = refl
