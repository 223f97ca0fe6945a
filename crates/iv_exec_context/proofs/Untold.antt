-- Where no failure is told.
use Rattle.std.proofs.Common.{◌≡◌, refl, ◌∙◌, Bool, true, false, ◌&&◌, if◌then◌else◌, Option, Some, None, List, [], ◌∷◌, ◌++◌, ap, sym}
use Rattle.iv_catalogue.specs.declared.cause.Cause.{Cause}
use Rattle.iv_account.specs.declared.entry.Entry.{Entry}
use Rattle.iv_account.specs.declared.entry.Entry.TheVariants.{Failed}
use Rattle.iv_account.specs.declared.failure.FailedEvaluation.{FailedEvaluation}
use Rattle.iv_account.specs.Accounts.{failure_told, tells_failure}
use Rattle.iv_account.specs.Telling.{Account, and_told}
use Rattle.iv_account.proofs.Telling.{told_none}

none_of_cause : (cause : Cause) (failure : Option FailedEvaluation) → tells_failure cause ≡ false → failure_told cause failure ≡ []
none_of_cause cause None e = refl
none_of_cause cause (Some f) e = ap (λ b. if b then Failed f ∷ [] else []) e

-- an account that isn't asked for keeps its entries
kept : (a : Account) (entries : List Entry) → a.asked ≡ false → a ≡ and_told a entries
kept a entries e = λ i. record { asked = a.asked; entries = by a.asked e i; untold = a.untold }
  where
    by : (b : Bool) → b ≡ false → a.entries ≡ (if b then a.entries ++ entries else a.entries)
    by true e = cc
    by false e = refl

pub nothing_told : (a : Account) (cause : Cause) (failure : Option FailedEvaluation) → (a.asked && tells_failure cause) ≡ false
    → a ≡ and_told a (failure_told cause failure)
nothing_told a cause failure e = by a.asked refl e
  where
    by : (b : Bool) → a.asked ≡ b → (b && tells_failure cause) ≡ false → a ≡ and_told a (failure_told cause failure)
    by true is e = sym (told_none a) ∙ ap (and_told a) (sym (none_of_cause cause failure e))
    by false is e = kept a (failure_told cause failure) is

pub unasked : (a : Account) (cause : Cause) → a.asked ≡ false → (a.asked && tells_failure cause) ≡ false
unasked a cause e = ap (λ b. b && tells_failure cause) e
