-- Members are there if there are violations.
use Rattle.std.proofs.Common.{◌≡◌, refl, ◌≤◌, List, [], ◌∷◌, ◌++◌, codes, length, Ok, arith}
use Rattle.iv_catalogue.specs.Catalogues.{Schema}
use Rattle.iv_catalogue.specs.declared.cause.Fault.{Fault}
use Rattle.iv_machine.specs.declared.answer.Answer.TheVariants.{Done}
use Rattle.iv_account.specs.declared.entry.Entry.{Entry}
use Rattle.iv_text.specs.Json.{member}
use Rattle.iv_print.specs.JsonAccounts.{entry_list}
use Rattle.iv_print.specs.PendingLines.{came_member, went_member, went_objects}

pub came_some : (s : Schema) (entries : List Entry) → 1 ≤ length entries
    → came_member s entries ≡ member (codes "now_pending") ++ entry_list s (Ok Done) entries
came_some s [] h = absurd (omega (arith, h))
came_some s (e ∷ entries) h = refl

pub went_some : (s : Schema) (faults : List Fault) → 1 ≤ length faults
    → went_member s faults ≡ member (codes "no_longer_pending") ++ (codes "[" ++ (went_objects s faults ++ codes "]"))
went_some s [] h = absurd (omega (arith, h))
went_some s (f ∷ faults) h = refl
