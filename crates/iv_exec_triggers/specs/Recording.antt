-- What a part of a data statement records in the account of the statement.
use Rattle.std.specs.Prelude.{◌≡◌, List, Result}
use Rattle.iv_catalogue.specs.declared.cause.Refusal.{Refusal}
use Rattle.iv_laws_rows.specs.Changing.{UnlessMemory}
use Rattle.iv_account.specs.declared.entry.Entry.{Entry}
use Rattle.iv_account.specs.Telling.{Account, and_told}

-- these entries are recorded, even if the part is refused; if an allocation failed nothing is said
abbrev pub Records : {A : Type 0} → Result A Refusal → Account → Account → List Entry → Type 0
Records result old new entries = UnlessMemory result (new ≡ and_told old entries)
