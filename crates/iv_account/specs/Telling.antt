-- An account while it is told.
use Rattle.std.specs.Prelude.{◌≡◌, Bool, true, false, if◌then◌else◌, List, [], ◌++◌, ◌⊎◌}
use Rattle.iv_account.specs.declared.entry.Entry.{Entry}

-- Whether an account is asked for, what was told so far, and whether it could not be allocated, so that it is empty.
pub record Account : Type 0 where
  pub asked : Bool
  pub entries : List Entry
  pub untold : Bool

-- with these entries more, if it is asked for
abbrev pub and_told : Account → List Entry → Account
and_told account entries = record account { entries = if account.asked then account.entries ++ entries else account.entries }

-- nothing told so far
abbrev pub no_account : Bool → Account
no_account asked = record { asked = asked; entries = []; untold = false }

-- an account that is asked for and could not be allocated
abbrev pub untold_account : Account
untold_account = record { asked = true; entries = []; untold = true }

-- These entries are told; or, if that may be and an account is asked for, they could not be allocated: nothing is told, and the account
-- says so.
abbrev pub MayTell : Bool → Account → Account → List Entry → Type 0
MayTell false old new entries = new ≡ and_told old entries
MayTell true old new entries = (new ≡ and_told old entries) ⊎ ((old.asked ≡ true) × (new ≡ untold_account))
