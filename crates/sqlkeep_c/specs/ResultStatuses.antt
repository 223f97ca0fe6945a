-- Which status a call with a result answers.
use Rattle.std.specs.Prelude.{◌≡◌, ◌≢◌, ℕ, Option, Some, None}
use Rattle.iv_connection.specs.Results.{rows_given}
use Rattle.iv_shown.specs.declared.status.TheConstants.{OK, CLOSED, OPEN, NO_MEMORY, NOTHING}
use Rattle.sqlkeep_c.specs.Behind.{Behind}
use Rattle.sqlkeep_c.specs.BehindResult.{Rows}

-- an empty result is closed; otherwise its rows decide
abbrev pub result_status_by : (Rows → ℕ) → Option Rows → ℕ
result_status_by f None = CLOSED
result_status_by f (Some rows) = f rows

-- of a call that does what it is for wherever there are rows
abbrev pub result_status : Option Rows → ℕ
result_status rows = result_status_by (λ r. OK) rows

-- Of taking rows: the session is closed; or the result holds rows already; or the last outcome is none of a query; or memory may be refused.
abbrev pub IsStatusOfTaking : Option Behind → Option Rows → ℕ → Type 0
IsStatusOfTaking None rows result = result ≡ CLOSED
IsStatusOfTaking (Some opened) (Some rows) result = result ≡ OPEN
IsStatusOfTaking (Some opened) None result =
    result ≢ OK → result ≢ NO_MEMORY → (result ≡ NOTHING) × (rows_given opened.outcome ≡ None)
