-- A dump that is kept, and whether there is one.
use Rattle.std.specs.Prelude.{◌≡◌, ◌≢◌, ℕ, List, map, MatchBool, string_bytes}
use Rattle.iv_machine.specs.Machine.{State, is_open}
use Rattle.iv_shown.specs.declared.connection.Connection.{Connection}
use Rattle.iv_shown.specs.declared.status.TheConstants.{OK, IN_TRANSACTION, NO_MEMORY, NOT_RESTORED, TOO_LONG}

-- the scripts of the last dump
abbrev pub scripts_of : Connection → List (List ℕ)
scripts_of c = map string_bytes c.dump.items

-- A dump is refused while a transaction is open. Otherwise a statement may be too long for a script, the scripts may fail to make the same
-- database again, or an allocation may fail.
abbrev pub IsDumpStatus : State → ℕ → Type 0
IsDumpStatus s result = MatchBool (is_open s) (result ≡ IN_TRANSACTION) (result ≢ OK → result ≢ TOO_LONG → result ≢ NOT_RESTORED → result ≡ NO_MEMORY)
