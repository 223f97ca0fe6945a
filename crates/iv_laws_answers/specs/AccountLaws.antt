-- What the account of a data statement says of it: its waves lead to the database that the statement leaves, what begins in it ends in it,
-- and a violation is told if the statement is refused for one.
use Rattle.std.specs.Prelude.{◌≡◌, ℕ, suc, ◌-◌, List, [], ◌∷◌, ◌++◌, Option, Some, None, Ok, Err}
use Rattle.iv_expr.specs.Changes.{wave_of}
use Rattle.iv_expr.specs.Scopes.{Frame}
use Rattle.iv_catalogue.specs.declared.cause.Cause.{Cause}
use Rattle.iv_catalogue.specs.declared.cause.Cause.TheVariants.{Restrict, Violation, ActionConflict}
use Rattle.iv_catalogue.specs.declared.cause.Fault.{Fault}
use Rattle.iv_catalogue.specs.declared.plan.DataStatement.{DataStatement}
use Rattle.iv_machine.specs.declared.answer.Answer.{Answer}
use Rattle.iv_machine.specs.declared.database.Database.{Database}
use Rattle.iv_machine.specs.Databases.{database_after}
use Rattle.iv_machine.specs.Context.{Context, Failure}
use Rattle.iv_machine.specs.Levels.{Finished, level}
use Rattle.iv_machine.specs.Machine.{State, change_outcome}
use Rattle.iv_account.specs.declared.entry.Entry.{Entry}
use Rattle.iv_account.specs.declared.entry.Entry.TheVariants.{Changed, Began, Ended, Faulted, Disagreed}
use Rattle.iv_account.specs.Accounts.{if_some, account}
use Rattle.iv_account.specs.Sessions.{change_told}

-- ---- nothing is left out

-- the database after an entry: that after its wave, if it tells one
abbrev pub after_entry : Database → Entry → Database
after_entry db (Changed changes) = database_after db (wave_of changes)
after_entry db _ = db

-- the database after the waves of these entries, one after another
abbrev pub database_told : Database → List Entry → Database
database_told db [] = db
database_told db (entry ∷ entries) = database_told (after_entry db entry) entries

-- The waves that the account of an accepted data statement tells lead from the database before it to the one that it leaves.
abbrev pub LevelsAreTold : Type 0
LevelsAreTold =
    (deeper : ℕ) (context : Context) (statement : DataStatement) (frame : Frame) (db : Database) (budget : ℕ) (done : Finished)
    → level deeper context statement frame db budget ≡ Ok done
    → database_told db (account deeper context statement frame db budget) ≡ done.database

-- The same holds in a session: the waves lead from the database of its state to that of the state after the statement.
abbrev pub StatementsAreTold : Type 0
StatementsAreTold =
    (s : State) (d : DataStatement) (answer : Answer)
    → (change_outcome s d).answer ≡ Ok answer
    → database_told s.database (change_told s d) ≡ (change_outcome s d).state.database

-- ---- what begins ends

-- how many data statements of triggers' bodies have begun and not ended, after an entry, and after entries
abbrev pub running_after : ℕ → Entry → ℕ
running_after running (Began place) = suc running
running_after running Ended = running - 1
running_after running _ = running

abbrev pub running_told : ℕ → List Entry → ℕ
running_told running [] = running
running_told running (entry ∷ entries) = running_told (running_after running entry) entries

-- However many run before the account of an accepted data statement, as many run after it: each that begins in it ends in it, and none
-- ends in it that began before.
abbrev pub AllThatBeginsEnds : Type 0
AllThatBeginsEnds =
    (deeper : ℕ) (context : Context) (statement : DataStatement) (frame : Frame) (db : Database) (budget : ℕ) (done : Finished) (running : ℕ)
    → level deeper context statement frame db budget ≡ Ok done
    → running_told running (account deeper context statement frame db budget) ≡ running

-- ---- violations

-- what a data statement is refused for, if that is a violation: of RESTRICT, of an immediate constraint, or of two foreign keys that
-- disagree
abbrev pub violation_of : Cause → Option Fault
violation_of (Restrict fault) = Some fault
violation_of (Violation fault) = Some fault
violation_of (ActionConflict fault) = Some fault
violation_of _ = None

-- the violation that an entry tells
abbrev pub violation_in : Entry → Option Fault
violation_in (Faulted fault rows) = Some fault
violation_in (Disagreed fault rows how) = Some fault
violation_in _ = None

-- all violations that entries tell
abbrev pub violations_told : List Entry → List Fault
violations_told [] = []
violations_told (entry ∷ entries) = if_some (violation_in entry) ++ violations_told entries

-- that of the last entry, or this one if there is no entry
abbrev pub last_violation : Option Fault → List Entry → Option Fault
last_violation before [] = before
last_violation before (entry ∷ entries) = last_violation (violation_in entry) entries

-- The account of an accepted data statement tells no violation.
abbrev pub NoViolationOfAccepted : Type 0
NoViolationOfAccepted =
    (deeper : ℕ) (context : Context) (statement : DataStatement) (frame : Frame) (db : Database) (budget : ℕ) (done : Finished)
    → level deeper context statement frame db budget ≡ Ok done
    → violations_told (account deeper context statement frame db budget) ≡ []

-- one violation is told, that of the cause, and it is the last entry; if the cause is none, none is told
pub record EndsIn (cause : Cause) (entries : List Entry) : Type 0 where
  pub once : violations_told entries ≡ if_some (violation_of cause)
  pub last : last_violation None entries ≡ violation_of cause

-- That of a refused one ends in the violation that it is refused for.
abbrev pub OneViolationOfRefused : Type 0
OneViolationOfRefused =
    (deeper : ℕ) (context : Context) (statement : DataStatement) (frame : Frame) (db : Database) (budget : ℕ) (failure : Failure)
    → level deeper context statement frame db budget ≡ Err failure
    → EndsIn failure.cause (account deeper context statement frame db budget)
