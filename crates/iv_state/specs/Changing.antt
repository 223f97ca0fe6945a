-- A data statement of a session, by what the level says of it.
use Rattle.std.specs.Prelude.{◌≡◌, ℕ, ◌-◌, Bool, if◌then◌else◌, List, [], ◌∷◌, ◌++◌, Result, Ok, Err, MatchBool}
use Rattle.iv_expr.specs.Scopes.{no_frame}
use Rattle.iv_catalogue.specs.Catalogues.{Schema}
use Rattle.iv_state.specs.Types.{Refusal, DataStatement, ConstraintMode, Database}
use Rattle.iv_state.specs.Types.answer.{Changed}
use Rattle.iv_catalogue.specs.Refusals.{is_memory}
use Rattle.iv_machine.specs.Bounds.{Bounds}
use Rattle.iv_machine.specs.Context.{Failure}
use Rattle.iv_machine.specs.Levels.{level}
use Rattle.iv_machine.specs.Machine.{State, Outcome, Work, with_transaction}
use Rattle.iv_account.specs.declared.entry.Entry.{Entry}
use Rattle.iv_account.specs.Accounts.{account}
use Rattle.iv_store.specs.Stores.{StoreState}
use Rattle.iv_laws_rows.specs.Changing.{database_and_size}

-- what the level says of a statement
abbrev pub said_of : Schema → List ConstraintMode → Bounds → DataStatement → Database → Result (Database × ℕ) Failure
said_of schema modes limits d db = database_and_size (level (limits.depth - 1) (record { schema = schema; modes = modes }) d no_frame db limits.changes)

-- what is told of it
abbrev pub account_said : Schema → List ConstraintMode → Bounds → DataStatement → Database → List Entry
account_said schema modes limits d db = account (limits.depth - 1) (record { schema = schema; modes = modes }) d no_frame db limits.changes

-- how many rows the statement changed, or the refusal
abbrev pub size_said : Result (Database × ℕ) Failure → Result ℕ Refusal
size_said (Ok p) = Ok p.1
size_said (Err f) = Err (record { cause = f.cause; trigger = f.trigger })

-- the row changes that are in the one count and not in the other are those that the statement made
abbrev pub work_said : Database → Result (Database × ℕ) Failure → Work
work_said db (Ok p) = record { changes = p.0.count - db.count; undone = 0 }
work_said db (Err f) = record { changes = f.count - db.count; undone = f.count - db.count }

-- the store after the statement, at which a mark is left if it begins a transaction
abbrev pub store_said : Bool → StoreState → Result (Database × ℕ) Failure → StoreState
store_said begins s (Ok p) = record s { base = p.0; marks = if begins then s.marks ++ s.base ∷ [] else s.marks }
store_said begins s (Err f) = s

-- The size or the refusal, the store and the work are those that are said; or an allocation failed, and the store is as before.
abbrev pub Changes : Bool → StoreState → Result (Database × ℕ) Failure → Result ℕ Refusal → StoreState → Work → Type 0
Changes begins s said r t w = MatchBool (is_memory r) (t ≡ s) ((r ≡ size_said said) × (t ≡ store_said begins s said) × (w ≡ work_said s.base said))

-- the same of a session's state
abbrev pub outcome_said : State → Result (Database × ℕ) Failure → Outcome
outcome_said s (Ok p) = record { answer = Ok (Changed p.1); state = record (with_transaction s) { database = p.0 }; work = work_said s.database (Ok p) }
outcome_said s (Err f) = record { answer = Err (record { cause = f.cause; trigger = f.trigger }); state = s; work = work_said s.database (Err f) }
