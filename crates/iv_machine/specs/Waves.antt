-- The waves of a data statement, one after another until nothing follows, and the net change of them all.
use Rattle.std.specs.Prelude.{ℕ, zero, suc, ◌+◌, ◌-◌, Bool, true, false, ◌&&◌, if◌then◌else◌, nat_lt, List, [], ◌∷◌, ◌++◌, map, filter, Option, Some, None, is_none, Result, Ok}
use Rattle.std.specs.List.{list_any}
use Rattle.iv_machine.specs.Types.{Value, StoredRow, Change, Database}
use Rattle.iv_machine.specs.Types.cause.{TooManyChanges, TransactionTooLarge, Limit}
use Rattle.iv_expr.specs.Changes.{Wave, wave_of}
use Rattle.iv_expr.specs.Evaluation.{and_then}
use Rattle.iv_machine.specs.Bounds.{most_changes_in_a_transaction, last_row_number}
use Rattle.iv_machine.specs.Databases.{row_at, has_change, size, database_after}
use Rattle.iv_machine.specs.Context.{Context, Failure, fails, with_count}
use Rattle.iv_machine.specs.BeforeTriggers.{wave_after_triggers}
use Rattle.iv_machine.specs.ReferentialActions.{following_wave}

-- ---- one wave

-- the changes with row numbers: new rows take this number and those that follow
abbrev pub with_numbers : ℕ → List Change → List Change
with_numbers next [] = []
with_numbers next (c ∷ changes) =
    if is_none c.old then record c { row = next } ∷ with_numbers (next + 1) changes else c ∷ with_numbers next changes

abbrev pub numbered_wave : ℕ → Wave → Wave
numbered_wave next wave = record wave { changes = with_numbers next wave.changes }

-- one of these changes is of a row above the last number that a row may have
abbrev pub is_beyond_last_row : List Change → Bool
is_beyond_last_row changes = list_any (λ c. nat_lt last_row_number c.row) changes

-- A wave as it is applied. It takes its size from the budget, then from the changes of a transaction. Then new rows take numbers, and the
-- BEFORE row triggers run.
abbrev pub wave_as_applied : Context → Database → ℕ → Wave → Result Wave Failure
wave_as_applied context db budget wave =
    if nat_lt budget (size wave) then fails db TooManyChanges
    else (if nat_lt most_changes_in_a_transaction (db.count + size wave) then fails db TransactionTooLarge
    else (if is_beyond_last_row (numbered_wave db.next wave).changes then fails db Limit
    else with_count db (wave_after_triggers context db.rows (numbered_wave db.next wave))))

-- a wave as it was applied, and the wave that follows
pub record AppliedWave : Type 0 where
  pub wave : Wave
  pub next : Wave

-- One wave: what is applied of it, and what follows.
abbrev pub one_wave : Context → Database → ℕ → Wave → Result AppliedWave Failure
one_wave context db budget wave =
    and_then (wave_as_applied context db budget wave) (λ applied.
    and_then (following_wave context db (database_after db applied)) (λ next. Ok (record { wave = applied; next = next })))

-- ---- all waves

-- the last database, the waves as they were applied, and the rest of the budget
pub record SettledWaves : Type 0 where
  pub last : Database
  pub waves : List Wave
  pub rest : ℕ

-- What settles a wave in a database within a budget.
abbrev pub Settles : Type 0
Settles = Database → ℕ → Wave → Result SettledWaves Failure

abbrev pub is_empty : List Change → Bool
is_empty [] = true
is_empty (c ∷ changes) = false

-- An empty wave ends. Otherwise one wave is made, and the rest is settled with what it leaves of the budget.
abbrev pub settled_by : Settles → Context → Settles
settled_by settled context db budget wave =
    if is_empty wave.changes then Ok (record { last = db; waves = []; rest = budget })
    else and_then (one_wave context db budget wave) (λ one.
    and_then (settled (database_after db one.wave) (budget - size one.wave) one.next) (λ s.
    Ok (record s { waves = one.wave ∷ s.waves })))

-- when no more waves may come
abbrev pub none_settled : Settles
none_settled db budget wave = fails db TooManyChanges

-- the waves, at most so many
abbrev pub settled_within : ℕ → Context → Settles
settled_within zero context db budget wave = settled_by none_settled context db budget wave
settled_within (suc most) context db budget wave = settled_by (settled_within most context) context db budget wave

-- The waves, until one is empty. Each takes one or more from the budget, so there are at most as many as the budget has.
abbrev pub settled_waves : Context → Settles
settled_waves context db budget wave = settled_within budget context db budget wave

-- ---- the net change

-- one of these waves changes the row of this number
abbrev pub in_waves : List Wave → ℕ → Bool
in_waves waves number = list_any (λ wave. has_change wave.changes number) waves

abbrev pub values_at : List StoredRow → ℕ → Option (List Value)
values_at rows number = elim (row_at rows number) [ Some r ↦ Some r.values | None ↦ None ]

-- a row that was there at first, with its values in the later database
abbrev pub net_change : List StoredRow → StoredRow → Change
net_change later r = record { table = r.table; row = r.number; old = Some r.values; new = values_at later r.number }

-- a row that was not there at first
abbrev pub net_insertion : StoredRow → Change
net_insertion r = record { table = r.table; row = r.number; old = None; new = Some r.values }

-- Each row of the waves with its values in the first database and in the last: in both, an update, even to equal values; only in the first,
-- a deletion; only in the last, an insertion. By row.
abbrev pub net_wave : List StoredRow → List StoredRow → List Wave → Wave
net_wave rows later waves =
    wave_of
    (map (net_change later) (filter (λ r. in_waves waves r.number) rows)
    ++ map net_insertion (filter (λ r. in_waves waves r.number && is_none (row_at rows r.number)) later))
