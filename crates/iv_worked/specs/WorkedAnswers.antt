-- Words for worked scripts: answers, what the machine answers to a list of plans, and what is told of the
-- last of them. No other file of this crate names the machine's definitions, and those of accounts.
use Rattle.std.specs.Prelude.{ℕ, pos, Bool, List, [], ◌∷◌, map, Option, Some, None, Result, Ok, Err}
use Rattle.iv_worked.specs.Types.{Value, Statement, Cause, Fault, Refusal, Plan, Answer, Entry}
use Rattle.iv_worked.specs.Types.value.{Int}
use Rattle.iv_worked.specs.Types.answer.{Done, Changed, Rows}
use Rattle.iv_worked.specs.Types.which.{Deferred}
use Rattle.iv_machine.specs.Bounds.{Bounds}
use Rattle.iv_machine.specs.Databases.{scan, is_chosen}
use Rattle.iv_machine.specs.Machine.{State, Outcome, Work, empty_state, plan_outcome, occasion_of, transaction_cause}
use Rattle.iv_account.specs.Sessions.{plan_told}

-- ---- answers

abbrev pub Answered : Type 0
Answered = Result Answer Refusal

abbrev pub ok : Answered
ok = Ok Done

abbrev pub ok_rows : ℕ → Answered
ok_rows n = Ok (Changed n)

abbrev pub int : ℕ → Value
int n = Int (pos n)

abbrev pub rows : List (List Value) → Answered
rows values = Ok (Rows values)

-- rows of integers
abbrev pub rows_of : List (List ℕ) → Answered
rows_of values = rows (map (map int) values)

-- the answer of COUNT(*)
abbrev pub count_row : ℕ → Answered
count_row n = rows_of ((n ∷ []) ∷ [])

abbrev pub fault : ℕ → ℕ → Fault
fault id row = record { constraint = id; row = row }

-- refused outside of any trigger
abbrev pub refused : Cause → Answered
refused cause = Err (record { cause = cause; trigger = None })

abbrev pub refused_in : ℕ → Cause → Answered
refused_in trigger cause = Err (record { cause = cause; trigger = Some trigger })

abbrev pub work : ℕ → ℕ → Work
work changes undone = record { changes = changes; undone = undone }

-- a statement that changes nothing
abbrev pub idle : Work
idle = work 0 0

-- ---- what the machine answers

abbrev pub outcomes : State → List Plan → List Outcome
outcomes s [] = []
outcomes s (p ∷ ps) = let o : Outcome = plan_outcome s p in o ∷ outcomes o.state ps

abbrev pub answers_of : List Outcome → List Answered
answers_of os = map (λ o. o.answer) os

abbrev pub works_of : List Outcome → List Work
works_of os = map (λ o. o.work) os

abbrev pub usual_limits : Bounds
usual_limits = record { depth = 16; changes = 65536 }

-- under the usual limits
abbrev pub answers : List Plan → List Answered
answers plans = answers_of (outcomes (empty_state usual_limits) plans)

abbrev pub works : List Plan → List Work
works plans = works_of (outcomes (empty_state usual_limits) plans)

-- with triggers that may nest so deep
abbrev pub answers_deep : ℕ → List Plan → List Answered
answers_deep depth plans =
    answers_of (outcomes (empty_state (record { depth = depth; changes = 65536 })) plans)

-- under a budget of so many changes
abbrev pub under_limits : ℕ → List Plan → List Outcome
under_limits changes plans = outcomes (empty_state (record { depth = 16; changes = changes })) plans

abbrev pub answers_within : ℕ → List Plan → List Answered
answers_within changes plans = answers_of (under_limits changes plans)

abbrev pub works_within : ℕ → List Plan → List Work
works_within changes plans = works_of (under_limits changes plans)

-- ---- states

abbrev pub state_after : State → List Plan → State
state_after s [] = s
state_after s (p ∷ ps) = state_after (plan_outcome s p).state ps

-- the state after these plans, with so many changes counted in the transaction
abbrev pub with_change_count : ℕ → List Plan → State
with_change_count count plans =
    let s : State = state_after (empty_state usual_limits) plans in
    record s { database = record s.database { count = count } }

-- the state after these plans, if the next new row has this number
abbrev pub numbered_from : ℕ → List Plan → State
numbered_from next plans =
    let s : State = state_after (empty_state usual_limits) plans in
    record s { database = record s.database { next = next } }

abbrev pub answers_from : State → List Plan → List Answered
answers_from s plans = answers_of (outcomes s plans)

abbrev pub works_from : State → List Plan → List Work
works_from s plans = works_of (outcomes s plans)

-- the violations of deferred constraints after these plans
abbrev pub pending_after : List Plan → List Fault
pending_after plans =
    let s : State = state_after (empty_state usual_limits) plans in
    scan s.database.rows s.schema.constraints (is_chosen s.modes Deferred)

-- ---- accounts

-- what is told of the last of these plans
abbrev pub told_from : State → List Plan → List Entry
told_from s [] = []
told_from s (p ∷ []) = plan_told s p
told_from s (p ∷ q ∷ ps) = told_from (plan_outcome s p).state (q ∷ ps)

-- under the usual limits
abbrev pub told : List Plan → List Entry
told plans = told_from (empty_state usual_limits) plans

-- under a budget of so many changes
abbrev pub told_within : ℕ → List Plan → List Entry
told_within changes plans = told_from (empty_state (record { depth = 16; changes = changes })) plans

-- ---- what is refused before all else

-- why a statement is refused if a transaction is open, or if none is
abbrev pub cause_inside : Statement → Option Cause
cause_inside s = transaction_cause Bool.true (occasion_of s)

abbrev pub cause_outside : Statement → Option Cause
cause_outside s = transaction_cause Bool.false (occasion_of s)
