-- What the accounts of data statements say of them, one step after another.
use Rattle.std.proofs.Common.{◌≡◌, refl, ℕ, zero, suc, ◌+◌, ◌-◌, Bool, true, false, if◌then◌else◌, nat_lt, Option, Some, None, is_none, List, [], ◌∷◌, ◌++◌, filter, Result, Ok, Err, ap, sym, subst, ◌∙◌, append_assoc, append-nil, arith}
use Rattle.iv_expr.specs.declared.row.StoredRow.{StoredRow}
use Rattle.iv_expr.specs.declared.row.Change.{Change}
use Rattle.iv_expr.specs.declared.wave.TableColumn.{TableColumn}
use Rattle.iv_expr.specs.Changes.{Wave}
use Rattle.iv_value.specs.declared.value.Truth.{Truth}
use Rattle.iv_value.specs.declared.value.Truth.TheVariants.{False, Unknown, True}
use Rattle.iv_value.specs.Truths.{is_true}
use Rattle.iv_expr.specs.declared.tree.ExprFault.{ExprFault}
use Rattle.iv_expr.specs.Evaluation.{and_then, truth}
use Rattle.iv_expr.specs.Scopes.{Frame, no_frame, scope_of}
use Rattle.iv_catalogue.specs.Catalogues.{Schema}
use Rattle.iv_catalogue.specs.Refusals.{cause_of}
use Rattle.iv_catalogue.specs.declared.cause.Cause.{Cause}
use Rattle.iv_catalogue.specs.declared.cause.Cause.TheVariants.{Restrict, Violation, ActionConflict}
use Rattle.iv_catalogue.specs.declared.cause.Fault.{Fault}
use Rattle.iv_catalogue.specs.declared.cause.Refusal.{Refusal}
use Rattle.iv_catalogue.specs.declared.plan.BodyStatement.{BodyStatement}
use Rattle.iv_catalogue.specs.declared.plan.BodyStatement.TheVariants as body
use Rattle.iv_catalogue.specs.declared.plan.DataStatement.{DataStatement}
use Rattle.iv_catalogue.specs.declared.plan.Trigger.{Trigger}
use Rattle.iv_machine.specs.declared.database.Database.{Database}
use Rattle.iv_machine.specs.declared.database.Which.TheVariants.{Immediate}
use Rattle.iv_machine.specs.Bounds.{most_changes_in_a_transaction}
use Rattle.iv_machine.specs.Databases.{row_at, scan, is_chosen, first, size, database_after}
use Rattle.iv_machine.specs.Context.{Context, Failure, over, unless_first, while_running, with_count, inside_trigger, each, in_turn}
use Rattle.iv_machine.specs.Proposals.{holds, proposed_wave}
use Rattle.iv_machine.specs.BeforeTriggers.{is_before_row_on, is_before_this, is_on, event_of_change, placed_statements, before_statement_run, before_statement, change_frame, change_after_set, change_after_statement, change_after_trigger}
use Rattle.iv_machine.specs.ReferentialActions.{LostKeys, lost_keys, restricted_rows, conflicts, next_wave, following_wave}
use Rattle.iv_machine.specs.Waves.{numbered_wave, is_beyond_last_row, wave_as_applied, AppliedWave, one_wave, is_empty, SettledWaves, Settles, none_settled, settled_by, settled_within, settled_waves, net_wave}
use Rattle.iv_machine.specs.Levels.{Firing, Finished, Progress, Runs, statement_run, body_run, firing_run, firings_run, level_columns, firings, immediate_check, level_steps, nested_level, level}
use Rattle.iv_machine.specs.Machine.{level_outcome, context_of}
use Rattle.iv_account.specs.declared.entry.Entry.{Entry}
use Rattle.iv_account.specs.declared.entry.Disagreement.{Disagreement}
use Rattle.iv_account.specs.declared.entry.Entry.TheVariants.{Changed, Began, Ended, Failed}
use Rattle.iv_account.specs.declared.failure.FailedEvaluation.{FailedEvaluation}
use Rattle.iv_account.specs.Accounts.{unless_refused, told_or, failure_told, tells_failure, when_told, set_told, sets_told, if_some, told_each, told_in_turn, fault_told, disagreement_at, conflict_told, action_fault_told, ran, ran_or_skipped, trigger_told, before_statement_told, before_row_run_told, before_row_told, before_each_told, before_rows_told, entered_told, acted_told, following_told, applied_told, one_wave_told, TellsWaves, waves_told_by, no_waves_told, waves_told_within, waves_told, Tells, statement_told, body_told, fired_told, firing_told, firings_told, finished_told, waves_and_after_told, level_steps_told, nested_told, account}
use Rattle.iv_account.specs.Failures.{proposal_failure, set_failure, when_failure}
use Rattle.iv_account.specs.Sessions.{change_told}
use Rattle.iv_laws_answers.specs.AccountLaws.{after_entry, database_told, running_after, running_told, violation_of, violation_in, violations_told, last_violation, EndsIn, LevelsAreTold, StatementsAreTold, AllThatBeginsEnds, NoViolationOfAccepted, OneViolationOfRefused}
use Rattle.iv_laws_answers.proofs.NoViolations.{ApartCause, ApartRefusal, ApartFailure, no_violation, fault_apart, proposed_apart, before_statement_apart, applied_apart}

-- ---- entries after entries

database_append : (db : Database) (xs ys : List Entry) → database_told db (xs ++ ys) ≡ database_told (database_told db xs) ys
database_append db [] ys = refl
database_append db (x ∷ xs) ys = database_append (after_entry db x) xs ys

running_append : (n : ℕ) (xs ys : List Entry) → running_told n (xs ++ ys) ≡ running_told (running_told n xs) ys
running_append n [] ys = refl
running_append n (x ∷ xs) ys = running_append (running_after n x) xs ys

violations_append : (xs ys : List Entry) → violations_told (xs ++ ys) ≡ violations_told xs ++ violations_told ys
violations_append [] ys = refl
violations_append (x ∷ xs) ys =
    ap (λ faults. if_some (violation_in x) ++ faults) (violations_append xs ys)
    ∙ sym (append_assoc (if_some (violation_in x)) (violations_told xs) (violations_told ys))

last_append : (o : Option Fault) (xs ys : List Entry) → last_violation o (xs ++ ys) ≡ last_violation (last_violation o xs) ys
last_append o [] ys = refl
last_append o (x ∷ xs) ys = last_append (violation_in x) xs ys

-- ---- what entries tell of a step

-- The waves of these entries lead from a database to a later one, what begins in them ends in them, and they tell no violation.
record Leads (db : Database) (entries : List Entry) (later : Database) : Type 0 where
  database : database_told db entries ≡ later
  ended : (n : ℕ) → running_told n entries ≡ n
  none : violations_told entries ≡ []
  last : last_violation None entries ≡ None

-- If the step is accepted, its entries lead on; if it is refused, they end in its violation.
abbrev TellOf : {A : Type 0} → (A → Database) → Database → List Entry → Result A Failure → Type 0
TellOf of db entries (Ok a) = Leads db entries (of a)
TellOf of db entries (Err failure) = EndsIn failure.cause entries

leads_nowhere : (db : Database) → Leads db [] db
leads_nowhere db = record { database = refl; ended = λ n. refl; none = refl; last = refl }

nothing_ends : (cause : Cause) → violation_of cause ≡ None → EndsIn cause []
nothing_ends cause e = record { once = ap if_some (sym e); last = sym e }

lead_on : (db mid later : Database) (xs ys : List Entry) → Leads db xs mid → Leads mid ys later → Leads db (xs ++ ys) later
lead_on db mid later xs ys h k = record {
  database = database_append db xs ys ∙ ap (λ d. database_told d ys) h.database ∙ k.database;
  ended = λ n. running_append n xs ys ∙ ap (λ m. running_told m ys) (h.ended n) ∙ k.ended n;
  none = violations_append xs ys ∙ ap (λ faults. faults ++ violations_told ys) h.none ∙ k.none;
  last = last_append None xs ys ∙ ap (λ o. last_violation o ys) h.last ∙ k.last;
}

end_later : (db mid : Database) (cause : Cause) (xs ys : List Entry) → Leads db xs mid → EndsIn cause ys → EndsIn cause (xs ++ ys)
end_later db mid cause xs ys h k = record {
  once = violations_append xs ys ∙ ap (λ faults. faults ++ violations_told ys) h.none ∙ k.once;
  last = last_append None xs ys ∙ ap (λ o. last_violation o ys) h.last ∙ k.last;
}

-- what leads somewhere, before what tells of a step from there
after_these : {A : Type 0} (of : A → Database) (db mid : Database) (xs ys : List Entry) (r : Result A Failure)
    → Leads db xs mid → TellOf of mid ys r → TellOf of db (xs ++ ys) r
after_these of db mid xs ys (Ok a) h k = lead_on db mid (of a) xs ys h k
after_these of db mid xs ys (Err f) h k = end_later db mid f.cause xs ys h k

-- a step, and what follows it
then_told : {A B : Type 0} (of : A → Database) (later : B → Database) (db : Database) (xs : List Entry) (r : Result A Failure)
    (ys : A → List Entry) (k : A → Result B Failure)
    → TellOf of db xs r → ((a : A) → TellOf later (of a) (ys a) (k a)) → TellOf later db (xs ++ unless_refused r ys) (and_then r k)
then_told of later db xs (Ok a) ys k h more = after_these later db (of a) xs (ys a) (k a) h (more a)
then_told of later db xs (Err f) ys k h more = subst (EndsIn f.cause) (sym (append-nil xs)) h

-- a step of which another result is made
then_made : {A B : Type 0} (of : A → Database) (later : B → Database) (db : Database) (xs : List Entry) (r : Result A Failure) (make : A → B)
    → ((a : A) → of a ≡ later (make a)) → TellOf of db xs r → TellOf later db xs (and_then r (λ a. Ok (make a)))
then_made of later db xs (Ok a) make same h = subst (Leads db xs) (same a) h
then_made of later db xs (Err f) make same h = h

-- a step that tells nothing, and isn't refused for a violation
then_apart : {A B : Type 0} (later : B → Database) (db : Database) (r : Result A Failure) (ys : A → List Entry) (k : A → Result B Failure)
    → ApartFailure r → ((a : A) → TellOf later db (ys a) (k a)) → TellOf later db (unless_refused r ys) (and_then r k)
then_apart later db (Ok a) ys k h more = more a
then_apart later db (Err f) ys k h more = nothing_ends f.cause (no_violation f.cause h)

-- what failed ends no entries in a violation
failure_ends : (cause : Cause) (failure : Option FailedEvaluation) → violation_of cause ≡ None → EndsIn cause (failure_told cause failure)
failure_ends cause None e = nothing_ends cause e
failure_ends cause (Some f) e = by (tells_failure cause)
  where
    by : (b : Bool) → EndsIn cause (if b then Failed f ∷ [] else [])
    by true = record { once = ap if_some (sym e); last = sym e }
    by false = nothing_ends cause e

over_apart : {A B : Type 0} (later : B → Database) (db : Database) (r : Result A Cause) (failure : Option FailedEvaluation) (ys : A → List Entry) (k : A → Result B Failure)
    → ApartCause r → ((a : A) → TellOf later db (ys a) (k a))
    → TellOf later db (told_or r (λ cause. failure_told cause failure) ys) (and_then (over db r) k)
over_apart later db (Ok a) failure ys k h more = more a
over_apart later db (Err cause) failure ys k h more = failure_ends cause failure (no_violation cause h)

-- a condition, which tells by its truth
when_apart : {B : Type 0} (later : B → Database) (db : Database) (r : Result Truth ExprFault) (failure : Option FailedEvaluation) (ys : Truth → List Entry) (k : Bool → Result B Failure)
    → ((t : Truth) → TellOf later db (ys t) (k (is_true t)))
    → TellOf later db (told_or r (λ fault. failure_told (cause_of fault) failure) ys)
    (and_then (over db (elim r as (λ _. Result Bool Cause) [ Ok t ↦ Ok (is_true t) | Err fault ↦ Err (cause_of fault) ])) k)
when_apart later db (Ok t) failure ys k more = more t
when_apart later db (Err fault) failure ys k more = failure_ends (cause_of fault) failure (no_violation (cause_of fault) (fault_apart fault))

counted_apart : {A B : Type 0} (later : B → Database) (db : Database) (r : Result A Refusal) (ys : A → List Entry) (k : A → Result B Failure)
    → ApartRefusal r → ((a : A) → TellOf later db (ys a) (k a)) → TellOf later db (unless_refused r ys) (and_then (with_count db r) k)
counted_apart later db (Ok a) ys k h more = more a
counted_apart later db (Err refusal) ys k h more = nothing_ends refusal.cause (no_violation refusal.cause h)

-- steps in turn
turns_told : {A B : Type 0} (of : B → Database) (f : A → B → Result B Failure) (tell : A → B → List Entry)
    → ((x : A) (b : B) → TellOf of (of b) (tell x b) (f x b))
    → (xs : List A) (b : B) → TellOf of (of b) (told_in_turn f tell xs b) (in_turn f xs b)
turns_told of f tell one [] b = leads_nowhere (of b)
turns_told of f tell one (x ∷ xs) b =
    then_told of of (of b) (tell x b) (f x b) (told_in_turn f tell xs) (in_turn f xs) (one x b) (turns_told of f tell one xs)

inside_told : {A : Type 0} (of : A → Database) (db : Database) (xs : List Entry) (trigger : ℕ) (r : Result A Failure)
    → TellOf of db xs r → TellOf of db xs (inside_trigger trigger r)
inside_told of db xs trigger (Ok a) h = h
inside_told of db xs trigger (Err f) h =
    elim (is_none f.trigger) as (λ b. EndsIn (if b then record f { trigger = Some trigger } else f).cause xs) [ true ↦ h | false ↦ h ]

-- ---- BEFORE triggers: entries that change nothing

abbrev Quiet : List Entry → Type 0
Quiet xs = (db : Database) → Leads db xs db

quiet_unless : {A E : Type 0} (r : Result A E) (ys : A → List Entry) → ((a : A) → Quiet (ys a)) → Quiet (unless_refused r ys)
quiet_unless (Ok a) ys h = h a
quiet_unless (Err e) ys h = leads_nowhere

quiet_or : {A E : Type 0} (r : Result A E) (refused : E → List Entry) (ys : A → List Entry) → ((e : E) → Quiet (refused e)) → ((a : A) → Quiet (ys a))
    → Quiet (told_or r refused ys)
quiet_or (Ok a) refused ys f h = h a
quiet_or (Err e) refused ys f h = f e

quiet_failure : (cause : Cause) (failure : Option FailedEvaluation) → Quiet (failure_told cause failure)
quiet_failure cause None = leads_nowhere
quiet_failure cause (Some f) = by (tells_failure cause)
  where
    by : (b : Bool) → Quiet (if b then Failed f ∷ [] else [])
    by true = λ db. record { database = refl; ended = λ n. refl; none = refl; last = refl }
    by false = leads_nowhere

quiet_turns : {A B E : Type 0} (f : A → B → Result B E) (tell : A → B → List Entry) → ((x : A) (b : B) → Quiet (tell x b))
    → (xs : List A) (b : B) → Quiet (told_in_turn f tell xs b)
quiet_turns f tell h [] b = leads_nowhere
quiet_turns f tell h (x ∷ xs) b =
    λ db. lead_on db db db (tell x b) (unless_refused (f x b) (told_in_turn f tell xs)) (h x b db)
    (quiet_unless (f x b) (told_in_turn f tell xs) (quiet_turns f tell h xs) db)

quiet_each : {A B E : Type 0} (f : A → Result B E) (tell : A → List Entry) → ((x : A) → Quiet (tell x)) → (xs : List A) → Quiet (told_each f tell xs)
quiet_each f tell h [] = leads_nowhere
quiet_each f tell h (x ∷ xs) =
    λ db. lead_on db db db (tell x) (unless_refused (f x) (λ _. told_each f tell xs)) (h x db)
    (quiet_unless (f x) (λ _. told_each f tell xs) (λ _. quiet_each f tell h xs) db)

quiet_asked : (t : Trigger) (frame : Frame) (when : Truth) → Quiet (ran_or_skipped t frame when ∷ [])
quiet_asked t frame True = λ db. record { database = refl; ended = λ n. refl; none = refl; last = refl }
quiet_asked t frame False = λ db. record { database = refl; ended = λ n. refl; none = refl; last = refl }
quiet_asked t frame Unknown = λ db. record { database = refl; ended = λ n. refl; none = refl; last = refl }

quiet_when : (rows : List StoredRow) (t : Trigger) (frame : Frame) (rest : Truth → List Entry) → ((when : Truth) → Quiet (rest when)) → Quiet (when_told rows t frame rest)
quiet_when rows t frame rest h =
    quiet_or (truth (scope_of frame rows) t.when) (λ fault. failure_told (cause_of fault) (when_failure rows t frame)) rest
    (λ fault. quiet_failure (cause_of fault) (when_failure rows t frame)) h

quiet_trigger : (rows : List StoredRow) (t : Trigger) (frame : Frame) → Quiet (trigger_told rows t frame)
quiet_trigger rows t frame = quiet_when rows t frame (λ when. ran_or_skipped t frame when ∷ []) (quiet_asked t frame)

quiet_before_statement : (w : Context) (rows : List StoredRow) (d : DataStatement) → Quiet (before_statement_told w rows d)
quiet_before_statement w rows d =
    quiet_turns (λ t _. while_running t.id (before_statement_run rows t)) (λ t _. trigger_told rows t no_frame)
    (λ t _. quiet_trigger rows t no_frame) (filter (is_before_this d) w.schema.triggers) tt

quiet_set : (w : Context) (rows : List StoredRow) (s : BodyStatement) (c : Change) → Quiet (set_told w rows s c)
quiet_set w rows (body.Set s) c =
    quiet_or (change_after_set w rows s c) (λ cause. failure_told cause (set_failure w.schema rows s c)) (λ _. [])
    (λ cause. quiet_failure cause (set_failure w.schema rows s c)) (λ _. leads_nowhere)
quiet_set w rows (body.Signal text) c = leads_nowhere
quiet_set w rows (body.Data d) c = leads_nowhere

quiet_before_row_run : (w : Context) (rows : List StoredRow) (t : Trigger) (c : Change) (when : Truth) → Quiet (before_row_run_told w rows t c when)
quiet_before_row_run w rows t c when = by (is_true when)
  where
    by : (b : Bool) → Quiet (ran_or_skipped t (change_frame c) when ∷ (if b then sets_told w rows t c else []))
    by true =
        λ db. lead_on db db db (ran_or_skipped t (change_frame c) when ∷ []) (sets_told w rows t c) (quiet_asked t (change_frame c) when db)
        (quiet_turns (λ s. change_after_statement w rows t s.0 s.1) (λ s. set_told w rows s.1) (λ s between. quiet_set w rows s.1 between) (placed_statements t) c db)
    by false = quiet_asked t (change_frame c) when

quiet_before_row : (w : Context) (rows : List StoredRow) (t : Trigger) (c : Change) → Quiet (before_row_told w rows t c)
quiet_before_row w rows t c = by (is_on c.table (event_of_change c) t)
  where
    by : (on : Bool) → Quiet (if on then when_told rows t (change_frame c) (before_row_run_told w rows t c) else [])
    by true = quiet_when rows t (change_frame c) (before_row_run_told w rows t c) (quiet_before_row_run w rows t c)
    by false = leads_nowhere

quiet_before_rows : (w : Context) (rows : List StoredRow) (columns : List TableColumn) (changes : List Change) → Quiet (before_rows_told w rows columns changes)
quiet_before_rows w rows columns changes =
    quiet_turns (λ t. each (change_after_trigger w rows t)) (before_each_told w rows)
    (λ t. quiet_each (change_after_trigger w rows t) (before_row_told w rows t) (quiet_before_row w rows t))
    (filter (is_before_row_on columns) w.schema.triggers) changes

-- ---- one wave

quiet_entered : (w : Context) (db : Database) (budget : ℕ) (wave : Wave) → Quiet (entered_told w db budget wave)
quiet_entered w db budget wave =
    by (nat_lt budget (size wave)) (nat_lt most_changes_in_a_transaction (db.count + size wave)) (is_beyond_last_row (numbered_wave db.next wave).changes)
  where
    by : (few large last : Bool) → Quiet
        (if few then [] else (if large then [] else (if last then [] else before_rows_told w db.rows wave.columns (numbered_wave db.next wave).changes)))
    by true large last = leads_nowhere
    by false true last = leads_nowhere
    by false false true = leads_nowhere
    by false false false = quiet_before_rows w db.rows wave.columns (numbered_wave db.next wave).changes

abbrev after_one : Database → AppliedWave → Database
after_one db one = database_after db one.wave

abbrev then_next : Context → Database → Wave → Result AppliedWave Failure
then_next w db applied = and_then (following_wave w db (database_after db applied)) (λ next. Ok (record { wave = applied; next = next }))

quiet_acted : (schema : Schema) (rows later : List StoredRow) (changes : List Change) → Quiet (acted_told schema rows later changes)
quiet_acted schema rows later [] = leads_nowhere
quiet_acted schema rows later (c ∷ changes) = λ db. record { database = refl; ended = λ n. refl; none = refl; last = refl }

following_tells : (w : Context) (db : Database) (applied : Wave)
    → TellOf (after_one db) (database_after db applied) (following_told w db (database_after db applied)) (then_next w db applied)
following_tells w db applied =
    let later : Database = database_after db applied in
    let lost : LostKeys = lost_keys db.rows later.rows in
    by later (restricted_rows lost w.schema.constraints db.rows) (conflicts w.schema lost db.rows later.rows) (next_wave w.schema lost db.rows later.rows)
  where
    by : (later : Database) (restricted conflicting : List Fault) (next : Wave)
        → TellOf (after_one db) (database_after db applied)
        (elim (unless_first later Restrict restricted (unless_first later ActionConflict conflicting (Ok next))) as (λ _. List Entry) [
          | Ok n ↦ acted_told w.schema db.rows later.rows n.changes
          | Err failure ↦ action_fault_told w.schema db.rows later.rows failure.cause
        ])
        (and_then (unless_first later Restrict restricted (unless_first later ActionConflict conflicting (Ok next))) (λ n. Ok (record { wave = applied; next = n })))
    by later [] [] next = quiet_acted w.schema db.rows later.rows next.changes (database_after db applied)
    by later [] (f ∷ faults) next = conflict_ends f (if_some (row_at db.rows f.row)) (disagreement_at w.schema db.rows later.rows f)
      where
        conflict_ends : (fault : Fault) (rows : List StoredRow) (how : Option Disagreement) → EndsIn (ActionConflict fault) (conflict_told fault rows how ∷ [])
        conflict_ends fault rows (Some d) = record { once = refl; last = refl }
        conflict_ends fault rows None = record { once = refl; last = refl }
    by later (f ∷ faults) conflicting next = record { once = refl; last = refl }

applied_tells : (w : Context) (db : Database) (applied : Wave) → TellOf (after_one db) db (applied_told w db applied) (then_next w db applied)
applied_tells w db applied =
    after_these (after_one db) db (database_after db applied) (Changed applied.changes ∷ []) (following_told w db (database_after db applied)) (then_next w db applied)
    (record { database = refl; ended = λ n. refl; none = refl; last = refl }) (following_tells w db applied)

one_tells : (w : Context) (db : Database) (budget : ℕ) (wave : Wave) → TellOf (after_one db) db (one_wave_told w db budget wave) (one_wave w db budget wave)
one_tells w db budget wave =
    after_these (after_one db) db db (entered_told w db budget wave) (unless_refused (wave_as_applied w db budget wave) (applied_told w db)) (one_wave w db budget wave)
    (quiet_entered w db budget wave db)
    (then_apart (after_one db) db (wave_as_applied w db budget wave) (applied_told w db) (then_next w db) (applied_apart w db budget wave) (applied_tells w db))

-- ---- all waves

abbrev last_of : SettledWaves → Database
last_of s = s.last

abbrev WavesTell : TellsWaves → Settles → Type 0
WavesTell others rest = (db : Database) (budget : ℕ) (wave : Wave) → TellOf last_of db (others db budget wave) (rest db budget wave)

abbrev tell_others : TellsWaves → Database → ℕ → AppliedWave → List Entry
tell_others others db budget one = others (database_after db one.wave) (budget - size one.wave) one.next

abbrev settle_others : Settles → Database → ℕ → AppliedWave → Result SettledWaves Failure
settle_others rest db budget one =
    and_then (rest (database_after db one.wave) (budget - size one.wave) one.next) (λ s. Ok (record s { waves = one.wave ∷ s.waves }))

by_others : (others : TellsWaves) (rest : Settles) (w : Context) → WavesTell others rest → WavesTell (waves_told_by others w) (settled_by rest w)
by_others others rest w more db budget wave = by (is_empty wave.changes)
  where
    by : (empty : Bool)
        → TellOf last_of db
        (if empty then [] else one_wave_told w db budget wave ++ unless_refused (one_wave w db budget wave) (tell_others others db budget))
        (if empty then Ok (record { last = db; waves = []; rest = budget }) else and_then (one_wave w db budget wave) (settle_others rest db budget))
    by true = leads_nowhere db
    by false =
        then_told (after_one db) last_of db (one_wave_told w db budget wave) (one_wave w db budget wave) (tell_others others db budget) (settle_others rest db budget)
        (one_tells w db budget wave) (λ one.
        then_made last_of last_of (database_after db one.wave) (tell_others others db budget one) (rest (database_after db one.wave) (budget - size one.wave) one.next)
        (λ s. record s { waves = one.wave ∷ s.waves }) (λ s. refl) (more (database_after db one.wave) (budget - size one.wave) one.next))

waves_within_tell : (most : ℕ) (w : Context) → WavesTell (waves_told_within most w) (settled_within most w)
waves_within_tell zero w = by_others no_waves_told none_settled w (λ db budget wave. record { once = refl; last = refl })
waves_within_tell (suc most) w = by_others (waves_told_within most w) (settled_within most w) w (waves_within_tell most w)

-- ---- triggers and levels

abbrev at_of : Progress → Database
at_of at = at.database

abbrev done_of : Finished → Database
done_of done = done.database

abbrev RunsTell : Tells → Runs → Type 0
RunsTell tell run =
    (trigger : ℕ) (d : DataStatement) (f : Frame) (db : Database) (budget : ℕ) → TellOf done_of db (tell trigger d f db budget) (run trigger d f db budget)

-- a data statement between its beginning and its end
framed : (db later : Database) (place : ℕ) (xs : List Entry) → Leads db xs later → Leads db (Began place ∷ (xs ++ Ended ∷ [])) later
framed db later place xs h =
    let less : (n : ℕ) → suc n - 1 ≡ n = λ n. omega arith in
    record {
      database = database_append db xs (Ended ∷ []) ∙ h.database;
      ended = λ n. running_append (suc n) xs (Ended ∷ []) ∙ ap (λ m. m - 1) (h.ended (suc n)) ∙ less n;
      none = violations_append xs (Ended ∷ []) ∙ ap (λ faults. faults ++ []) h.none;
      last = last_append None xs (Ended ∷ []);
    }

module _ (w : Context) (run : Runs) (tell : Tells) (tells : RunsTell tell run) where
  data_tells : (place : ℕ) (at : Database) (xs : List Entry) (r : Result Finished Failure) → TellOf done_of at xs r
      → TellOf at_of at (Began place ∷ (xs ++ unless_refused r (λ _. Ended ∷ []))) (and_then r (λ done. Ok (record { database = done.database; budget = done.rest })))
  data_tells place at xs (Ok done) h = framed at done.database place xs h
  data_tells place at xs (Err f) h = subst (λ l. EndsIn f.cause (Began place ∷ l)) (sym (append-nil xs)) (record { once = h.once; last = h.last })

  statement_tells : (x : Firing) (place : ℕ) (s : BodyStatement) (at : Progress)
      → TellOf at_of at.database (statement_told run tell x place s at) (statement_run run x place s at)
  statement_tells x place (body.Data d) at =
      data_tells place at.database (tell x.trigger.id d x.frame at.database at.budget) (run x.trigger.id d x.frame at.database at.budget)
      (tells x.trigger.id d x.frame at.database at.budget)
  statement_tells x place (body.Signal text) at = record { once = refl; last = refl }
  statement_tells x place (body.Set s) at = leads_nowhere at.database

  body_tells : (x : Firing) (when : Truth) (at : Progress)
      → TellOf at_of at.database (fired_told run tell x at when) (if is_true when then body_run run x (placed_statements x.trigger) at else Ok at)
  body_tells x True at =
      after_these at_of at.database at.database (ran x.trigger x.frame ∷ []) (body_told run tell x (placed_statements x.trigger) at)
      (body_run run x (placed_statements x.trigger) at) (record { database = refl; ended = λ n. refl; none = refl; last = refl })
      (turns_told at_of (λ s. statement_run run x s.0 s.1) (λ s. statement_told run tell x s.0 s.1)
      (λ s between. statement_tells x s.0 s.1 between) (placed_statements x.trigger) at)
  body_tells x False at = record { database = refl; ended = λ n. refl; none = refl; last = refl }
  body_tells x Unknown at = record { database = refl; ended = λ n. refl; none = refl; last = refl }

  firing_tells : (x : Firing) (at : Progress) → TellOf at_of at.database (firing_told run tell x at) (firing_run run x at)
  firing_tells x at =
      inside_told at_of at.database (firing_told run tell x at) x.trigger.id
      (and_then (over at.database (holds (scope_of x.frame at.database.rows) x.trigger.when)) (λ fires.
      if fires then body_run run x (placed_statements x.trigger) at else Ok at))
      (when_apart at_of at.database (truth (scope_of x.frame at.database.rows) x.trigger.when) (when_failure at.database.rows x.trigger x.frame) (fired_told run tell x at)
      (λ fires. if fires then body_run run x (placed_statements x.trigger) at else Ok at) (λ when. body_tells x when at))

  abbrev fired : DataStatement → Database → SettledWaves → List Firing
  fired d db s = firings w d (level_columns d s.waves) (net_wave db.rows s.last.rows s.waves)

  abbrev start_of : SettledWaves → Progress
  start_of s = record { database = s.last; budget = s.rest }

  abbrev finish_of : Wave → Progress → Finished
  finish_of wave at = record { database = at.database; rest = at.budget; size = size wave }

  abbrev finish : DataStatement → Database → Wave → SettledWaves → Result Finished Failure
  finish d db wave s = and_then (immediate_check w s.last) (λ _. and_then (firings_run run (fired d db s) (start_of s)) (λ at. Ok (finish_of wave at)))

  abbrev tell_finish : DataStatement → Database → SettledWaves → List Entry
  tell_finish d db s = finished_told run tell w d (level_columns d s.waves) (net_wave db.rows s.last.rows s.waves) (start_of s)

  finished_tells : (d : DataStatement) (db : Database) (wave : Wave) (s : SettledWaves) → TellOf done_of s.last (tell_finish d db s) (finish d db wave s)
  finished_tells d db wave s = by (scan s.last.rows w.schema.constraints (is_chosen w.modes Immediate))
    where
      by : (faults : List Fault)
          → TellOf done_of s.last
          (elim (first faults) as (λ _. List Entry) [ Some fault ↦ fault_told w.schema s.last.rows fault ∷ [] | None ↦ [] ]
          ++ unless_refused (unless_first s.last Violation faults (Ok (tt {0}))) (λ _. firings_told run tell (fired d db s) (start_of s)))
          (and_then (unless_first s.last Violation faults (Ok (tt {0}))) (λ _. and_then (firings_run run (fired d db s) (start_of s)) (λ at. Ok (finish_of wave at))))
      by [] =
          then_made at_of done_of s.last (firings_told run tell (fired d db s) (start_of s)) (firings_run run (fired d db s) (start_of s)) (finish_of wave) (λ at. refl)
          (turns_told at_of (firing_run run) (firing_told run tell) firing_tells (fired d db s) (start_of s))
      by (f ∷ faults) = record { once = refl; last = refl }

  waves_and_after_tell : (d : DataStatement) (db : Database) (budget : ℕ) (wave : Wave)
      → TellOf done_of db (waves_and_after_told run tell w d db budget wave) (and_then (settled_waves w db budget wave) (finish d db wave))
  waves_and_after_tell d db budget wave =
      then_told last_of done_of db (waves_told w db budget wave) (settled_waves w db budget wave) (tell_finish d db) (finish d db wave)
      (waves_within_tell budget w db budget wave) (finished_tells d db wave)

  steps_tell : (d : DataStatement) (f : Frame) (db : Database) (budget : ℕ)
      → TellOf done_of db (level_steps_told run tell w d f db budget) (level_steps run w d f db budget)
  steps_tell d f db budget =
      over_apart done_of db (proposed_wave w db f d) (proposal_failure w.schema db.rows f d)
      (λ wave. before_statement_told w db.rows d ++ unless_refused (before_statement w db.rows d) (λ _. waves_and_after_told run tell w d db budget wave))
      (λ wave. and_then (with_count db (before_statement w db.rows d)) (λ _. and_then (settled_waves w db budget wave) (finish d db wave)))
      (proposed_apart w db f d) (λ wave.
      after_these done_of db db (before_statement_told w db.rows d)
      (unless_refused (before_statement w db.rows d) (λ _. waves_and_after_told run tell w d db budget wave))
      (and_then (with_count db (before_statement w db.rows d)) (λ _. and_then (settled_waves w db budget wave) (finish d db wave)))
      (quiet_before_statement w db.rows d db)
      (counted_apart done_of db (before_statement w db.rows d) (λ _. waves_and_after_told run tell w d db budget wave)
      (λ _. and_then (settled_waves w db budget wave) (finish d db wave)) (before_statement_apart w db.rows d) (λ _.
      waves_and_after_tell d db budget wave)))

nested_tell : (deeper : ℕ) (w : Context) → RunsTell (nested_told deeper w) (nested_level deeper w)
nested_tell zero w trigger d f db budget = record { once = refl; last = refl }
nested_tell (suc deeper) w trigger d f db zero = record { once = refl; last = refl }
nested_tell (suc deeper) w trigger d f db (suc budget) =
    steps_tell w (nested_level deeper w) (nested_told deeper w) (nested_tell deeper w) d f db budget

levels_tell : (deeper : ℕ) (w : Context) (d : DataStatement) (f : Frame) (db : Database) (budget : ℕ)
    → TellOf done_of db (account deeper w d f db budget) (level deeper w d f db budget)
levels_tell deeper w d f db budget = nested_tell (suc deeper) w 0 d f db budget

-- ---- the laws

accepted_leads : (deeper : ℕ) (w : Context) (d : DataStatement) (f : Frame) (db : Database) (budget : ℕ) (done : Finished)
    → level deeper w d f db budget ≡ Ok done → Leads db (account deeper w d f db budget) done.database
accepted_leads deeper w d f db budget done e = subst (TellOf done_of db (account deeper w d f db budget)) e (levels_tell deeper w d f db budget)

pub levels_are_told : LevelsAreTold
levels_are_told deeper w d f db budget done e = (accepted_leads deeper w d f db budget done e).database

pub statements_are_told : StatementsAreTold
statements_are_told s d answer e =
    by (level (s.limits.depth - 1) (context_of s) d no_frame s.database s.limits.changes)
    (levels_tell (s.limits.depth - 1) (context_of s) d no_frame s.database s.limits.changes) e
  where
    by : (r : Result Finished Failure) → TellOf done_of s.database (change_told s d) r → (level_outcome s r).answer ≡ Ok answer
        → database_told s.database (change_told s d) ≡ (level_outcome s r).state.database
    by (Ok done) h is = h.database
    by (Err f) h is = cc

pub all_that_begins_ends : AllThatBeginsEnds
all_that_begins_ends deeper w d f db budget done running e = (accepted_leads deeper w d f db budget done e).ended running

pub no_violation_of_accepted : NoViolationOfAccepted
no_violation_of_accepted deeper w d f db budget done e = (accepted_leads deeper w d f db budget done e).none

pub one_violation_of_refused : OneViolationOfRefused
one_violation_of_refused deeper w d f db budget failure e =
    subst (TellOf done_of db (account deeper w d f db budget)) e (levels_tell deeper w d f db budget)
