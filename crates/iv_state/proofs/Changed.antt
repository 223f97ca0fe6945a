-- A data statement on a store with a mark, and in a session.
use Rattle.std.proofs.Common.{◌≡◌, ℕ, ◌-◌, Bool, true, false, Option, Some, None, Result, Ok, Err, List, [], ◌∷◌, ◌++◌, length, take, slice_get, refl, ap, sym, ◌∙◌, MatchBool}
use Rattle.iv_state.specs.Types.{Refusal, DataStatement, Answer, Database}
use Rattle.iv_catalogue.specs.Refusals.{is_memory_cause}
use Rattle.iv_catalogue.specs.declared.cause.Cause.TheVariants.{OutOfMemory}
use Rattle.iv_expr.specs.Scopes.{no_frame}
use Rattle.iv_machine.specs.Context.{Failure}
use Rattle.iv_machine.specs.Levels.{Finished, level}
use Rattle.iv_machine.specs.Machine.{State, change_outcome, level_outcome, may_tell}
use Rattle.iv_store.specs.Stores.{StoreState, store_with_mark, store_before_mark}
use Rattle.iv_state.specs.Changing.{Changes, outcome_said, said_of, size_said, store_said, work_said}
use Rattle.iv_state.specs.Kept.{Parts, Seen, current, state_of}
use Rattle.iv_state.specs.Performing.{Follows}
use Rattle.iv_laws_rows.specs.Changing.{AnswersAt, database_and_size, with_database}

-- ---- undone

last_at : (dbs : List Database) (db : Database) → slice_get (dbs ++ db ∷ []) (length dbs) ≡ Some db
last_at [] db = refl
last_at (x ∷ dbs) db = last_at dbs db

but_last : (dbs : List Database) (db : Database) → take (length dbs) (dbs ++ db ∷ []) ≡ dbs
but_last [] db = refl
but_last (x ∷ dbs) db = ap (λ (l : List Database). x ∷ l) (but_last dbs db)

abbrev at_or : Database → Option Database → Database
at_or base o = elim o [ Some db ↦ db | None ↦ base ]

-- a statement is undone to the mark that was made before it
pub undone_is : (s m t u : StoreState) (mark : ℕ) → mark ≡ length s.marks → m ≡ store_with_mark s → t ≡ with_database m t.base → u ≡ store_before_mark t mark → u ≡ s
undone_is s m t u mark e a b f =
    let whole : t ≡ with_database (store_with_mark s) t.base = b ∙ ap (λ (x : StoreState). with_database x t.base) a in
    f ∙ ap (λ (n : ℕ). store_before_mark t n) e ∙ ap (λ (x : StoreState). store_before_mark x (length s.marks)) whole
    ∙ (λ i. record { tables = s.tables; constraints = s.constraints; base = (ap (at_or t.base) (last_at s.marks s.base)) i; marks = (but_last s.marks s.base) i })

pub refused_changes : (begins : Bool) (s t u : StoreState) (said : Result (Database × ℕ) Failure) (r : Refusal) (made : ℕ) → u ≡ s → made ≡ t.base.count - s.base.count
    → AnswersAt (λ (size : ℕ). (t.base, size)) t.base.count (Err r) said → Changes begins s said (Err r) u (record { changes = made; undone = made })
refused_changes begins s t u said r made e m h = by (is_memory_cause r.cause) h where
  by : (b : Bool) → MatchBool b (Unit {0}) (said ≡ Err (record { cause = r.cause; trigger = r.trigger; count = t.base.count }))
      → MatchBool b (u ≡ s) ((Err r ≡ size_said said) × (u ≡ store_said begins s said) × (record { changes = made; undone = made } ≡ work_said s.base said))
  by true h = e
  by false h = (
    sym (ap size_said h),
    e ∙ sym (ap (store_said begins s) h),
    (λ i. record { changes = m i; undone = m i }) ∙ sym (ap (work_said s.base) h),
  )

-- ---- refused

-- the machine's outcome is what is said
pub level_said : (s : State) (l : Result Finished Failure) → level_outcome s l ≡ outcome_said s (database_and_size l)
level_said s (Ok done) = refl
level_said s (Err f) = refl

abbrev refusal_or : Refusal → Result ℕ Refusal → Refusal
refusal_or r o = elim o [ Ok n ↦ r | Err e ↦ e ]

abbrev refused_with : Refusal → Result Answer Refusal
refused_with r = Err r

refused_said : (s : State) (said : Result (Database × ℕ) Failure) (r : Refusal) → Err r ≡ size_said said
    → (refused_with r ≡ (outcome_said s said).answer) × (s ≡ (outcome_said s said).state)
refused_said s (Ok p) r h = cc
refused_said s (Err f) r h = (ap refused_with (ap (refusal_or r) h), refl)

work_same : (s : State) (said : Result (Database × ℕ) Failure) → work_said s.database said ≡ (outcome_said s said).work
work_same s (Ok p) = refl
work_same s (Err f) = refl

refused_store : (begins : Bool) (s : StoreState) (said : Result (Database × ℕ) Failure) (r : Refusal) → Err r ≡ size_said said → store_said begins s said ≡ s
refused_store begins s (Ok p) r h = cc
refused_store begins s (Err f) r h = refl

-- the parts with another store
abbrev pub stored : Parts → StoreState → Parts
stored h t = record { schema = h.schema; limits = h.limits; store = t; initial = h.initial; changed = h.changed; active = h.active; saves = h.saves }

pub change_refused : (h : Parts) (d : DataStatement) (begins : Bool) (r told_on : Refusal) (t : StoreState) (x : Seen)
    → Changes begins h.store (said_of h.schema (current h.initial h.changed).modes h.limits d h.store.base) (Err r) t x.work
    → (is_memory_cause r.cause ≡ false → told_on ≡ r) → (is_memory_cause r.cause ≡ true → told_on.cause ≡ OutOfMemory)
    → (is_memory_cause r.cause ≡ true → may_tell true h.schema told_on.trigger ≡ true)
    → x.state ≡ state_of (stored h t) → Follows (state_of h) (change_outcome (state_of h) d) (Err told_on) x
change_refused h d begins r told_on t x changes other memory told e = by (is_memory_cause r.cause) refl changes where
  said : Result (Database × ℕ) Failure
  said = said_of h.schema (current h.initial h.changed).modes h.limits d h.store.base

  by : (b : Bool) → is_memory_cause r.cause ≡ b → MatchBool b (t ≡ h.store) ((Err r ≡ size_said said) × (t ≡ store_said begins h.store said) × (x.work ≡ work_said h.store.base said))
      → Follows (state_of h) (change_outcome (state_of h) d) (Err told_on) x
  by true m c =
      let same : x.state ≡ state_of h = e ∙ ap (λ (u : StoreState). state_of (stored h u)) c in
      rw (memory m) (same, (told_on.trigger, told m, refl))
  by false m c =
      let outcome : change_outcome (state_of h) d ≡ outcome_said (state_of h) said =
      level_said (state_of h) (level (h.limits.depth - 1) (record { schema = h.schema; modes = (current h.initial h.changed).modes }) d no_frame h.store.base h.limits.changes) in
      let is : (refused_with r ≡ (outcome_said (state_of h) said).answer) × (state_of h ≡ (outcome_said (state_of h) said).state) = refused_said (state_of h) said r c.0 in
      rw (other m, m) (
        is.0 ∙ sym (ap (λ o. o.answer) outcome),
        e ∙ ap (λ (u : StoreState). state_of (stored h u)) (c.1 ∙ refused_store begins h.store said r c.0) ∙ is.1 ∙ sym (ap (λ o. o.state) outcome),
        c.2 ∙ work_same (state_of h) said ∙ sym (ap (λ o. o.work) outcome),
      )
