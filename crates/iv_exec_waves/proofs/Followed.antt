-- What follows a wave that was applied.
use Rattle.std.proofs.Common.{◌≡◌, refl, ℕ, List, [], ◌∷◌, Result, Ok, Err, MatchBool, sym, ap, ◌∙◌}
use Rattle.iv_expr.specs.Changes.{Wave, wave_of}
use Rattle.iv_expr.specs.declared.row.Change.{Change}
use Rattle.iv_expr.specs.Evaluation.{and_then}
use Rattle.iv_catalogue.specs.declared.catalogue.Table.{Table}
use Rattle.iv_catalogue.specs.declared.cause.Cause.{Cause}
use Rattle.iv_catalogue.specs.declared.cause.Cause.TheVariants.{Restrict, ActionConflict}
use Rattle.iv_catalogue.specs.declared.cause.Fault.{Fault}
use Rattle.iv_catalogue.specs.declared.cause.Refusal.{Refusal}
use Rattle.iv_catalogue.specs.Refusals.{is_memory_cause}
use Rattle.iv_machine.specs.declared.database.Database.{Database}
use Rattle.iv_machine.specs.Databases.{database_after}
use Rattle.iv_machine.specs.Context.{Context, Failure, fails, unless_first}
use Rattle.iv_machine.specs.ReferentialActions.{conflicts, following_wave, lost_keys, next_wave, restricted_rows}
use Rattle.iv_machine.specs.Waves.{AppliedWave}
use Rattle.iv_laws_levels.proofs.NumberedRows.{parts_of}
use Rattle.iv_laws_kept.specs.FollowingWaves.{LedTo}
use Rattle.iv_exec_actions.specs.Answers.{AnswersWave, uncounted}
use Rattle.iv_exec_context.proofs.Answers.{unless_memory}
use Rattle.iv_exec_waves.specs.Applying.{Applicable}
use Rattle.iv_exec_waves.specs.Steps.{followed_by}

pub led : (tables : List Table) (db later : Database) (changes : List Change) → Applicable tables db changes → later ≡ database_after db (wave_of changes) → LedTo db changes later
led tables db later changes h e = record { in_order = (parts_of 0 db.rows db.next h.numbered).order; rising = h.rising; current = h.current; leads = sym e }

-- ---- what is shown of an answer

ok_uncounted : (next : Wave) (said : Result Wave Failure) → ◌≡◌ {A = Result Wave Refusal} (Ok next) (uncounted said) → said ≡ Ok next
ok_uncounted next (Ok wave) e = cc
ok_uncounted next (Err f) e = cc

-- a refusal that this comes to, with the count of row changes
err_uncounted : (r : Refusal) (count : ℕ) (said : Result Wave Failure) → ((f : Failure) → said ≡ Err f → f.count ≡ count) → Err r ≡ uncounted said
    → said ≡ Err (record { cause = r.cause; trigger = r.trigger; count = count })
err_uncounted r count (Ok wave) h e = cc
err_uncounted r count (Err f) h e =
    let same : r ≡ record { cause = f.cause; trigger = f.trigger } = err_same r (record { cause = f.cause; trigger = f.trigger }) e in
    λ i. Err (record { cause = (sym same i).cause; trigger = (sym same i).trigger; count = h f refl i })
  where
    err_same : (x y : Refusal) → ◌≡◌ {A = Result Wave Refusal} (Err x) (Err y) → x ≡ y
    err_same x y p = cc

-- ---- refusals for what follows name the later database

err_count : (later : Database) (cause : Cause) (f : Failure) → fails {A = Wave} later cause ≡ Err f → f.count ≡ later.count
err_count later cause f e = cc

first_count : (later : Database) (cause : Fault → Cause) (faults : List Fault) (r : Result Wave Failure) → ((f : Failure) → r ≡ Err f → f.count ≡ later.count)
    → (f : Failure) → unless_first later cause faults r ≡ Err f → f.count ≡ later.count
first_count later cause [] r h f e = h f e
first_count later cause (fault ∷ faults) r h f e = err_count later (cause fault) f e

following_count : (w : Context) (db later : Database) (f : Failure) → following_wave w db later ≡ Err f → f.count ≡ later.count
following_count w db later =
    first_count later Restrict (restricted_rows (lost_keys db.rows later.rows) w.schema.constraints db.rows) _
    (first_count later ActionConflict (conflicts w.schema (lost_keys db.rows later.rows) db.rows later.rows) (Ok (next_wave w.schema (lost_keys db.rows later.rows) db.rows later.rows))
    (λ f e. absurd (never (next_wave w.schema (lost_keys db.rows later.rows) db.rows later.rows) f e)))
  where
    never : (wave : Wave) (f : Failure) → ◌≡◌ {A = Result Wave Failure} (Ok wave) (Err f) → ⊥
    never wave f e = cc

-- ---- one wave

abbrev with_next : Wave → Result Wave Failure → Result AppliedWave Failure
with_next wave r = and_then r (λ next. Ok (record { wave = wave; next = next }))

pub followed_ok : (w : Context) (db later : Database) (wave next : Wave) → later ≡ database_after db wave → AnswersWave (Ok next) (following_wave w db later)
    → followed_by w db wave ≡ Ok (record { wave = wave; next = next })
followed_ok w db later wave next is tells = ap (with_next wave) (ap (following_wave w db) (sym is) ∙ ok_uncounted next (following_wave w db later) tells)

pub followed_refused : (w : Context) (db later : Database) (wave : Wave) (r : Refusal) (count : ℕ) → later ≡ database_after db wave → count ≡ later.count
    → AnswersWave (Err r) (following_wave w db later)
    → MatchBool (is_memory_cause r.cause) (Unit {0}) (followed_by w db wave ≡ Err (record { cause = r.cause; trigger = r.trigger; count = count }))
followed_refused w db later wave r count is same tells =
    unless_memory (is_memory_cause r.cause) (Err r ≡ uncounted (following_wave w db later)) (followed_by w db wave ≡ Err (record { cause = r.cause; trigger = r.trigger; count = count }))
    (λ e. ap (with_next wave) (ap (following_wave w db) (sym is)
    ∙ err_uncounted r count (following_wave w db later) (λ f g. following_count w db later f g ∙ sym same) e)) tells
