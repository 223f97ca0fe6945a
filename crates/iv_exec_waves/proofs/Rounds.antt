-- Waves settled one after another.
use Rattle.std.proofs.Common.{◌≡◌, refl, ℕ, ◌-◌, ◌<◌, ◌≤◌, Bool, true, false, if◌then◌else◌, List, [], ◌∷◌, ◌++◌, length, Result, Ok, Err, MatchBool, sym, ap, subst, ◌∙◌, arith, append_assoc}
use Rattle.iv_expr.specs.declared.row.Change.{Change}
use Rattle.iv_expr.specs.declared.wave.TableColumn.{TableColumn}
use Rattle.iv_expr.specs.Changes.{Wave}
use Rattle.iv_expr.specs.Evaluation.{and_then}
use Rattle.iv_catalogue.specs.declared.cause.Refusal.{Refusal}
use Rattle.iv_catalogue.specs.Refusals.{is_memory_cause}
use Rattle.iv_machine.specs.declared.database.Database.{Database}
use Rattle.iv_machine.specs.Databases.{size, database_after}
use Rattle.iv_machine.specs.Context.{Context, Failure}
use Rattle.iv_machine.specs.Waves.{AppliedWave, SettledWaves, is_empty, one_wave, settled_waves}
use Rattle.iv_store.specs.Stores.{StoreState}
use Rattle.iv_laws_levels.proofs.Settling.{applied_of_one, followed_of_one, then_settled, nothing_settled}
use Rattle.iv_laws_levels.proofs.WaveEquations.{waves_are_settled_one_by_one}
use Rattle.iv_laws_levels.proofs.NumberedRows.{numbered_applied}
use Rattle.iv_laws_levels.proofs.FittingWaves.{applied_fits, rising_positive}
use Rattle.iv_laws_levels.proofs.Readying.{followed_ready, proposed_ready}
use Rattle.iv_laws_levels.specs.FittingWaves.{Numbered}
use Rattle.iv_laws_rows.specs.RowFits.{changes_fit}
use Rattle.std.specs.Bool.{◌==◌}
use Rattle.std.proofs.lemmas.Bool.Decides.{nat_tests}
use Rattle.iv_exec_context.proofs.Answers.{unless_memory}
use Rattle.iv_laws_rows.specs.Changing.{StoreFits, with_database}
use Rattle.iv_exec_waves.specs.Applying.{Proposes}
use Rattle.iv_machine.specs.Proposals.{set_columns}
use Rattle.iv_exec_waves.specs.Progress.{Progress}
use Rattle.iv_exec_waves.specs.Steps.{wave_with}
use Rattle.iv_exec_waves.proofs.Entered.{enters}
use Rattle.iv_laws_rows.proofs.FittingChanges.{rows_after_fit}
use Rattle.iv_laws_rows.proofs.FollowingRows.{following_waves_fit}
use Rattle.iv_exec_waves.proofs.Rows.{applied_wave_fits}

-- ---- the waves that came before, and these

abbrev pub after_waves : List Wave → Result SettledWaves Failure → Result SettledWaves Failure
after_waves done r = and_then r (λ s. Ok (record s { waves = done ++ s.waves }))

after_both : (done more : List Wave) (r : Result SettledWaves Failure) → after_waves done (after_waves more r) ≡ after_waves (done ++ more) r
after_both done more (Ok s) = λ i. Ok (record s { waves = sym (append_assoc done more s.waves) i })
after_both done more (Err e) = refl

abbrev by_emptiness : Context → Database → ℕ → Wave → Bool → Result SettledWaves Failure
by_emptiness w db budget wave empty =
    if empty then nothing_settled db budget else and_then (one_wave w db budget wave) (then_settled (settled_waves w) db budget)

filled : (changes : List Change) → 0 < length changes → is_empty changes ≡ false
filled [] h = absurd (omega (arith, h))
filled (c ∷ changes) h = refl

settled_first : (w : Context) (db : Database) (budget : ℕ) (wave : Wave) → 0 < length wave.changes
    → settled_waves w db budget wave ≡ and_then (one_wave w db budget wave) (then_settled (settled_waves w) db budget)
settled_first w db budget wave h =
    waves_are_settled_one_by_one w db budget wave ∙ ap (by_emptiness w db budget wave) (filled wave.changes h)

-- one more wave
pub settled_step : (w : Context) (db : Database) (budget : ℕ) (wave : Wave) (done : List Wave) (one : AppliedWave) → 0 < length wave.changes
    → one_wave w db budget wave ≡ Ok one
    → after_waves (done ++ one.wave ∷ []) (settled_waves w (database_after db one.wave) (budget - size one.wave) one.next)
    ≡ after_waves done (settled_waves w db budget wave)
settled_step w db budget wave done one h e =
    sym (after_both done (one.wave ∷ []) (settled_waves w (database_after db one.wave) (budget - size one.wave) one.next))
    ∙ ap (after_waves done) (ap (λ r. and_then r (then_settled (settled_waves w) db budget)) (sym e) ∙ sym (settled_first w db budget wave h))

-- a wave that is refused
pub settled_refused : (w : Context) (db : Database) (budget : ℕ) (wave : Wave) (done : List Wave) (all : Result SettledWaves Failure) (r : Refusal) (f : Failure)
    → 0 < length wave.changes → after_waves done (settled_waves w db budget wave) ≡ all
    → MatchBool (is_memory_cause r.cause) (Unit {0}) (one_wave w db budget wave ≡ Err f)
    → MatchBool (is_memory_cause r.cause) (Unit {0}) (all ≡ Err f)
settled_refused w db budget wave done all r f h so_far m =
    unless_memory (is_memory_cause r.cause) (one_wave w db budget wave ≡ Err f) (all ≡ Err f)
    (λ e. sym so_far ∙ ap (after_waves done) (settled_first w db budget wave h ∙ ap (λ x. and_then x (then_settled (settled_waves w) db budget)) e)) m

append_nothing : (l : List Wave) → l ++ [] ≡ l
append_nothing [] = refl
append_nothing (x ∷ l) = ap (λ m. x ∷ m) (append_nothing l)

-- no more waves
pub settled_nothing : (w : Context) (db : Database) (budget : ℕ) (wave : Wave) (done : List Wave) → length wave.changes ≡ 0
    → after_waves done (settled_waves w db budget wave) ≡ Ok (record { last = db; waves = done; rest = budget })
settled_nothing w db budget wave done h =
    ap (after_waves done) (waves_are_settled_one_by_one w db budget wave ∙ ap (by_emptiness w db budget wave) (none wave.changes h))
    ∙ (λ i. Ok (record { last = db; waves = append_nothing done i; rest = budget }))
  where
    none : (changes : List Change) → length changes ≡ 0 → is_empty changes ≡ true
    none [] e = refl
    none (c ∷ changes) e = absurd (omega (arith, e))

-- ---- what holds before the next wave

pub record NextRound (w : Context) (s : StoreState) (budget : ℕ) (wave : Wave) (one : AppliedWave) : Type 0 where
  pub fits : size one.wave ≤ budget
  pub same : size one.wave ≡ size wave
  pub progress : Progress w (with_database s (database_after s.base one.wave)) one.next.changes

pub next_round : (w : Context) (s : StoreState) (budget : ℕ) (wave : Wave) (one : AppliedWave) → Progress w s wave.changes
    → one_wave w s.base budget wave ≡ Ok one → NextRound w s budget wave one
next_round w s budget wave one h e =
    let is_applied = applied_of_one w s.base budget wave one e in
    let is_followed = followed_of_one w s.base budget wave one e in
    let entered = enters w s budget wave one.wave h is_applied in
    let fit = applied_wave_fits w s budget wave one.wave h is_applied in
    let rows = rows_after_fit w.schema.tables s.base one.wave h.fits.rows fit in
    let fits_database = applied_fits w s.base budget wave one.wave h.numbered h.ready is_applied in
    record {
      fits = entered.fits;
      same = entered.same;
      progress = record {
        fits = record { tables = h.fits.tables; constraints = h.fits.constraints; suits = h.fits.suits; rows = rows };
        numbered = numbered_applied s.base one.wave.changes h.numbered (rising_positive one.wave.changes entered.applicable.rising);
        fit = following_waves_fit w s.base one.wave one.next h.fits.suits h.numbered fits_database h.fits.rows fit is_followed;
        ready = followed_ready w s.base (database_after s.base one.wave) one.next is_followed;
      };
    }

-- ---- the loop

pub none_before : (r : Result SettledWaves Failure) → after_waves [] r ≡ r
none_before (Ok s) = refl
none_before (Err e) = refl

pub first_round : (w : Context) (s : StoreState) (changes : List Change) → StoreFits w.schema s → Numbered s.base → changes_fit w.schema.tables changes ≡ true
    → Proposes w s.base changes → Progress w s changes
first_round w s changes fits numbered fit h = record {
  fits = fits;
  numbered = numbered;
  fit = fit;
  ready = proposed_ready w s.base h.frame h.statement (wave_with (set_columns h.statement) changes)
      (ap (λ r. and_then r (λ l. Ok (wave_with (set_columns h.statement) l))) h.is);
}

-- a list that is not empty
pub more_than_none : (n m : ℕ) → false ≡ (n == 0) → n ≡ m → 0 < m
more_than_none n m e h = grind (arith, nat_tests)

pub none_left : (n m : ℕ) → true ≡ (n == 0) → n ≡ m → m ≡ 0
none_left n m e h = grind (arith, nat_tests)

-- the wave that is left, in its two parts
pub next_wave_is : (next : Wave) (columns : List TableColumn) (changes : List Change) → changes ≡ next.changes → columns ≡ next.columns → wave_with columns changes ≡ next
next_wave_is next columns changes e f = λ i. wave_with (f i) (e i)

-- one more wave, as the loop has it
pub round_so_far : (w : Context) (s later : StoreState) (budget less : ℕ) (wave next : Wave) (done more : List Wave) (all : Result SettledWaves Failure) (one : AppliedWave)
    → 0 < length wave.changes → after_waves done (settled_waves w s.base budget wave) ≡ all → one_wave w s.base budget wave ≡ Ok one
    → later.base ≡ database_after s.base one.wave → less ≡ budget - size one.wave → next ≡ one.next → more ≡ done ++ one.wave ∷ []
    → after_waves more (settled_waves w later.base less next) ≡ all
round_so_far w s later budget less wave next done more all one h so_far e is_later is_less is_next is_more =
    (λ i. after_waves (is_more i) (settled_waves w (is_later i) (is_less i) (is_next i))) ∙ settled_step w s.base budget wave done one h e ∙ so_far

pub round_progress : (w : Context) (s later : StoreState) (budget : ℕ) (wave : Wave) (next : List Change) (one : AppliedWave) → Progress w s wave.changes
    → one_wave w s.base budget wave ≡ Ok one → later.base ≡ database_after s.base one.wave → later ≡ with_database s later.base → next ≡ one.next.changes
    → Progress w later next
round_progress w s later budget wave next one h e is_later kept is_next =
    let round = next_round w s budget wave one h e in
    subst (Progress w later) (sym is_next)
    (subst (λ x. Progress w x one.next.changes) (sym (kept ∙ ap (with_database s) is_later)) round.progress)
