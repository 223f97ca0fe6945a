-- What is told of waves, step by step.
use Rattle.std.proofs.Common.{◌≡◌, refl, ℕ, ◌-◌, ◌<◌, Bool, true, false, if◌then◌else◌, List, [], ◌∷◌, ◌++◌, length, Result, Ok, Err, MatchBool, sym, ap, ◌∙◌, arith}
use Rattle.iv_expr.specs.declared.row.Change.{Change}
use Rattle.iv_expr.specs.Changes.{Wave}
use Rattle.iv_catalogue.specs.declared.cause.Refusal.{Refusal}
use Rattle.iv_catalogue.specs.Refusals.{is_memory_cause}
use Rattle.iv_machine.specs.declared.database.Database.{Database}
use Rattle.iv_machine.specs.Databases.{size, database_after}
use Rattle.iv_machine.specs.Context.{Context, Failure}
use Rattle.iv_machine.specs.Waves.{AppliedWave, is_empty, wave_as_applied, one_wave}
use Rattle.iv_account.specs.declared.entry.Entry.{Entry}
use Rattle.iv_account.specs.declared.entry.Entry.TheVariants.{Changed}
use Rattle.iv_account.specs.Accounts.{unless_refused, applied_told, entered_told, following_told, no_waves_told, one_wave_told, waves_told, waves_told_by, waves_told_within, TellsWaves}
use Rattle.iv_account.specs.Telling.{Account, and_told}
use Rattle.iv_account.proofs.Telling.{then_on, then_refused, then_tell, told_none, told_twice}
use Rattle.iv_laws_levels.proofs.WavesOneByOne.{Joins, Bounded, one_by_one}
use Rattle.iv_laws_rows.specs.Changing.{UnlessMemory}
use Rattle.iv_exec_context.proofs.Answers.{unless_memory}

-- ---- an account

-- if nothing happened
pub told_nothing : (account : Account) (xs : List Entry) → xs ≡ [] → account ≡ and_told account xs
told_nothing account xs e = sym (ap (and_told account) e ∙ told_none account)

-- what holds unless an allocation failed, from two such
pub unless_both : (b : Bool) (P Q R : Type 0) → (P → Q → R) → MatchBool b (Unit {0}) P → MatchBool b (Unit {0}) Q → MatchBool b (Unit {0}) R
unless_both true P Q R f p q = tt
unless_both false P Q R f p q = f p q

pub told_then : {A : Type 0} (r : Result A Refusal) (P Q : Type 0) → (P → Q) → UnlessMemory r P → UnlessMemory r Q
told_then (Ok a) P Q f p = f p
told_then (Err e) P Q f p = unless_memory (is_memory_cause e.cause) P Q f p

-- ---- one wave

pub wave_applied_told : (w : Context) (db later : Database) (wave : Wave) (old mid new : Account) → later ≡ database_after db wave
    → mid ≡ and_told old (Changed wave.changes ∷ []) → new ≡ and_told mid (following_told w db later) → new ≡ and_told old (applied_told w db wave)
wave_applied_told w db later wave old mid new is told more =
    then_tell old mid new (Changed wave.changes ∷ []) (following_told w db later) told more
    ∙ ap (λ l. and_told old (Changed wave.changes ∷ following_told w db l)) is

-- one that isn't entered
pub not_entered_told : (w : Context) (db : Database) (budget : ℕ) (wave : Wave) (cause_is_memory : Bool) (f : Failure) (old new : Account)
    → MatchBool cause_is_memory (Unit {0}) (wave_as_applied w db budget wave ≡ Err f)
    → MatchBool cause_is_memory (Unit {0}) (new ≡ and_told old (entered_told w db budget wave))
    → MatchBool cause_is_memory (Unit {0}) (new ≡ and_told old (one_wave_told w db budget wave))
not_entered_told w db budget wave b f old new =
    unless_both b (wave_as_applied w db budget wave ≡ Err f) (new ≡ and_told old (entered_told w db budget wave)) (new ≡ and_told old (one_wave_told w db budget wave))
    (λ e told. then_refused old new (entered_told w db budget wave) (wave_as_applied w db budget wave) f (applied_told w db) e told)

-- one that is
pub entered_and_told : {A : Type 0} (w : Context) (db : Database) (budget : ℕ) (wave out : Wave) (r : Result A Refusal) (old mid new : Account)
    → wave_as_applied w db budget wave ≡ Ok out → mid ≡ and_told old (entered_told w db budget wave)
    → UnlessMemory r (new ≡ and_told mid (applied_told w db out)) → UnlessMemory r (new ≡ and_told old (one_wave_told w db budget wave))
entered_and_told w db budget wave out r old mid new e told =
    told_then r (new ≡ and_told mid (applied_told w db out)) (new ≡ and_told old (one_wave_told w db budget wave))
    (λ more. then_on old mid new (entered_told w db budget wave) (wave_as_applied w db budget wave) out (applied_told w db) e told more)

-- ---- all waves, without a bound on their number

abbrev then_rest : TellsWaves → Database → ℕ → AppliedWave → List Entry
then_rest others db budget one = others (database_after db one.wave) (budget - size one.wave) one.next

abbrev told_by_emptiness : TellsWaves → Context → Database → ℕ → Wave → Bool → List Entry
told_by_emptiness others w db budget wave empty =
    if empty then [] else one_wave_told w db budget wave ++ unless_refused (one_wave w db budget wave) (then_rest others db budget)

abbrev none_told : Database → ℕ → List Entry
none_told db budget = []

abbrev join_told : Context → Joins (List Entry)
join_told w db budget wave r rest = one_wave_told w db budget wave ++ unless_refused r rest

told_with_a_bound : (w : Context) → Bounded w none_told (join_told w) no_waves_told (λ most. waves_told_within most w)
told_with_a_bound w = record {
  of_the_rest = λ db budget wave r f g same. ap (λ l. one_wave_told w db budget wave ++ l) (by_one f g r same);
  at_zero = λ db budget wave. refl;
  at_more = λ most db budget wave. refl;
}
  where
    by_one : (f g : AppliedWave → List Entry) (r : Result AppliedWave Failure) → ((one : AppliedWave) → r ≡ Ok one → f one ≡ g one) → unless_refused r f ≡ unless_refused r g
    by_one f g (Err e) same = refl
    by_one f g (Ok one) same = same one refl

told_one_by_one : (budget : ℕ) (w : Context) (db : Database) (wave : Wave) → waves_told_within budget w db budget wave ≡ waves_told_by (waves_told w) w db budget wave
told_one_by_one budget w db wave = one_by_one w none_told (join_told w) no_waves_told (λ most. waves_told_within most w) (told_with_a_bound w) budget db wave

filled : (changes : List Change) → 0 < length changes → is_empty changes ≡ false
filled [] h = absurd (omega (arith, h))
filled (c ∷ changes) h = refl

emptied : (changes : List Change) → length changes ≡ 0 → is_empty changes ≡ true
emptied [] e = refl
emptied (c ∷ changes) e = absurd (omega (arith, e))

told_first : (w : Context) (db : Database) (budget : ℕ) (wave : Wave) → 0 < length wave.changes
    → waves_told w db budget wave ≡ one_wave_told w db budget wave ++ unless_refused (one_wave w db budget wave) (then_rest (waves_told w) db budget)
told_first w db budget wave h =
    told_one_by_one budget w db wave ∙ ap (told_by_emptiness (waves_told w) w db budget wave) (filled wave.changes h)

-- ---- the loop

-- no more waves
pub no_wave_told : (w : Context) (db : Database) (budget : ℕ) (wave : Wave) (account : Account) → length wave.changes ≡ 0
    → account ≡ and_told account (waves_told w db budget wave)
no_wave_told w db budget wave account h =
    told_nothing account (waves_told w db budget wave)
    (told_one_by_one budget w db wave ∙ ap (told_by_emptiness (waves_told w) w db budget wave) (emptied wave.changes h))

-- a wave that is refused
pub refused_wave_told : (w : Context) (db : Database) (budget : ℕ) (wave : Wave) (cause_is_memory : Bool) (f : Failure) (account later all : Account) → 0 < length wave.changes
    → and_told account (waves_told w db budget wave) ≡ all
    → MatchBool cause_is_memory (Unit {0}) (one_wave w db budget wave ≡ Err f)
    → MatchBool cause_is_memory (Unit {0}) (later ≡ and_told account (one_wave_told w db budget wave))
    → MatchBool cause_is_memory (Unit {0}) (later ≡ all)
refused_wave_told w db budget wave b f account later all h so_far =
    unless_both b (one_wave w db budget wave ≡ Err f) (later ≡ and_told account (one_wave_told w db budget wave)) (later ≡ all)
    (λ e told.
    then_refused account later (one_wave_told w db budget wave) (one_wave w db budget wave) f (then_rest (waves_told w) db budget) e told
    ∙ ap (and_told account) (sym (told_first w db budget wave h)) ∙ so_far)

-- one more wave
pub round_told : (w : Context) (db later : Database) (budget less : ℕ) (wave next : Wave) (one : AppliedWave) (account told all : Account)
    → 0 < length wave.changes → and_told account (waves_told w db budget wave) ≡ all → one_wave w db budget wave ≡ Ok one
    → told ≡ and_told account (one_wave_told w db budget wave)
    → later ≡ database_after db one.wave → less ≡ budget - size one.wave → next ≡ one.next
    → and_told told (waves_told w later less next) ≡ all
round_told w db later budget less wave next one account told all h so_far e is is_later is_less is_next =
    (λ i. and_told (is i) (waves_told w (is_later i) (is_less i) (is_next i)))
    ∙ told_twice account (one_wave_told w db budget wave) (then_rest (waves_told w) db budget one)
    ∙ ap (λ r. and_told account (one_wave_told w db budget wave ++ unless_refused r (then_rest (waves_told w) db budget))) (sym e)
    ∙ ap (and_told account) (sym (told_first w db budget wave h)) ∙ so_far
