-- The row of each number after a wave, and waves settled without a bound on their number.
use Rattle.std.proofs.Common.{◌≡◌, refl, ℕ, true, false, ◌||◌, if◌then◌else◌, List, [], ◌∷◌, Option, Some, None, Result, Ok, Err, sym, ap, ◌∙◌}
use Rattle.std.specs.Bool.{◌==◌}
use Rattle.std.specs.List.{find}
use Rattle.std.proofs.lemmas.Bool.{eqb-true}
use Rattle.iv_laws_levels.specs.Types.{StoredRow, Change, Database}
use Rattle.iv_expr.specs.Changes.{Wave}
use Rattle.iv_expr.specs.Evaluation.{and_then}
use Rattle.iv_machine.specs.Databases.{row_at, has_change, new_row, database_after}
use Rattle.iv_machine.specs.Context.{Context, Failure}
use Rattle.iv_machine.specs.Waves.{AppliedWave, SettledWaves, none_settled, settled_by, settled_within, settled_waves}
use Rattle.iv_laws_levels.specs.RisingRows.{InOrder}
use Rattle.iv_laws_levels.specs.Reorderings.{Distinct}
use Rattle.iv_laws_levels.specs.WaveEquations.{row_after}
use Rattle.iv_laws_levels.proofs.AppliedRows.{side_here, side_elsewhere, no_side, news, row_at_rows_after, rows_after_in_order}
use Rattle.iv_laws_levels.proofs.Settling.{nothing_settled}
use Rattle.iv_laws_levels.proofs.WavesOneByOne.{Joins, Bounded, one_by_one}

-- ---- one row after a wave

new_row_of : (changes : List Change) (n : ℕ) (before : Option StoredRow) → Distinct changes
    → (if has_change changes n then row_at (news changes) n else before)
    ≡ elim (find (λ c. c.row == n) changes) [ Some c ↦ new_row c | None ↦ before ]
new_row_of [] n before d = refl
new_row_of (c ∷ changes) n before d =
    elim (c.row == n) as (λ b. (c.row == n) ≡ b → (if b || has_change changes n then row_at (news (c ∷ changes)) n else before)
    ≡ elim (if b then Some c else find (λ x. x.row == n) changes) [ Some x ↦ new_row x | None ↦ before ]) [
      | true ↦ λ e. side_here c c.new (news changes) n e (no_side (λ x. x.new) changes n (ap (has_change changes) (sym (eqb-true c.row n e)) ∙ d.0))
      | false ↦ λ e.
          ap (λ o. if has_change changes n then o else before) (side_elsewhere c c.new (news changes) n e) ∙ new_row_of changes n before d.1
    ] refl

pub rows_after_a_wave : (db : Database) (wave : Wave) (n : ℕ) → Distinct wave.changes → row_at (database_after db wave).rows n ≡ row_after wave db.rows n
rows_after_a_wave db wave n d = row_at_rows_after db.rows wave.changes n ∙ new_row_of wave.changes n (row_at db.rows n) d

pub rows_after_are_in_order : (db : Database) (wave : Wave) → InOrder (database_after db wave).rows
rows_after_are_in_order db wave = rows_after_in_order db.rows wave.changes

-- ---- waves without a bound

abbrev join_settled : Joins (Result SettledWaves Failure)
join_settled db budget wave r rest = and_then r (λ one. and_then (rest one) (λ s. Ok (record s { waves = one.wave ∷ s.waves })))

settled_with_a_bound : (w : Context) → Bounded w nothing_settled join_settled none_settled (λ most. settled_within most w)
settled_with_a_bound w = record {
  of_the_rest = λ db budget wave r f g same. by_one f g r same;
  at_zero = λ db budget wave. refl;
  at_more = λ most db budget wave. refl;
}
  where
    by_one : (f g : AppliedWave → Result SettledWaves Failure) (r : Result AppliedWave Failure) → ((one : AppliedWave) → r ≡ Ok one → f one ≡ g one)
        → and_then r (λ one. and_then (f one) (λ s. Ok (record s { waves = one.wave ∷ s.waves })))
        ≡ and_then r (λ one. and_then (g one) (λ s. Ok (record s { waves = one.wave ∷ s.waves })))
    by_one f g (Err e) same = refl
    by_one f g (Ok one) same = ap (λ (r : Result SettledWaves Failure). and_then {B = SettledWaves} r (λ s. Ok (record s { waves = one.wave ∷ s.waves }))) (same one refl)

pub waves_are_settled_one_by_one : (w : Context) (db : Database) (budget : ℕ) (wave : Wave)
    → settled_waves w db budget wave ≡ settled_by (settled_waves w) w db budget wave
waves_are_settled_one_by_one w db budget wave = one_by_one w nothing_settled join_settled none_settled (λ most. settled_within most w) (settled_with_a_bound w) budget db wave
