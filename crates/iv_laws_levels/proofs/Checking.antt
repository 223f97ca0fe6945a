-- After a level no immediate constraint is violated.
use Rattle.std.proofs.Common.{◌≡◌, ℕ, zero, suc, [], Ok}
use Rattle.iv_expr.specs.Scopes.{Frame}
use Rattle.iv_laws_levels.specs.Types.{DataStatement, Database}
use Rattle.iv_laws_levels.specs.Types.cause.{Violation}
use Rattle.iv_laws_levels.specs.Types.which.{Immediate}
use Rattle.iv_machine.specs.Context.{Context}
use Rattle.iv_machine.specs.Databases.{scan, is_chosen}
use Rattle.iv_machine.specs.Waves.{net_wave}
use Rattle.iv_machine.specs.Levels.{Finished, Runs, level_columns, firings, nested_level, level}
use Rattle.iv_laws_levels.proofs.Chains.{not_ok, none_first}
use Rattle.iv_laws_levels.proofs.Firings.{Keeps, Steps, steps_of, all_fired_keeps}

-- no immediate constraint is violated
abbrev pub Checked : Context → Database → ℕ → Type 0
Checked w db budget = scan db.rows w.schema.constraints (is_chosen w.modes Immediate) ≡ []

steps_check : (run : Runs) (w : Context) (d : DataStatement) (f : Frame) (db : Database) (budget : ℕ) (done : Finished)
    → Keeps (Checked w) run → Steps run w d f db budget done → Checked w done.database done.rest
steps_check run w d f db budget done keeps s =
    let clean = none_first s.waves.last Violation (scan s.waves.last.rows w.schema.constraints (is_chosen w.modes Immediate)) (Ok (tt {0})) (tt {0}) s.is_checked in
    let kept = all_fired_keeps (Checked w) run keeps
    (firings w d (level_columns d s.waves.waves) (net_wave db.rows s.waves.last.rows s.waves.waves)) (record { database = s.waves.last; budget = s.waves.rest }) s.progress s.is_fired clean.0 in
    rw (← s.is_done) kept

pub nested_checks : (depth : ℕ) (w : Context) (trigger : ℕ) (d : DataStatement) (f : Frame) (db : Database) (budget : ℕ) (done : Finished)
    → nested_level depth w trigger d f db budget ≡ Ok done → Checked w done.database done.rest
nested_checks zero w trigger d f db budget done e = absurd (not_ok _ done e)
nested_checks (suc depth) w trigger d f db zero done e = absurd (not_ok _ done e)
nested_checks (suc depth) w trigger d f db (suc budget) done e =
    steps_check (nested_level depth w) w d f db budget done
    (λ trigger' d' f' db' budget' done' e' _. nested_checks depth w trigger' d' f' db' budget' done' e')
    (steps_of (nested_level depth w) w d f db budget done e)

pub level_checks : (deeper : ℕ) (w : Context) (d : DataStatement) (f : Frame) (db : Database) (budget : ℕ) (done : Finished)
    → level deeper w d f db budget ≡ Ok done → Checked w done.database done.rest
level_checks deeper w d f db budget done e = nested_checks (suc deeper) w 0 d f db budget done e
