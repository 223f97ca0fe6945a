-- The condition of a CHECK meets no value of the wrong kind at a row that fits.
use Rattle.std.proofs.Common.{◌≡◌, true, List, ◌∙◌, Result, Err, sym, ap, subst}
use Rattle.iv_value.specs.declared.value.Kind.{Kind}
use Rattle.iv_value.specs.declared.value.Truth.{Truth}
use Rattle.iv_value.specs.declared.value.Value.{Value}
use Rattle.iv_expr.specs.Scopes.{alone}
use Rattle.iv_expr.specs.Evaluation.{truth}
use Rattle.iv_expr.specs.Suiting.{row_suits, HasShape}
use Rattle.iv_expr.proofs.Suiting.{Fine, truth_fine}
use Rattle.iv_catalogue.specs.declared.constraint.Rule.{Rule}
use Rattle.iv_machine.specs.Machine.{State, empty_state}
use Rattle.iv_step.specs.Step.{run}
use Rattle.iv_laws_fitting.specs.PlanShapes.{table_kinds, is_there}
use Rattle.iv_laws_fitting.specs.ConstraintShapes.{check_shape, rule_suits, constraint_suits}
use Rattle.std.proofs.lemmas.Bool.{and_parts}
use Rattle.iv_laws_fitting.proofs.Pointwise.{all_at}
use Rattle.iv_laws_fitting.proofs.Schemas.{additions_fit}
use Rattle.iv_laws_rows.specs.RowFits.{row_fits}
use Rattle.iv_laws_rows.proofs.FittingFrames.{values_have_kinds}
use Rattle.iv_laws_rows.proofs.SettledRows.{proposals_start, started_waves_fit}
use Rattle.iv_laws_answers.specs.Types.{ExprFault}
use Rattle.iv_laws_answers.specs.Types.expr_fault.{OutOfRange}
use Rattle.iv_laws_answers.specs.Shapes.{ChecksAreWellTyped, SettledChecksAreWellTyped, ReachedChecksAreWellTyped, AddedChecksAreWellTyped}
use Rattle.iv_laws_answers.proofs.FittingStates.{Fitting, all_fitting}

-- a row by itself has the shape that a CHECK of its kinds sees
alone_shape : (kinds : List Kind) (row : List Value) → row_suits kinds row ≡ true → HasShape (alone row) (check_shape kinds)
alone_shape kinds row h = record { ranges = (h, tt); old = tt; new = tt; transition = λ side. tt; tables = λ t. tt }

fine_fault : (r : Result Truth ExprFault) (fault : ExprFault) → Fine r → r ≡ Err fault → fault ≡ OutOfRange
fine_fault r fault h e = subst Fine e h

pub checks_are_well_typed : ChecksAreWellTyped
checks_are_well_typed c k rows suits fit condition place row fault is there of e =
    let rule = (and_parts (is_there c.tables k.table) (rule_suits c.tables (table_kinds c.tables k.table) k.rule) suits).1 in
    let suited = ap (λ (r : Rule). rule_suits c.tables (table_kinds c.tables k.table) r) (sym is) ∙ rule in
    let kinds = values_have_kinds c.tables row.table row.values (all_at (row_fits c.tables) rows fit place row there) in
    let own = ap (λ n. row_suits (table_kinds c.tables n) row.values) (sym of) ∙ kinds in
    fine_fault (truth (alone row.values) condition) fault
    (truth_fine (check_shape (table_kinds c.tables k.table)) (alone row.values) condition (alone_shape (table_kinds c.tables k.table) row.values own) suited) e

pub settled_checks_are_well_typed : SettledChecksAreWellTyped
settled_checks_are_well_typed w d f db budget wave settled id k s numbered fit fits is_proposed is_settled there =
    let start = proposals_start w d f db wave s.tables numbered fit fits is_proposed in
    let settles = started_waves_fit w db budget wave settled s start is_settled in
    checks_are_well_typed w.schema k settled.last.rows (all_at (constraint_suits w.schema.tables) w.schema.constraints s.constraints id k there) settles.1

pub reached_checks_are_well_typed : ReachedChecksAreWellTyped
reached_checks_are_well_typed limits sts id k there =
    let s : State = (run (empty_state limits) sts).1 in
    let h : Fitting s = all_fitting limits sts in
    checks_are_well_typed s.schema k s.database.rows
    (all_at (constraint_suits s.schema.tables) s.schema.constraints h.reached.suits.constraints id k there) h.rows.now

pub added_checks_are_well_typed : AddedChecksAreWellTyped
added_checks_are_well_typed limits sts st k e =
    let s : State = (run (empty_state limits) sts).1 in
    let h : Fitting s = all_fitting limits sts in
    checks_are_well_typed s.schema k s.database.rows (additions_fit s.schema st k h.reached.suits.tables h.reached.suits.constraints e).suits h.rows.now
