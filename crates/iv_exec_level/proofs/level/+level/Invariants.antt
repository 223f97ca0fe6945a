use Rattle.std.proofs.Common.{length, ◌-◌, ◌≡◌, ◌≤◌, map, ◌+◌, ◌*◌, drop, Ok}
use Rattle.std.specs.List.{enumerate_from}
use Rattle.iv_machine.specs.Levels.{Firing, body_run, firings_run, nested_level, row_firing}
use Rattle.iv_machine.specs.BeforeTriggers.{placed_statements}
use Rattle.iv_exec_triggers.specs.ByTable.{all_firings}
use Rattle.iv_exec_waves.specs.Running.{LeavesStore}
use Rattle.iv_account.specs.Accounts.{body_told, firings_told, nested_told}
use Rattle.iv_account.specs.Telling.{and_told}
use Rattle.iv_exec_level.specs.Steps.{progress}
use Rattle.iv_exec_level.proofs.level.+level.Given as goal

-- A nested level is one less deep; the functions between two levels are in the order of their calls.

abbrev pub decreases-nested : goal.decreases-nested
decreases-nested g l = 11 * l.deeper

abbrev pub decreases-run_statement : goal.decreases-run_statement
decreases-run_statement g l = 11 * l.deeper + 1

abbrev pub decreases-run_body : goal.decreases-run_body
decreases-run_body g l = 11 * l.deeper + 2

abbrev pub decreases-run_where_true : goal.decreases-run_where_true
decreases-run_where_true g l = 11 * l.deeper + 3

abbrev pub decreases-fire : goal.decreases-fire
decreases-fire g l = 11 * l.deeper + 4

abbrev pub decreases-fire_once : goal.decreases-fire_once
decreases-fire_once g l = 11 * l.deeper + 5

abbrev pub decreases-fire_rows : goal.decreases-fire_rows
decreases-fire_rows g l = 11 * l.deeper + 5

abbrev pub decreases-fire_trigger : goal.decreases-fire_trigger
decreases-fire_trigger g l = 11 * l.deeper + 6

abbrev pub decreases-fire_all : goal.decreases-fire_all
decreases-fire_all g l = 11 * l.deeper + 7

abbrev pub decreases-finish : goal.decreases-finish
decreases-finish g l = 11 * l.deeper + 8

abbrev pub decreases-run_waves : goal.decreases-run_waves
decreases-run_waves g l = 11 * l.deeper + 9

abbrev pub decreases-run_level : goal.decreases-run_level
decreases-run_level g l = 11 * l.deeper + 10

abbrev pub invariant-fire_all-loop-at : goal.invariant-fire_all-loop-at
invariant-fire_all-loop-at g l =
    let run = nested_level l.deeper l.context in
    let tell = nested_told l.deeper l.context in
    let old = g.K.ReferencingRows.view l.initial.store in
    let now = g.K.ReferencingRows.view l.store in
    record {
      within : l.at ≤ length l.triggers;
      so_far : firings_run run (all_firings l.statement l.columns l.transitions (drop l.at l.triggers)) (progress now.base l.budget)
          ≡ firings_run run (all_firings l.statement l.columns l.transitions l.triggers) (progress old.base l.initial.budget);
      told : and_told l.account (firings_told run tell (all_firings l.statement l.columns l.transitions (drop l.at l.triggers)) (progress now.base l.budget))
          ≡ and_told l.initial.account (firings_told run tell (all_firings l.statement l.columns l.transitions l.triggers) (progress old.base l.initial.budget));
      left : LeavesStore l.context.schema (Ok (tt {0})) old (g.K.ReferencingRows.lookups l.initial.store) now (g.K.ReferencingRows.lookups l.store);
    }

abbrev pub invariant-fire_rows-loop-at : goal.invariant-fire_rows-loop-at
invariant-fire_rows-loop-at g l =
    let run = nested_level l.deeper l.context in
    let tell = nested_told l.deeper l.context in
    let old = g.K.ReferencingRows.view l.initial.store in
    let now = g.K.ReferencingRows.view l.store in
    record {
      within : l.at ≤ length l.transitions;
      so_far : firings_run run (map (row_firing l.trigger l.transitions) (drop l.at l.transitions)) (progress now.base l.budget)
          ≡ firings_run run (map (row_firing l.trigger l.transitions) l.transitions) (progress old.base l.initial.budget);
      told : and_told l.account (firings_told run tell (map (row_firing l.trigger l.transitions) (drop l.at l.transitions)) (progress now.base l.budget))
          ≡ and_told l.initial.account (firings_told run tell (map (row_firing l.trigger l.transitions) l.transitions) (progress old.base l.initial.budget));
      left : LeavesStore l.context.schema (Ok (tt {0})) old (g.K.ReferencingRows.lookups l.initial.store) now (g.K.ReferencingRows.lookups l.store);
    }

abbrev pub invariant-run_body-loop-at : goal.invariant-run_body-loop-at
invariant-run_body-loop-at g l =
    let run = nested_level l.deeper l.context in
    let tell = nested_told l.deeper l.context in
    let x : Firing = record { trigger = l.trigger; frame = l.frame } in
    let old = g.K.ReferencingRows.view l.initial.store in
    let now = g.K.ReferencingRows.view l.store in
    record {
      within : l.at ≤ length l.body;
      counted : l.place ≡ 1 + l.at;
      so_far : body_run run x (enumerate_from l.place (drop l.at l.body)) (progress now.base l.budget)
          ≡ body_run run x (placed_statements l.trigger) (progress old.base l.initial.budget);
      told : and_told l.account (body_told run tell x (enumerate_from l.place (drop l.at l.body)) (progress now.base l.budget))
          ≡ and_told l.initial.account (body_told run tell x (placed_statements l.trigger) (progress old.base l.initial.budget));
      left : LeavesStore l.context.schema (Ok (tt {0})) old (g.K.ReferencingRows.lookups l.initial.store) now (g.K.ReferencingRows.lookups l.store);
    }

abbrev pub decreases-run_body-loop-at : goal.decreases-run_body-loop-at
decreases-run_body-loop-at g l = length l.body - l.at

abbrev pub decreases-fire_all-loop-at : goal.decreases-fire_all-loop-at
decreases-fire_all-loop-at g l = length l.triggers - l.at

abbrev pub decreases-fire_rows-loop-at : goal.decreases-fire_rows-loop-at
decreases-fire_rows-loop-at g l = length l.transitions - l.at
