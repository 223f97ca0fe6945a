-- Triggers that fire one after another are told.
use Rattle.std.proofs.Common.{◌≡◌, refl, ℕ, ◌+◌, Bool, true, false, List, ◌∷◌, ◌++◌, map, drop, slice_get, Some, Ok, Err, MatchBool, ap, sym, ◌∙◌}
use Rattle.std.specs.List.{enumerate_from}
use Rattle.iv_expr.specs.declared.row.Change.{Change}
use Rattle.iv_expr.specs.declared.wave.TableColumn.{TableColumn}
use Rattle.iv_expr.specs.Scopes.{Frame}
use Rattle.iv_catalogue.specs.declared.plan.BodyStatement.{BodyStatement}
use Rattle.iv_catalogue.specs.declared.plan.DataStatement.{DataStatement}
use Rattle.iv_catalogue.specs.declared.plan.Trigger.{Trigger}
use Rattle.iv_machine.specs.Context.{Failure}
use Rattle.iv_machine.specs.Levels.{Firing, Runs, Progress, firing_run, firings_run, row_firing, statement_run}
use Rattle.iv_exec_triggers.specs.ByTable.{after_firings, all_firings}
use Rattle.iv_account.specs.Accounts.{Tells, body_told, firing_told, firings_told, statement_told}
use Rattle.iv_account.specs.Telling.{Account, and_told}
use Rattle.iv_account.proofs.Telling.{both_told, then_on, then_refused, turn_refused, turn_told}
use Rattle.iv_exec_level.specs.Firing.{FiresAt}
use Rattle.iv_exec_level.proofs.Lending.{from_place}

module _ (run : Runs) (tell : Tells) where
  -- the firings of one list, then those of another
  lists_told : (xs ys : List Firing) (at mid : Progress) (account later all : Account)
      → firings_run run xs at ≡ Ok mid → later ≡ and_told account (firings_told run tell xs at)
      → and_told account (firings_told run tell (xs ++ ys) at) ≡ all → and_told later (firings_told run tell ys mid) ≡ all
  lists_told xs ys at mid account later all fired told so_far =
      then_on account later (and_told later (firings_told run tell ys mid)) (firings_told run tell xs at) (firings_run run xs at) mid (firings_told run tell ys) fired told refl
      ∙ ap (and_told account) (sym (both_told (firing_run run) (firing_told run tell) xs ys at)) ∙ so_far

  lists_refused : (xs ys : List Firing) (at : Progress) (f : Failure) (account later all : Account)
      → firings_run run xs at ≡ Err f → later ≡ and_told account (firings_told run tell xs at)
      → and_told account (firings_told run tell (xs ++ ys) at) ≡ all → later ≡ all
  lists_refused xs ys at f account later all fired told so_far =
      then_refused account later (firings_told run tell xs at) (firings_run run xs at) f (firings_told run tell ys) fired told
      ∙ ap (and_told account) (sym (both_told (firing_run run) (firing_told run tell) xs ys at)) ∙ so_far

  -- ---- the loops

  module _ (d : DataStatement) (columns : List TableColumn) (parts : List (List Change)) (ts : List Trigger) (i : ℕ) where
    -- one more trigger of the list
    module _ (t : Trigger) (here : slice_get ts i ≡ Some t) where
      triggers_open : (at : Progress) (account all : Account)
          → and_told account (firings_told run tell (all_firings d columns parts (drop i ts)) at) ≡ all
          → and_told account (firings_told run tell (after_firings d columns parts t ++ all_firings d columns parts (drop (i + 1) ts)) at) ≡ all
      triggers_open at account all so_far =
          ap (λ l. and_told account (firings_told run tell (all_firings d columns parts l) at)) (sym (from_place ts i t here)) ∙ so_far

      pub triggers_told : (at mid : Progress) (account later all : Account)
          → firings_run run (after_firings d columns parts t) at ≡ Ok mid → later ≡ and_told account (firings_told run tell (after_firings d columns parts t) at)
          → and_told account (firings_told run tell (all_firings d columns parts (drop i ts)) at) ≡ all
          → and_told later (firings_told run tell (all_firings d columns parts (drop (i + 1) ts)) mid) ≡ all
      triggers_told at mid account later all fired told so_far =
          lists_told (after_firings d columns parts t) (all_firings d columns parts (drop (i + 1) ts)) at mid account later all fired told (triggers_open at account all so_far)

      pub triggers_told_refused : (memory : Bool) (at : Progress) (f : Failure) (account later all : Account)
          → and_told account (firings_told run tell (all_firings d columns parts (drop i ts)) at) ≡ all
          → MatchBool memory (Unit {0}) (firings_run run (after_firings d columns parts t) at ≡ Err f)
          → MatchBool memory (Unit {0}) (later ≡ and_told account (firings_told run tell (after_firings d columns parts t) at))
          → MatchBool memory (Unit {0}) (later ≡ all)
      triggers_told_refused true at f account later all so_far fired told = tt
      triggers_told_refused false at f account later all so_far fired told =
          lists_refused (after_firings d columns parts t) (all_firings d columns parts (drop (i + 1) ts)) at f account later all fired told (triggers_open at account all so_far)

  module _ (t : Trigger) (transitions : List Change) (i : ℕ) where
    -- one more transition of a row trigger
    module _ (frame : Frame) (here : FiresAt t transitions i frame) where
      as_fired : row_firing t transitions here.0 ≡ record { trigger = t; frame = frame }
      as_fired = ap {B = Firing} (λ (f : Frame). record { trigger = t; frame = f }) (sym here.2)

      rows_open : (at : Progress) (account all : Account)
          → and_told account (firings_told run tell (map (row_firing t transitions) (drop i transitions)) at) ≡ all
          → and_told account (firings_told run tell (record { trigger = t; frame = frame } ∷ map (row_firing t transitions) (drop (i + 1) transitions)) at) ≡ all
      rows_open at account all so_far =
          ap (λ (x : Firing). and_told account (firings_told run tell (x ∷ map (row_firing t transitions) (drop (i + 1) transitions)) at)) (sym as_fired)
          ∙ ap (λ l. and_told account (firings_told run tell (map (row_firing t transitions) l) at)) (sym (from_place transitions i here.0 here.1)) ∙ so_far

      pub rows_told : (at mid : Progress) (account later all : Account)
          → firing_run run (record { trigger = t; frame = frame }) at ≡ Ok mid → later ≡ and_told account (firing_told run tell (record { trigger = t; frame = frame }) at)
          → and_told account (firings_told run tell (map (row_firing t transitions) (drop i transitions)) at) ≡ all
          → and_told later (firings_told run tell (map (row_firing t transitions) (drop (i + 1) transitions)) mid) ≡ all
      rows_told at mid account later all fired told so_far =
          turn_told (firing_run run) (firing_told run tell) (record { trigger = t; frame = frame }) (map (row_firing t transitions) (drop (i + 1) transitions)) at mid account later all
          fired told (rows_open at account all so_far)

      pub rows_told_refused : (memory : Bool) (at : Progress) (f : Failure) (account later all : Account)
          → and_told account (firings_told run tell (map (row_firing t transitions) (drop i transitions)) at) ≡ all
          → MatchBool memory (Unit {0}) (firing_run run (record { trigger = t; frame = frame }) at ≡ Err f)
          → MatchBool memory (Unit {0}) (later ≡ and_told account (firing_told run tell (record { trigger = t; frame = frame }) at))
          → MatchBool memory (Unit {0}) (later ≡ all)
      rows_told_refused true at f account later all so_far fired told = tt
      rows_told_refused false at f account later all so_far fired told =
          turn_refused (firing_run run) (firing_told run tell) (record { trigger = t; frame = frame }) (map (row_firing t transitions) (drop (i + 1) transitions)) at f account later all
          fired told (rows_open at account all so_far)

  module _ (x : Firing) (statements : List BodyStatement) (place i : ℕ) where
    -- one more statement of a body
    module _ (s : BodyStatement) (here : slice_get statements i ≡ Some s) where
      statements_open : (at : Progress) (account all : Account)
          → and_told account (body_told run tell x (enumerate_from place (drop i statements)) at) ≡ all
          → and_told account (body_told run tell x ((place, s) ∷ enumerate_from (place + 1) (drop (i + 1) statements)) at) ≡ all
      statements_open at account all so_far =
          ap (λ l. and_told account (body_told run tell x (enumerate_from place l) at)) (sym (from_place statements i s here)) ∙ so_far

      pub statements_told : (at mid : Progress) (account later all : Account)
          → statement_run run x place s at ≡ Ok mid → later ≡ and_told account (statement_told run tell x place s at)
          → and_told account (body_told run tell x (enumerate_from place (drop i statements)) at) ≡ all
          → and_told later (body_told run tell x (enumerate_from (place + 1) (drop (i + 1) statements)) mid) ≡ all
      statements_told at mid account later all ran told so_far =
          turn_told (λ s. statement_run run x s.0 s.1) (λ s. statement_told run tell x s.0 s.1) (place, s) (enumerate_from (place + 1) (drop (i + 1) statements)) at mid account later all
          ran told (statements_open at account all so_far)

      pub statements_told_refused : (memory : Bool) (at : Progress) (f : Failure) (account later all : Account)
          → and_told account (body_told run tell x (enumerate_from place (drop i statements)) at) ≡ all
          → MatchBool memory (Unit {0}) (statement_run run x place s at ≡ Err f)
          → MatchBool memory (Unit {0}) (later ≡ and_told account (statement_told run tell x place s at))
          → MatchBool memory (Unit {0}) (later ≡ all)
      statements_told_refused true at f account later all so_far ran told = tt
      statements_told_refused false at f account later all so_far ran told =
          turn_refused (λ s. statement_run run x s.0 s.1) (λ s. statement_told run tell x s.0 s.1) (place, s) (enumerate_from (place + 1) (drop (i + 1) statements)) at f account later all
          ran told (statements_open at account all so_far)
