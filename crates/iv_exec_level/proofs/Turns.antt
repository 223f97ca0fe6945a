-- Triggers that fire one after another.
use Rattle.std.proofs.Common.{◌≡◌, refl, ℕ, ◌+◌, Bool, List, [], ◌∷◌, ◌++◌, map, drop, slice_get, Some, Result, Ok, Err, MatchBool, ap, sym, ◌∙◌}
use Rattle.iv_expr.specs.declared.row.Change.{Change}
use Rattle.iv_expr.specs.declared.wave.TableColumn.{TableColumn}
use Rattle.iv_expr.specs.Scopes.{Frame}
use Rattle.iv_catalogue.specs.declared.plan.BodyStatement.{BodyStatement}
use Rattle.iv_catalogue.specs.declared.plan.DataStatement.{DataStatement}
use Rattle.std.specs.List.{enumerate_from}
use Rattle.iv_catalogue.specs.declared.plan.Trigger.{Trigger}
use Rattle.iv_exec_triggers.specs.ByTable.{after_firings, all_firings}
use Rattle.iv_exec_level.specs.Firing.{FiresAt}
use Rattle.iv_exec_level.proofs.Lending.{from_place}
use Rattle.iv_expr.specs.Evaluation.{and_then}
use Rattle.iv_catalogue.specs.Refusals.{is_memory_cause}
use Rattle.iv_catalogue.specs.declared.cause.Refusal.{Refusal}
use Rattle.iv_machine.specs.Context.{Failure, in_turn}
use Rattle.iv_machine.specs.Levels.{Firing, Runs, Progress, body_run, firing_run, firings_run, row_firing, statement_run}
use Rattle.iv_exec_context.proofs.Answers.{unless_memory}

after_step : {A B E : Type 0} (f : A → B → Result B E) (xs ys : List A) (r : Result B E)
    → ((c : B) → in_turn f (xs ++ ys) c ≡ and_then (in_turn f xs c) (in_turn f ys))
    → and_then r (in_turn f (xs ++ ys)) ≡ and_then (and_then r (in_turn f xs)) (in_turn f ys)
after_step f xs ys (Ok c) h = h c
after_step f xs ys (Err e) h = refl

both_in_turn : {A B E : Type 0} (f : A → B → Result B E) (xs ys : List A) (b : B) → in_turn f (xs ++ ys) b ≡ and_then (in_turn f xs b) (in_turn f ys)
both_in_turn f [] ys b = refl
both_in_turn f (x ∷ xs) ys b = after_step f xs ys (f x b) (both_in_turn f xs ys)

-- the firings of one list, then those of another
pub both_fired : (run : Runs) (xs ys : List Firing) (at mid : Progress) (r : Result Progress Failure)
    → firings_run run xs at ≡ Ok mid → firings_run run ys mid ≡ r → firings_run run (xs ++ ys) at ≡ r
both_fired run xs ys at mid r e f = both_in_turn (firing_run run) xs ys at ∙ ap (λ x. and_then x (firings_run run ys)) e ∙ f

pub first_refused : (run : Runs) (xs ys : List Firing) (at : Progress) (r : Refusal) (f : Failure)
    → MatchBool (is_memory_cause r.cause) (Unit {0}) (firings_run run xs at ≡ Err f)
    → MatchBool (is_memory_cause r.cause) (Unit {0}) (firings_run run (xs ++ ys) at ≡ Err f)
first_refused run xs ys at r f h =
    unless_memory (is_memory_cause r.cause) (firings_run run xs at ≡ Err f) (firings_run run (xs ++ ys) at ≡ Err f)
    (λ e. both_in_turn (firing_run run) xs ys at ∙ ap (λ x. and_then x (firings_run run ys)) e) h

-- one firing is a list of one
pub one_fired : (run : Runs) (x : Firing) (at after : Progress) → firing_run run x at ≡ Ok after → firings_run run (x ∷ []) at ≡ Ok after
one_fired run x at after e = ap (λ r. and_then r (firings_run run [])) e

pub one_refused : (run : Runs) (x : Firing) (at : Progress) (r : Refusal) (f : Failure)
    → MatchBool (is_memory_cause r.cause) (Unit {0}) (firing_run run x at ≡ Err f)
    → MatchBool (is_memory_cause r.cause) (Unit {0}) (firings_run run (x ∷ []) at ≡ Err f)
one_refused run x at r f h =
    unless_memory (is_memory_cause r.cause) (firing_run run x at ≡ Err f) (firings_run run (x ∷ []) at ≡ Err f) (λ e. ap (λ y. and_then y (firings_run run [])) e) h

-- ---- the loops

-- one more trigger of the list
pub triggers_so_far : (run : Runs) (d : DataStatement) (columns : List TableColumn) (parts : List (List Change)) (ts : List Trigger) (i : ℕ) (t : Trigger) (at mid : Progress) (all : Result Progress Failure)
    → slice_get ts i ≡ Some t → firings_run run (after_firings d columns parts t) at ≡ Ok mid → firings_run run (all_firings d columns parts (drop i ts)) at ≡ all
    → firings_run run (all_firings d columns parts (drop (i + 1) ts)) mid ≡ all
triggers_so_far run d columns parts ts i t at mid all e fired so_far =
    sym (both_fired run (after_firings d columns parts t) (all_firings d columns parts (drop (i + 1) ts)) at mid _ fired refl)
    ∙ ap (λ l. firings_run run (all_firings d columns parts l) at) (sym (from_place ts i t e)) ∙ so_far

pub triggers_refused : (memory : Bool) (run : Runs) (d : DataStatement) (columns : List TableColumn) (parts : List (List Change)) (ts : List Trigger) (i : ℕ) (t : Trigger) (at : Progress) (f : Failure) (all : Result Progress Failure)
    → slice_get ts i ≡ Some t → firings_run run (all_firings d columns parts (drop i ts)) at ≡ all
    → MatchBool memory (Unit {0}) (firings_run run (after_firings d columns parts t) at ≡ Err f) → MatchBool memory (Unit {0}) (all ≡ Err f)
triggers_refused memory run d columns parts ts i t at f all e so_far h =
    unless_memory memory (firings_run run (after_firings d columns parts t) at ≡ Err f) (all ≡ Err f)
    (λ x. sym so_far ∙ ap (λ l. firings_run run (all_firings d columns parts l) at) (from_place ts i t e)
    ∙ both_in_turn (firing_run run) (after_firings d columns parts t) (all_firings d columns parts (drop (i + 1) ts)) at
    ∙ ap (λ y. and_then y (firings_run run (all_firings d columns parts (drop (i + 1) ts)))) x) h

-- one more transition of a row trigger
pub rows_so_far : (run : Runs) (t : Trigger) (transitions : List Change) (i : ℕ) (frame : Frame) (at mid : Progress) (all : Result Progress Failure)
    → FiresAt t transitions i frame → firing_run run (record { trigger = t; frame = frame }) at ≡ Ok mid
    → firings_run run (map (row_firing t transitions) (drop i transitions)) at ≡ all
    → firings_run run (map (row_firing t transitions) (drop (i + 1) transitions)) mid ≡ all
rows_so_far run t transitions i frame at mid all h fired so_far =
    let here : firing_run run (row_firing t transitions h.0) at ≡ Ok mid = ap (λ f. firing_run run (record { trigger = t; frame = f }) at) (sym h.2) ∙ fired in
    ap (λ r. and_then r (firings_run run (map (row_firing t transitions) (drop (i + 1) transitions)))) (sym here)
    ∙ ap (λ l. firings_run run (map (row_firing t transitions) l) at) (sym (from_place transitions i h.0 h.1)) ∙ so_far

pub rows_refused : (memory : Bool) (run : Runs) (t : Trigger) (transitions : List Change) (i : ℕ) (frame : Frame) (at : Progress) (f : Failure) (all : Result Progress Failure)
    → FiresAt t transitions i frame → firings_run run (map (row_firing t transitions) (drop i transitions)) at ≡ all
    → MatchBool memory (Unit {0}) (firing_run run (record { trigger = t; frame = frame }) at ≡ Err f) → MatchBool memory (Unit {0}) (all ≡ Err f)
rows_refused memory run t transitions i frame at f all h so_far m =
    unless_memory memory (firing_run run (record { trigger = t; frame = frame }) at ≡ Err f) (all ≡ Err f)
    (λ x. sym so_far ∙ ap (λ l. firings_run run (map (row_firing t transitions) l) at) (from_place transitions i h.0 h.1)
    ∙ ap (λ r. and_then r (firings_run run (map (row_firing t transitions) (drop (i + 1) transitions))))
    (ap (λ y. firing_run run (record { trigger = t; frame = y }) at) (sym h.2) ∙ x)) m

-- one more statement of a body
pub statements_so_far : (run : Runs) (x : Firing) (statements : List BodyStatement) (place i : ℕ) (s : BodyStatement) (at mid : Progress) (all : Result Progress Failure)
    → slice_get statements i ≡ Some s → statement_run run x place s at ≡ Ok mid
    → body_run run x (enumerate_from place (drop i statements)) at ≡ all → body_run run x (enumerate_from (place + 1) (drop (i + 1) statements)) mid ≡ all
statements_so_far run x statements place i s at mid all e ran so_far =
    ap (λ r. and_then r (body_run run x (enumerate_from (place + 1) (drop (i + 1) statements)))) (sym ran)
    ∙ ap (λ l. body_run run x (enumerate_from place l) at) (sym (from_place statements i s e)) ∙ so_far

pub statements_refused : (memory : Bool) (run : Runs) (x : Firing) (statements : List BodyStatement) (place i : ℕ) (s : BodyStatement) (at : Progress) (f : Failure) (all : Result Progress Failure)
    → slice_get statements i ≡ Some s → body_run run x (enumerate_from place (drop i statements)) at ≡ all
    → MatchBool memory (Unit {0}) (statement_run run x place s at ≡ Err f) → MatchBool memory (Unit {0}) (all ≡ Err f)
statements_refused memory run x statements place i s at f all e so_far h =
    unless_memory memory (statement_run run x place s at ≡ Err f) (all ≡ Err f)
    (λ ran. sym so_far ∙ ap (λ l. body_run run x (enumerate_from place l) at) (from_place statements i s e)
    ∙ ap (λ r. and_then r (body_run run x (enumerate_from (place + 1) (drop (i + 1) statements)))) ran) h
