-- What the triggers of a level are lent fits them.
use Rattle.std.proofs.Common.{◌≡◌, ℕ, zero, suc, ◌+◌, ◌≤◌, true, false, List, [], ◌∷◌, length, filter, drop, slice_get, Some, ap, subst, sym, ◌∙◌}
use Rattle.std.specs.List.{list_all}
use Rattle.std.proofs.lemmas.List.{drop_more}
use Rattle.std.proofs.lemmas.Option.{get_or_from_slice_get, slice_get_within}
use Rattle.iv_expr.specs.declared.row.Change.{Change}
use Rattle.iv_expr.specs.Scopes.{Frame}
use Rattle.iv_catalogue.specs.Catalogues.{BodiesWithinLimit}
use Rattle.iv_catalogue.specs.declared.catalogue.Table.{Table}
use Rattle.iv_catalogue.specs.declared.limits.TheConstants.{MOST_BODY_STATEMENTS}
use Rattle.iv_catalogue.specs.declared.plan.BodyStatement.{BodyStatement}
use Rattle.iv_catalogue.specs.declared.plan.BodyStatement.TheVariants as body
use Rattle.iv_catalogue.specs.declared.plan.Trigger.{Trigger}
use Rattle.iv_laws_fitting.specs.PlanShapes.{trigger_suits}
use Rattle.iv_laws_fitting.proofs.Pointwise.{all_at}
use Rattle.iv_laws_levels.proofs.Members.{of_filter, all_in}
use Rattle.iv_machine.specs.BeforeTriggers.{for_each_row}
use Rattle.iv_machine.specs.Levels.{row_firing, statement_firing}
use Rattle.iv_laws_rows.specs.RowFits.{BodyFits, change_fits}
use Rattle.iv_laws_rows.proofs.FittingFrames.{row_firings_fit, statement_firings_fit}
use Rattle.iv_laws_rows.proofs.MoreMembers.{all_by_in}
use Rattle.iv_exec_triggers.specs.ByTable.{is_of, transitions_on}
use Rattle.iv_exec_level.specs.Firing.{ActionFits, AreParts, AreTransitions, CanFire}

pub from_place : {X : Type 0} (xs : List X) (i : ℕ) (x : X) → slice_get xs i ≡ Some x → drop i xs ≡ x ∷ drop (i + 1) xs
from_place xs i x e = drop_more xs i x (slice_get_within xs i x e) ∙ ap (λ y. y ∷ drop (i + 1) xs) (get_or_from_slice_get xs i x x e)

short_at : (ts : List Trigger) (i : ℕ) (t : Trigger) → BodiesWithinLimit ts → slice_get ts i ≡ Some t → length t.body ≤ MOST_BODY_STATEMENTS
short_at [] i t h e = cc
short_at (x ∷ ts) zero t h e = subst (λ y. length y.body ≤ MOST_BODY_STATEMENTS) (some_same x t e) h.0
  where
    some_same : (a b : Trigger) → Some a ≡ Some b → a ≡ b
    some_same a b p = cc
short_at (x ∷ ts) (suc i) t h e = short_at ts i t h.1 e

pub can_fire : (tables : List Table) (ts : List Trigger) (i : ℕ) (t : Trigger) → BodiesWithinLimit ts → list_all (trigger_suits tables) ts ≡ true
    → slice_get ts i ≡ Some t → CanFire tables t
can_fire tables ts i t short suit e = record { suits = all_at (trigger_suits tables) ts suit i t e; short = short_at ts i t short e }

pub action_fits : (tables : List Table) (frame : Frame) (statements : List BodyStatement) (i : ℕ) (s : BodyStatement) → BodyFits tables frame statements
    → slice_get statements i ≡ Some s → ActionFits tables frame s
action_fits tables frame statements i (body.Data d) h e = h i d e
action_fits tables frame statements i (body.Signal text) h e = tt
action_fits tables frame statements i (body.Set setting) h e = tt

pub row_body : (tables : List Table) (t : Trigger) (transitions : List Change) (i : ℕ) (c : Change) (frame : Frame) → CanFire tables t → AreTransitions tables t transitions
    → slice_get transitions i ≡ Some c → frame ≡ (row_firing t transitions c).frame → BodyFits tables frame t.body
row_body tables t transitions i c frame h a e is =
    subst (λ f. BodyFits tables f t.body) (sym is) (row_firings_fit tables t transitions i c h.suits a.fit a.on e)

pub statement_body : (tables : List Table) (t : Trigger) (transitions : List Change) (frame : Frame) → CanFire tables t → for_each_row t ≡ false → AreTransitions tables t transitions
    → frame ≡ (statement_firing t transitions).frame → BodyFits tables frame t.body
statement_body tables t transitions frame h once a is =
    subst (λ f. BodyFits tables f t.body) (sym is) (statement_firings_fit tables t transitions h.suits once a.fit a.on)

pub parts_are_transitions : (tables : List Table) (t : Trigger) (parts : List (List Change)) (changes : List Change) → AreParts tables parts
    → changes ≡ transitions_on parts t.table t.event → AreTransitions tables t changes
parts_are_transitions tables t parts changes h e =
    let is = e ∙ h.by_table t.table t.event in
    let here = is_of t.table t.event in
    subst (AreTransitions tables t) (sym is) (record {
      fit = all_by_in (change_fits tables) (filter here h.net.changes) (λ c j. all_in (change_fits tables) c h.net.changes h.fit (of_filter here c h.net.changes j).0);
      on = all_by_in here (filter here h.net.changes) (λ c j. (of_filter here c h.net.changes j).1);
    })
