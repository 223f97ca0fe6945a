-- What holds in every state that resolved statements reach, whatever constraints, modes, savepoints and triggers there are.
use Rattle.std.proofs.Common.{◌≡◌, refl, ℕ, true, false, not, if◌then◌else◌, List, [], ◌∷◌, length, Some, None, unwrap_or, sym, ap, subst, ◌∙◌, arith}
use Rattle.std.specs.Str.{bytes_eq}
use Rattle.iv_syntax.specs.declared.statement.ConstraintMode.{ConstraintMode}
use Rattle.iv_catalogue.specs.Catalogues.{Schema, TriggersNumbered}
use Rattle.iv_laws_levels.specs.Types.{Database}
use Rattle.iv_laws_levels.specs.Types.which.{Immediate, Deferred}
use Rattle.iv_machine.specs.Bounds.{Bounds}
use Rattle.iv_machine.specs.Databases.{scan, is_chosen, initial_modes}
use Rattle.iv_machine.specs.Laws.{IsSound, EachSaveHolds}
use Rattle.iv_machine.specs.Machine.{Savepoint, State, NamedSavepoint, empty_state, start_database, with_transaction, state_at_end, savepoint_named, without_name, with_schema}
use Rattle.iv_machine.proofs.Modes.{none_where_none_deferred}
use Rattle.iv_machine.proofs.Scans.{none_of_some}
use Rattle.iv_laws_levels.specs.FittingWaves.{Numbered}
use Rattle.iv_laws_levels.proofs.RowNumbers.{some_none, some_same}
use Rattle.iv_laws_levels.proofs.PlacedRows.{Placed}
use Rattle.iv_laws_levels.proofs.FittingBodies.{TriggersFit}

-- ---- databases

-- under these modes no immediate constraint is violated, and rows have rising numbers and are of tables that are there
pub record Firm (c : Schema) (modes : List ConstraintMode) (db : Database) : Type 0 where
  pub immediate : scan db.rows c.constraints (is_chosen modes Immediate) ≡ []
  pub numbered : Numbered db
  pub placed : Placed (length c.tables) db.rows

-- the same, and no constraint is violated
pub record Faultless (c : Schema) (db : Database) : Type 0 where
  pub unviolated : scan db.rows c.constraints (λ _. true) ≡ []
  pub numbered : Numbered db
  pub placed : Placed (length c.tables) db.rows

pub faultless_firm : (c : Schema) (modes : List ConstraintMode) (db : Database) → Faultless c db → Firm c modes db
faultless_firm c modes db h = record { immediate = none_of_some db.rows (is_chosen modes Immediate) c.constraints h.unviolated; numbered = h.numbered; placed = h.placed }

-- ---- savepoints

abbrev pub AllFirm : Schema → List Savepoint → Type 0
AllFirm c [] = Unit {0}
AllFirm c (x ∷ xs) = Firm c x.modes x.database × AllFirm c xs

pub without_firm : (c : Schema) (name : List ℕ) (xs : List Savepoint) → AllFirm c xs → AllFirm c (without_name name xs)
without_firm c name [] h = tt
without_firm c name (x ∷ xs) h =
    elim (not (bytes_eq name x.name)) as (λ b. AllFirm c (if b then x ∷ without_name name xs else without_name name xs)) [
      | true ↦ (h.0, without_firm c name xs h.1)
      | false ↦ without_firm c name xs h.1
    ]

-- the one that is found, and those before it
pub named_firm : (c : Schema) (name : List ℕ) (xs : List Savepoint) (x : NamedSavepoint) → savepoint_named name xs ≡ Some x → AllFirm c xs → AllFirm c (x.savepoint ∷ x.older)
named_firm c name [] x e h = absurd (some_none x (sym e))
named_firm c name (y ∷ xs) x e h =
    elim (bytes_eq name y.name) as (λ b. (if b then Some (record { savepoint = y; older = xs }) else savepoint_named name xs) ≡ Some x → AllFirm c (x.savepoint ∷ x.older)) [
      | true ↦ λ is. subst (λ f. AllFirm c (f.savepoint ∷ f.older)) (some_same (record { savepoint = y; older = xs }) x is) h
      | false ↦ λ is. named_firm c name xs x is h.1
    ] e

each_save_holds : (c : Schema) (xs : List Savepoint) → AllFirm c xs → EachSaveHolds c xs
each_save_holds c [] h = tt
each_save_holds c (x ∷ xs) h = (h.0.immediate, each_save_holds c xs h.1)

-- ---- states

-- The database is firm under the modes, and so is each savepoint's; that at the start of the transaction, or that outside of one,
-- violates nothing; outside, modes are initial and there is no savepoint; no change is counted at the start; and the triggers' bodies fit and their numbers
-- rise.
pub record Reachable (s : State) : Type 0 where
  pub now : Firm s.schema s.modes s.database
  pub first : Faultless s.schema (start_database s)
  pub initial : s.start ≡ None → s.modes ≡ initial_modes s.schema.constraints
  pub unsaved : s.start ≡ None → s.savepoints ≡ []
  pub saves : AllFirm s.schema s.savepoints
  pub bodies : TriggersFit s.schema s.schema.triggers
  pub uncounted : (start_database s).count ≡ 0
  pub triggers : TriggersNumbered s.schema

pub empty_reachable : (limits : Bounds) → Reachable (empty_state limits)
empty_reachable limits = record {
  now = record { immediate = refl; numbered = omega arith; placed = tt };
  first = record { unviolated = refl; numbered = omega arith; placed = tt };
  initial = λ e. refl;
  unsaved = λ e. refl;
  saves = tt;
  bodies = tt;
  uncounted = refl;
  triggers = omega arith;
}

-- outside a transaction the database is the one that it would start from
outside_same : (s : State) → s.start ≡ None → start_database s ≡ s.database
outside_same s e = ap (λ o. unwrap_or o s.database) e

pub outside_faultless : (s : State) → s.start ≡ None → Reachable s → Faultless s.schema s.database
outside_faultless s e h = subst (Faultless s.schema) (outside_same s e) h.first

pub reachable_is_sound : (s : State) → Reachable s → IsSound s
reachable_is_sound s h = record {
  immediate = h.now.immediate;
  deferred = (
    none_of_some s.database.rows (is_chosen s.modes Deferred) s.schema.constraints,
    none_where_none_deferred s.database.rows s.modes s.schema.constraints h.now.immediate,
  );
  outside = λ e. record {
    unviolated = (outside_faultless s e h).unviolated;
    initial = h.initial e;
    unsaved = h.unsaved e;
    uncounted = ap (λ d. d.count) (sym (outside_same s e)) ∙ h.uncounted;
  };
  saves = each_save_holds s.schema s.savepoints h.saves;
  rising = h.now.numbered;
  triggers = h.triggers;
}

-- ---- what leads from one state to another

-- another catalogue, outside a transaction
pub schema_reachable : (s : State) (c : Schema) → s.start ≡ None → Faultless c s.database → TriggersFit c c.triggers → TriggersNumbered c → Reachable s
    → Reachable (with_schema s c)
schema_reachable s c e free fit numbers h = record {
  now = faultless_firm c (initial_modes c.constraints) s.database free;
  first = subst (Faultless c) (sym (outside_same s e)) free;
  initial = λ none. refl;
  unsaved = h.unsaved;
  saves = subst (AllFirm c) (sym (h.unsaved e)) tt;
  bodies = fit;
  uncounted = h.uncounted;
  triggers = numbers;
}

-- the beginning of a transaction, or a later database in it
pub begun_reachable : (s : State) (db : Database) → Firm s.schema s.modes db → Reachable s → Reachable (record (with_transaction s) { database = db })
begun_reachable s db now h = record {
  now = now;
  first = h.first;
  initial = λ none. absurd (some_none (start_database s) none);
  unsaved = λ none. absurd (some_none (start_database s) none);
  saves = h.saves;
  bodies = h.bodies;
  uncounted = h.uncounted;
  triggers = h.triggers;
}

-- the end of a transaction
pub ended_reachable : (s : State) (db : Database) → Faultless s.schema db → Reachable s → Reachable (state_at_end s db)
ended_reachable s db free h =
    let same : Faultless s.schema (record db { count = 0 }) = record { unviolated = free.unviolated; numbered = free.numbered; placed = free.placed } in
    record {
      now = faultless_firm s.schema (initial_modes s.schema.constraints) (record db { count = 0 }) same;
      first = same;
      initial = λ none. refl;
      unsaved = λ none. refl;
      saves = tt;
      bodies = h.bodies;
      uncounted = refl;
      triggers = h.triggers;
    }

-- another database, other modes and other savepoints in a transaction
pub inside_reachable : (s : State) (start db : Database) (modes : List ConstraintMode) (saves : List Savepoint) → s.start ≡ Some start
    → Firm s.schema modes db → AllFirm s.schema saves → Reachable s → Reachable (record s { database = db; modes = modes; savepoints = saves })
inside_reachable s start db modes saves e now firm h = record {
  now = now;
  first = subst (Faultless s.schema) (ap (λ o. unwrap_or o s.database) e ∙ sym (ap (λ o. unwrap_or o db) e)) h.first;
  initial = λ none. absurd (some_none start (sym e ∙ none));
  unsaved = λ none. absurd (some_none start (sym e ∙ none));
  saves = firm;
  bodies = h.bodies;
  uncounted = subst (λ d. d.count ≡ 0) (ap (λ o. unwrap_or o s.database) e ∙ sym (ap (λ o. unwrap_or o db) e)) h.uncounted;
  triggers = h.triggers;
}
