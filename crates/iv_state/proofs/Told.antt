-- What is told of violations.
use Rattle.std.proofs.Common.{◌≡◌, ◌∙◌, ℕ, Bool, true, false, not, if◌then◌else◌, Option, Some, None, List, [], ◌∷◌, ◌++◌, filter, map, ap, sym, MatchBool, Result, Ok, Err}
use Rattle.iv_expr.specs.declared.row.StoredRow.{StoredRow}
use Rattle.iv_state.specs.Types.{ConstraintMode, Fault, Refusal}
use Rattle.iv_catalogue.specs.Refusals.{is_memory_cause}
use Rattle.iv_laws_rows.specs.Changing.{UnlessMemory}
use Rattle.iv_catalogue.specs.Catalogues.{Schema}
use Rattle.iv_machine.specs.declared.database.Which.TheVariants.{All, Deferred}
use Rattle.iv_machine.specs.Databases.{is_chosen, is_deferred, scan}
use Rattle.iv_machine.specs.Machine.{State, is_open, with_modes}
use Rattle.iv_modes.specs.ModeMaps.{ModeMap, first_not_deferrable, with_mode}
use Rattle.iv_account.specs.declared.entry.Entry.{Entry}
use Rattle.iv_account.specs.Accounts.{fault_told, faults_told}
use Rattle.iv_account.specs.Sessions.{commit_told, modes_told, set_constraints_told}
use Rattle.iv_account.specs.Telling.{Account, and_told}
use Rattle.iv_account.proofs.Telling.{told_none, told_twice}
use Rattle.iv_state.proofs.Deferred.{first_same, of_all}

-- what holds, holds unless an allocation failed
pub always : {A : Type 0} (r : Result A Refusal) (P : Type 0) → P → UnlessMemory r P
always (Ok a) P p = p
always (Err r) P p = by (is_memory_cause r.cause) where
  by : (b : Bool) → MatchBool b (Unit {0}) P
  by true = tt
  by false = p

-- if no account is asked for, none is told
pub told_unasked : (account : Account) (entries : List Entry) → account.asked ≡ false → account ≡ and_told account entries
told_unasked account entries e = ap (λ (b : Bool). record account { entries = if b then account.entries ++ entries else account.entries }) (sym e)

pub nothing_told : (account : Account) (entries : List Entry) → entries ≡ [] → account ≡ and_told account entries
nothing_told account entries e = sym (told_none account) ∙ ap (and_told account) (sym e)

-- one violation more
pub one_told : (schema : Schema) (rows : List StoredRow) (f : Fault) (faults : List Fault) (account later all : Account)
    → later ≡ and_told account (fault_told schema rows f ∷ []) → and_told account (faults_told schema rows (f ∷ faults)) ≡ all
    → and_told later (faults_told schema rows faults) ≡ all
one_told schema rows f faults account later all e so_far =
    ap (λ k. and_told k (faults_told schema rows faults)) e ∙ told_twice account (fault_told schema rows f ∷ []) (faults_told schema rows faults) ∙ so_far

-- the violations that modes make immediate are those of deferred constraints that are immediate in them
pub modes_are_told : (s : State) (new : List ConstraintMode)
    → faults_told s.schema s.database.rows (filter (λ f. not (is_deferred new f.constraint)) (scan s.database.rows s.schema.constraints (is_chosen s.modes Deferred)))
    ≡ modes_told s new
modes_are_told s new =
    ap (faults_told s.schema s.database.rows) (of_all s.database.rows (is_deferred s.modes) (λ id. not (is_deferred new id)) 0 s.schema.constraints)

-- outside a transaction COMMIT is told nothing
pub commit_untold : (s : State) → is_open s ≡ false → commit_told s ≡ []
commit_untold s e = ap (λ (b : Bool). if b then faults_told s.schema s.database.rows (scan s.database.rows s.schema.constraints (is_chosen s.modes All)) else []) e

pub commit_is_told : (s : State) → is_open s ≡ true → commit_told s ≡ faults_told s.schema s.database.rows (scan s.database.rows s.schema.constraints (is_chosen s.modes All))
commit_is_told s e = ap (λ (b : Bool). if b then faults_told s.schema s.database.rows (scan s.database.rows s.schema.constraints (is_chosen s.modes All)) else []) e

-- ---- SET CONSTRAINTS

abbrev told_by : State → List ℕ → ConstraintMode → Option ℕ → List Entry
told_by s ids mode o = elim o [ Some id ↦ [] | None ↦ modes_told s (with_modes s.modes ids mode) ]

pub set_untold : (s : State) (ids : List ℕ) (mode : ConstraintMode) (m : ModeMap) (id : ℕ) → m.deferrable ≡ map (λ c. c.deferrable) s.schema.constraints
    → first_not_deferrable m ids ≡ Some id → set_constraints_told s ids mode ≡ []
set_untold s ids mode m id e f = ap (told_by s ids mode) (sym (first_same s.schema m ids e) ∙ f)

pub set_is_told : (s : State) (ids : List ℕ) (mode : ConstraintMode) (m new : ModeMap)
    → m.modes ≡ s.modes → m.deferrable ≡ map (λ c. c.deferrable) s.schema.constraints → first_not_deferrable m ids ≡ None → new ≡ with_mode m ids mode
    → set_constraints_told s ids mode ≡ modes_told s new.modes
set_is_told s ids mode m new a d n e =
    ap (told_by s ids mode) (sym (first_same s.schema m ids d) ∙ n)
    ∙ ap (modes_told s) (ap (λ (l : List ConstraintMode). with_modes l ids mode) (sym a) ∙ sym (ap (λ (x : ModeMap). x.modes) e))
