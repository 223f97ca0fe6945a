-- SET CONSTRAINTS: which constraints may be set, and the first violation of one that becomes immediate.
use Rattle.std.proofs.Common.{◌≡◌, ℕ, zero, suc, ◌+◌, Bool, true, false, not, ◌&&◌, ◌==◌, if◌then◌else◌, Option, Some, None, List, [], ◌∷◌, ◌++◌, filter, find, map, flat_map, slice_get, refl, ap, sym, ◌∙◌}
use Rattle.std.proofs.lemmas.Bool.{true≢false}
use Rattle.std.specs.List.{enumerate_from}
use Rattle.iv_expr.specs.declared.row.StoredRow.{StoredRow}
use Rattle.iv_state.specs.Types.{ConstraintMode, Constraint, Fault}
use Rattle.iv_state.specs.Types.cause.{NotDeferrable, Violation}
use Rattle.iv_state.specs.Types.answer.{Done}
use Rattle.iv_catalogue.specs.Catalogues.{Schema}
use Rattle.iv_machine.specs.declared.database.Which.TheVariants.{Deferred}
use Rattle.iv_machine.specs.Databases.{chosen_violations, fault_at, first, is_chosen, is_deferred, satisfies, scan, violations}
use Rattle.iv_machine.specs.Machine.{State, Outcome, accept, refuse, refuse_first, first_made_immediate, is_deferrable, modes_outcome, set_constraints_outcome, with_modes}
use Rattle.iv_modes.specs.ModeMaps.{ModeMap, first_not_deferrable, with_mode}
use Rattle.iv_modes.specs.ModeMaps as modes

-- ---- which may be set

flag_at : (ks : List Constraint) (id : ℕ)
    → (elim (slice_get (map (λ (c : Constraint). c.deferrable) ks) id) as (λ _. Bool) [ Some b ↦ b | None ↦ false ]) ≡ (elim (slice_get ks id) as (λ _. Bool) [ Some k ↦ k.deferrable | None ↦ false ])
flag_at [] id = refl
flag_at (k ∷ ks) zero = refl
flag_at (k ∷ ks) (suc id) = flag_at ks id

same_deferrable : (schema : Schema) (m : ModeMap) → m.deferrable ≡ map (λ c. c.deferrable) schema.constraints → (id : ℕ) → modes.is_deferrable m id ≡ is_deferrable schema id
same_deferrable schema m e id =
    ap (λ (l : List Bool). elim (slice_get l id) as (λ _. Bool) [ Some b ↦ b | None ↦ false ]) e ∙ flag_at schema.constraints id

pub first_same : (schema : Schema) (m : ModeMap) (ids : List ℕ) → m.deferrable ≡ map (λ c. c.deferrable) schema.constraints
    → first_not_deferrable m ids ≡ find (λ id. not (is_deferrable schema id)) ids
first_same schema m ids e = ap (λ (f : ℕ → Bool). find f ids) (λ i id. not (same_deferrable schema m e id i))

-- by the first that may not be set
abbrev set_by : State → List ℕ → ConstraintMode → Option ℕ → Outcome
set_by s ids mode o = elim o [ Some id ↦ refuse s (NotDeferrable id) | None ↦ modes_outcome s (with_modes s.modes ids mode) ]

pub set_refused : (s : State) (ids : List ℕ) (mode : ConstraintMode) (m : ModeMap) (id : ℕ) → m.deferrable ≡ map (λ c. c.deferrable) s.schema.constraints
    → first_not_deferrable m ids ≡ Some id → set_constraints_outcome s ids mode ≡ refuse s (NotDeferrable id)
set_refused s ids mode m id e f = ap (set_by s ids mode) (sym (first_same s.schema m ids e) ∙ f)

-- ---- the first violation

filter_more : (p : Fault → Bool) (xs ys : List Fault) → filter p (xs ++ ys) ≡ filter p xs ++ filter p ys
filter_more p [] ys = refl
filter_more p (x ∷ xs) ys = by (p x) (filter_more p xs ys) where
  by : (b : Bool) → filter p (xs ++ ys) ≡ filter p xs ++ filter p ys
      → (if b then x ∷ filter p (xs ++ ys) else filter p (xs ++ ys)) ≡ (if b then x ∷ filter p xs else filter p xs) ++ filter p ys
  by true h = ap (λ (l : List Fault). x ∷ l) h
  by false h = h

abbrev none : List Fault
none = []

of_id : (p : ℕ → Bool) (id : ℕ) (rows : List StoredRow) → filter (λ (f : Fault). p f.constraint) (map (fault_at id) rows) ≡ (if p id then map (fault_at id) rows else [])
of_id p id [] = by (p id) where
  by : (b : Bool) → none ≡ (if b then none else none)
  by true = refl
  by false = refl
of_id p id (r ∷ rows) = by (p id) (of_id p id rows) where
  by : (b : Bool) → filter (λ (f : Fault). p f.constraint) (map (fault_at id) rows) ≡ (if b then map (fault_at id) rows else [])
      → (if b then fault_at id r ∷ filter (λ (f : Fault). p f.constraint) (map (fault_at id) rows) else filter (λ (f : Fault). p f.constraint) (map (fault_at id) rows))
      ≡ (if b then fault_at id r ∷ map (fault_at id) rows else [])
  by true h = ap (λ (l : List Fault). fault_at id r ∷ l) h
  by false h = h

of_one : (rows : List StoredRow) (chosen p : ℕ → Bool) (id : ℕ) (c : Constraint)
    → filter (λ (f : Fault). p f.constraint) (chosen_violations rows chosen id c) ≡ chosen_violations rows (λ i. chosen i && p i) id c
of_one rows chosen p id c = by (chosen id) where
  by : (b : Bool) → filter (λ (f : Fault). p f.constraint) (if b then violations rows id c else []) ≡ (if (b && p id) then violations rows id c else [])
  by true = of_id p id (filter (λ r. (r.table == c.table) && not (satisfies rows c r)) rows)
  by false = refl

abbrev from : List StoredRow → (ℕ → Bool) → ℕ → List Constraint → List Fault
from rows chosen id cs = flat_map (λ k. chosen_violations rows chosen k.0 k.1) (enumerate_from id cs)

pub of_all : (rows : List StoredRow) (chosen p : ℕ → Bool) (id : ℕ) (cs : List Constraint)
    → filter (λ (f : Fault). p f.constraint) (from rows chosen id cs) ≡ from rows (λ i. chosen i && p i) id cs
of_all rows chosen p id [] = refl
of_all rows chosen p id (c ∷ cs) =
    filter_more (λ (f : Fault). p f.constraint) (chosen_violations rows chosen id c) (from rows chosen (id + 1) cs)
    ∙ (λ i. of_one rows chosen p id c i ++ of_all rows chosen p (id + 1) cs i)

-- the first of those that were deferred and no longer are
pub made_immediate : (s : State) (old new made : List ConstraintMode) → old ≡ s.modes
    → ((id : ℕ) → is_deferred made id ≡ (is_deferred old id && not (is_deferred new id)))
    → first (scan s.database.rows s.schema.constraints (is_chosen made Deferred)) ≡ first_made_immediate s new
made_immediate s old new made e h =
    ap (λ (chosen : ℕ → Bool). first (scan s.database.rows s.schema.constraints chosen))
    (λ i id. (h id ∙ ap (λ (modes : List ConstraintMode). is_deferred modes id && not (is_deferred new id)) e) i)

-- nothing is chosen
none_from : (rows : List StoredRow) (id : ℕ) (cs : List Constraint) → from rows (λ _. false) id cs ≡ []
none_from rows id [] = refl
none_from rows id (c ∷ cs) = none_from rows (id + 1) cs

-- if all that was deferred still is, no constraint was made immediate
pub none_made_immediate : (s : State) (new : List ConstraintMode) → ((id : ℕ) → is_deferred s.modes id ≡ true → is_deferred new id ≡ true)
    → first_made_immediate s new ≡ None
none_made_immediate s new h =
    ap (λ (chosen : ℕ → Bool). first (scan s.database.rows s.schema.constraints chosen)) (λ i id. by (is_deferred s.modes id) (is_deferred new id) (h id) i)
    ∙ ap first (none_from s.database.rows 0 s.schema.constraints) where
      by : (b c : Bool) → (b ≡ true → c ≡ true) → (b && not c) ≡ false
      by false c k = refl
      by true true k = refl
      by true false k = absurd (true≢false (sym (k refl)))

-- SET CONSTRAINTS of constraints that may be set
pub set_seen : (s : State) (ids : List ℕ) (mode : ConstraintMode) (m new : ModeMap) (o : Option Fault)
    → m.modes ≡ s.modes → m.deferrable ≡ map (λ c. c.deferrable) s.schema.constraints → first_not_deferrable m ids ≡ None → new ≡ with_mode m ids mode
    → o ≡ first_made_immediate s new.modes
    → set_constraints_outcome s ids mode ≡ refuse_first s Violation o (accept (record s { modes = new.modes }) Done)
set_seen s ids mode m new o a d n e g =
    let modes_are : with_modes s.modes ids mode ≡ new.modes = ap (λ (l : List ConstraintMode). with_modes l ids mode) (sym a) ∙ sym (ap (λ (x : ModeMap). x.modes) e) in
    ap (set_by s ids mode) (sym (first_same s.schema m ids d) ∙ n) ∙ ap (modes_outcome s) modes_are
    ∙ ap (λ (x : Option Fault). refuse_first s Violation x (accept (record s { modes = new.modes }) Done)) (sym g)
