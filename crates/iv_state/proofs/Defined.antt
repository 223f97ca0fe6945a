-- CREATE TABLE and ALTER TABLE ADD outside a transaction, and statements by their plans.
use Rattle.std.proofs.Common.{◌≡◌, ℕ, zero, suc, ◌==◌, Bool, true, false, Option, Some, None, Result, Ok, Err, List, [], ◌∷◌, ◌++◌, length, option_map, is_some, refl, ap, sym, subst, ◌∙◌, MatchBool}
use Rattle.std.proofs.lemmas.Bool.{and_from, and_parts}
use Rattle.iv_value.specs.declared.value.Value.{Value}
use Rattle.iv_expr.specs.declared.row.StoredRow.{StoredRow}
use Rattle.iv_state.specs.Types.{Statement, Table, Fault, Refusal, Constraint, Plan, Answer}
use Rattle.iv_state.specs.Types.cause.{AddRefused}
use Rattle.iv_state.specs.Types.answer.{Done}
use Rattle.iv_catalogue.specs.Catalogues.{Schema, with_constraint, with_table}
use Rattle.iv_catalogue.specs.Refusals.{is_memory}
use Rattle.iv_machine.specs.Databases.{first, initial_modes, scan}
use Rattle.iv_machine.specs.Machine.{State, Outcome, Work, no_work, accept, refuse, refuse_first, add_constraint_outcome, with_schema, IsMemoryRefusal, changes_rows, resolution_outcome, MemoryRefused}
use Rattle.iv_modes.specs.ModeMaps.{ModeMap, initial_map}
use Rattle.iv_resolution.specs.Resolution.{resolution}
use Rattle.iv_store.specs.Stores.{AnswersAdding, StoreState, first_violating_row, fits_table, store_with_constraint, store_with_table}
use Rattle.iv_store.proofs.Adding.{added_violation}
use Rattle.iv_laws_fitting.specs.ConstraintShapes.{SchemaSuits}
use Rattle.iv_state.specs.Kept.{Parts, IsCalm, Kept, Seen, StandsAs, current, later, savepoints_of, started, state_of}
use Rattle.iv_state.specs.Performing.{Did, Performs, PerformsPlan, Runs}
use Rattle.iv_laws_rows.specs.RowFits.{row_fits, rows_fit}
use Rattle.iv_state.specs.Fits.{adding_refusal}
use Rattle.iv_store.specs.declared.fault.AddFault.{AddFault}
use Rattle.iv_store.specs.declared.fault.AddFault.TheVariants as fault
use Rattle.iv_account.specs.declared.entry.Entry.{Entry}
use Rattle.iv_account.specs.Accounts.{not_added_told, told_or}
use Rattle.iv_account.specs.Sessions.{addition_refused_told, addition_told}
use Rattle.iv_account.specs.Telling.{Account, and_told}
use Rattle.iv_laws_rows.specs.Changing.{UnlessMemory}
use Rattle.iv_state.specs.Telling.{TellsAddition}
use Rattle.iv_state.proofs.Told.{nothing_told}
use Rattle.iv_state.proofs.Performed.{refuse_performs}
use Rattle.iv_step.specs.Step.{Executes, step}
use Rattle.iv_state.proofs.Fitting.{runs_as}
use Rattle.iv_laws_fitting.proofs.Plans.{accepted}

pub shut_is : (b : Bool) (s : StoreState) → is_some (started b s) ≡ false → b ≡ false
shut_is true s h = cc
shut_is false s h = refl

-- ---- rows where there are more tables

table_more : (tables more : List Table) (n : ℕ) (v : List Value) → fits_table tables n v ≡ true → fits_table (tables ++ more) n v ≡ true
table_more [] more n v h = cc
table_more (t ∷ tables) more zero v h = h
table_more (t ∷ tables) more (suc n) v h = table_more tables more n v h

rows_more : (tables more : List Table) (rows : List StoredRow) → rows_fit tables rows ≡ true → rows_fit (tables ++ more) rows ≡ true
rows_more tables more [] h = refl
rows_more tables more (r ∷ rows) h =
    let p : (row_fits tables r ≡ true) × (rows_fit tables rows ≡ true) = and_parts (row_fits tables r) (rows_fit tables rows) h in
    and_from (row_fits (tables ++ more) r) (rows_fit (tables ++ more) rows) (table_more tables more r.table r.values p.0) (rows_more tables more rows p.1)

-- ---- CREATE TABLE

-- the parts with another schema
abbrev pub defined : Parts → Schema → StoreState → ModeMap → Parts
defined h c t m = record { schema = c; limits = h.limits; store = t; initial = m; changed = h.changed; active = h.active; saves = h.saves }

pub created_kept : (h : Parts) (table : Table) (ks : List Constraint) (c : Schema) (t : StoreState) (m : ModeMap) → h.active ≡ false
    → c ≡ with_table h.schema table ks → t ≡ store_with_table h.store table ks → m ≡ initial_map c.constraints
    → SchemaSuits (with_table h.schema table ks) → Kept h → Kept (defined h c t m)
created_kept h table ks c t m a e f g suits k =
    let calm : IsCalm h = subst (λ b. StandsAs b h) a k.stands in
    let whole : IsCalm (defined h (with_table h.schema table ks) (store_with_table h.store table ks) m) =
    record { marks = calm.marks; saves = calm.saves; modes = calm.modes; count = calm.count } in
    rw (e, f) (record {
      store = record {
        tables = ap (λ (l : List Table). l ++ table ∷ []) k.store.tables;
        constraints = ap (λ (l : List Constraint). l ++ ks) k.store.constraints;
        suits = suits;
        rows = rows_more h.schema.tables (table ∷ []) h.store.base.rows k.store.rows;
      };
      initial = g ∙ ap (λ (x : Schema). initial_map x.constraints) e;
      stands = subst (λ b. StandsAs b (defined h (with_table h.schema table ks) (store_with_table h.store table ks) m)) (sym a) whole;
    })

-- ---- ALTER TABLE ADD

-- by the first row that violates the constraint
abbrev pub by_row : State → Constraint → Option ℕ → Outcome
by_row s k None = accept (with_schema s (with_constraint s.schema k)) Done
by_row s k (Some n) = refuse s (AddRefused n)

of_first : (s : State) (k : Constraint) (o : Option Fault)
    → refuse_first s (λ f. AddRefused f.row) o (accept (with_schema s (with_constraint s.schema k)) Done) ≡ by_row s k (option_map (λ (f : Fault). f.row) o)
of_first s k None = refl
of_first s k (Some f) = refl

pub add_is : (h : Parts) (k : Constraint) → Kept h → add_constraint_outcome (state_of h) k ≡ by_row (state_of h) k (first_violating_row h.store k)
add_is h k kept =
    of_first (state_of h) k (first (scan h.store.base.rows (with_constraint h.schema k).constraints (λ id. id == length h.schema.constraints)))
    ∙ ap (λ (l : List Constraint). by_row (state_of h) k (option_map (λ (f : Fault). f.row) (first (scan h.store.base.rows (l ++ k ∷ []) (λ id. id == length l))))) (sym kept.store.constraints)
    ∙ ap (by_row (state_of h) k) (added_violation h.store k)

pub added_state : (h : Parts) (k : Constraint) (c : Schema) (t : StoreState) (m : ModeMap) → h.active ≡ false → Kept h
    → c ≡ with_constraint h.schema k → t ≡ store_with_constraint h.store k → m ≡ initial_map c.constraints
    → state_of (defined h c t m) ≡ with_schema (state_of h) (with_constraint h.schema k)
added_state h k c t m a kept e f g =
    let calm : IsCalm h = subst (λ b. StandsAs b h) a kept.stands in
    let saves : savepoints_of m h.saves (later t.marks) ≡ savepoints_of h.initial h.saves (later h.store.marks) =
    ap (λ l. savepoints_of m l (later t.marks)) calm.saves ∙ sym (ap (λ l. savepoints_of h.initial l (later h.store.marks)) calm.saves) in
    let start : started h.active t ≡ started h.active h.store = ap (λ b. started b t) a ∙ sym (ap (λ b. started b h.store) a) in
    let modes : (current m h.changed).modes ≡ initial_modes (with_constraint h.schema k).constraints =
    ap (λ o. (current m o).modes) calm.modes ∙ ap (λ (x : ModeMap). x.modes) g ∙ ap (λ (x : Schema). initial_modes x.constraints) e in
    λ i. record { schema = e i; limits = h.limits; database = (f i).base; modes = modes i; start = start i; savepoints = saves i }

pub added_refused : (h : Parts) (k : Constraint) (f : AddFault) (x : Seen) → AnswersAdding {A = ModeMap} (first_violating_row h.store k) (Err f) → Kept h
    → x.state ≡ state_of h → x.work ≡ no_work → Performs (state_of h) (add_constraint_outcome (state_of h) k) (Err (adding_refusal f)) x
added_refused h k (fault.Row n) x a kept e w =
    refuse_performs (state_of h) (add_constraint_outcome (state_of h) k) (AddRefused n) (Err (adding_refusal (fault.Row n))) x
    (add_is h k kept ∙ ap (by_row (state_of h) k) a) refl refl e w
added_refused h k fault.NoMemory x a kept e w = (e, refl)

-- what is told by the first row that violates the constraint
abbrev told_by_row : List StoredRow → Constraint → Option ℕ → List Entry
told_by_row rows k None = []
told_by_row rows k (Some n) = not_added_told rows k n ∷ []

of_row : (s : State) (k : Constraint) (o : Option ℕ)
    → told_or (by_row s k o).answer (λ refusal. addition_refused_told s.database.rows k refusal.cause) (λ _. []) ≡ told_by_row s.database.rows k o
of_row s k None = refl
of_row s k (Some n) = refl

addition_is_told : (h : Parts) (k : Constraint) (o : Option ℕ) → Kept h → first_violating_row h.store k ≡ o → addition_told (state_of h) k ≡ told_by_row h.store.base.rows k o
addition_is_told h k o kept e =
    ap (λ (x : Outcome). told_or x.answer (λ refusal. addition_refused_told h.store.base.rows k refusal.cause) (λ _. [])) (add_is h k kept ∙ ap (by_row (state_of h) k) e)
    ∙ of_row (state_of h) k o

pub added_untold : (h : Parts) (k : Constraint) (old new : Account) → Kept h → first_violating_row h.store k ≡ None → new ≡ old
    → new ≡ and_told old (addition_told (state_of h) k)
added_untold h k old new kept none same = same ∙ nothing_told old (addition_told (state_of h) k) (addition_is_told h k None kept none)

pub refused_told : (h : Parts) (k : Constraint) (f : AddFault) (old new : Account) → Kept h → AnswersAdding {A = ModeMap} (first_violating_row h.store k) (Err f)
    → TellsAddition {A = ModeMap} h.store.base.rows k (Err f) old new → UnlessMemory {A = Answer} (Err (adding_refusal f)) (new ≡ and_told old (addition_told (state_of h) k))
refused_told h k (fault.Row n) old new kept a told = told ∙ ap (and_told old) (sym (addition_is_told h k (Some n) kept a))
refused_told h k fault.NoMemory old new kept a told = tt

-- ---- a statement by its plan

pub runs_of : (s : State) (st : Statement) (p : Plan) (r : Result Answer Refusal) (x : Seen) → Ok p ≡ resolution s.schema st → PerformsPlan s p r x
    → Runs s st (resolution_outcome s (resolution s.schema st)) r x
runs_of s st p r x e h =
    subst (λ (q : Result Plan Refusal). Runs s st (resolution_outcome s q) r x) e
    (subst (λ (b : Bool). MatchBool (is_memory r) ((x.state ≡ s) × IsMemoryRefusal b s.schema r) (Did (resolution_outcome s (Ok p)) r x))
    (sym (runs_as s p st (accepted s.schema st p (sym e)).is)) h)

pub executes_of : (s : State) (st : Statement) (r : Result Answer Refusal) (x : Seen) (new : State) → new ≡ x.state → Runs s st (step s st) r x → Executes s st r new
executes_of s st r x new e h = by (is_memory r) h where
  by : (b : Bool) → MatchBool b ((x.state ≡ s) × IsMemoryRefusal (changes_rows st) s.schema r) (Did (step s st) r x)
      → MatchBool b (MemoryRefused s st r new) ((r ≡ (step s st).answer) × (new ≡ (step s st).state))
  by true h = (e ∙ h.0, h.1)
  by false h = (h.0, e ∙ h.1)

pub worked_of : (s : State) (st : Statement) (r : Result Answer Refusal) (x : Seen) (w : Work) → w ≡ x.work → Runs s st (step s st) r x → MatchBool (is_memory r) (Unit {0}) (w ≡ (step s st).work)
worked_of s st r x w e h = by (is_memory r) h where
  by : (b : Bool) → MatchBool b ((x.state ≡ s) × IsMemoryRefusal (changes_rows st) s.schema r) (Did (step s st) r x) → MatchBool b (Unit {0}) (w ≡ (step s st).work)
  by true h = tt
  by false h = e ∙ h.2
