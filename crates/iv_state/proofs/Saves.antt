-- A list of savepoints with one more, and without those of a name.
use Rattle.std.proofs.Common.{◌≡◌, ℕ, suc, ◌+◌, ◌<◌, Bool, true, false, not, if◌then◌else◌, Some, None, Option, List, [], ◌∷◌, ◌++◌, length, arith, refl, ap, sym, subst, ◌∙◌, append-nil, length-append, slice_get, IfSome, is_some}
use Rattle.std.proofs.lemmas.Bool.{and_from, and_parts}
use Rattle.std.specs.Str.{bytes_eq}
use Rattle.iv_state.specs.Types.{Table, Constraint, Database}
use Rattle.iv_machine.specs.Machine.{Savepoint, without_name, state_with_savepoint}
use Rattle.iv_modes.specs.ModeMaps.{ModeMap}
use Rattle.iv_store.specs.Stores.{StoreState, marked_database, store_with_mark}
use Rattle.iv_state.specs.Saved.{Saved}
use Rattle.iv_laws_rows.specs.RowFits.{rows_fit}
use Rattle.iv_state.specs.Kept.{Parts, Kept, IsOpen, StandsAs, AllModes, AreModes, AreSaved, all_fit, current, later, savepoint_at, savepoints_of, started, state_of}
use Rattle.iv_state.specs.Saving.{saves_without, marks_without, IsWithout}

-- ---- lists

-- one savepoint more
pub saves_more : (initial : ModeMap) (ss : List Saved) (dbs : List Database) (s : Saved) (db : Database) → length ss ≡ length dbs
    → savepoints_of initial (ss ++ s ∷ []) (dbs ++ db ∷ []) ≡ savepoint_at initial s db ∷ savepoints_of initial ss dbs
saves_more initial [] [] s db e = refl
saves_more initial [] (d ∷ dbs) s db e = absurd (omega (arith, e))
saves_more initial (x ∷ ss) [] s db e = absurd (omega (arith, e))
saves_more initial (x ∷ ss) (d ∷ dbs) s db e =
    ap (λ (l : List Savepoint). l ++ savepoint_at initial x d ∷ []) (saves_more initial ss dbs s db (omega (arith, e)))

without_more : (name : List ℕ) (xs : List Savepoint) (x : Savepoint)
    → without_name name (xs ++ x ∷ []) ≡ without_name name xs ++ (if not (bytes_eq name x.name) then x ∷ [] else [])
without_more name [] x = refl
without_more name (y ∷ xs) x = by (bytes_eq name y.name) (without_more name xs x) where
  by : (b : Bool) → without_name name (xs ++ x ∷ []) ≡ without_name name xs ++ (if not (bytes_eq name x.name) then x ∷ [] else [])
      → (if not b then y ∷ without_name name (xs ++ x ∷ []) else without_name name (xs ++ x ∷ []))
      ≡ (if not b then y ∷ without_name name xs else without_name name xs) ++ (if not (bytes_eq name x.name) then x ∷ [] else [])
  by true h = h
  by false h = ap (λ (l : List Savepoint). y ∷ l) h

pub saves_others : (name : List ℕ) (initial : ModeMap) (ss : List Saved) (dbs : List Database) → length ss ≡ length dbs
    → savepoints_of initial (saves_without name ss) (marks_without name ss dbs) ≡ without_name name (savepoints_of initial ss dbs)
saves_others name initial [] dbs e = refl
saves_others name initial (s ∷ ss) [] e = absurd (omega (arith, e))
saves_others name initial (s ∷ ss) (db ∷ dbs) e =
    by (bytes_eq name s.name) (saves_others name initial ss dbs (omega (arith, e)))
    ∙ sym (without_more name (savepoints_of initial ss dbs) (savepoint_at initial s db)) where
      by : (b : Bool) → savepoints_of initial (saves_without name ss) (marks_without name ss dbs) ≡ without_name name (savepoints_of initial ss dbs)
          → savepoints_of initial (if not b then s ∷ saves_without name ss else saves_without name ss) (if b then marks_without name ss dbs else db ∷ marks_without name ss dbs)
          ≡ without_name name (savepoints_of initial ss dbs) ++ (if not b then savepoint_at initial s db ∷ [] else [])
      by true h = h ∙ sym (append-nil (without_name name (savepoints_of initial ss dbs)))
      by false h = ap (λ (l : List Savepoint). l ++ savepoint_at initial s db ∷ []) h

pub marks_more : (name : List ℕ) (ss : List Saved) (dbs : List Database) (db : Database) → length ss ≡ length dbs
    → marks_without name ss (dbs ++ db ∷ []) ≡ marks_without name ss dbs ++ db ∷ []
marks_more name [] dbs db e = refl
marks_more name (s ∷ ss) [] db e = absurd (omega (arith, e))
marks_more name (s ∷ ss) (d ∷ dbs) db e = by (bytes_eq name s.name) (marks_more name ss dbs db (omega (arith, e))) where
  by : (b : Bool) → marks_without name ss (dbs ++ db ∷ []) ≡ marks_without name ss dbs ++ db ∷ []
      → (if b then marks_without name ss (dbs ++ db ∷ []) else d ∷ marks_without name ss (dbs ++ db ∷ [])) ≡ (if b then marks_without name ss dbs else d ∷ marks_without name ss dbs) ++ db ∷ []
  by true h = h
  by false h = ap (λ (l : List Database). d ∷ l) h

pub without_lengths : (name : List ℕ) (ss : List Saved) (dbs : List Database) → length ss ≡ length dbs
    → length (saves_without name ss) ≡ length (marks_without name ss dbs)
without_lengths name [] dbs e = e
without_lengths name (s ∷ ss) [] e = absurd (omega (arith, e))
without_lengths name (s ∷ ss) (d ∷ dbs) e = by (bytes_eq name s.name) (without_lengths name ss dbs (omega (arith, e))) where
  by : (b : Bool) → length (saves_without name ss) ≡ length (marks_without name ss dbs)
      → length (if not b then s ∷ saves_without name ss else saves_without name ss) ≡ length (if b then marks_without name ss dbs else d ∷ marks_without name ss dbs)
  by true h = h
  by false h = ap suc h

-- ---- what holds of each

pub modes_more : (ks : List Constraint) (c : Bool) (ss : List Saved) (s : Saved) → AllModes ks c ss → IfSome s.modes (AreSaved ks c) → AllModes ks c (ss ++ s ∷ [])
modes_more ks c [] s h g = (g, tt)
modes_more ks c (x ∷ ss) s h g = (h.0, modes_more ks c ss s h.1 g)

pub modes_others : (ks : List Constraint) (c : Bool) (name : List ℕ) (ss : List Saved) → AllModes ks c ss → AllModes ks c (saves_without name ss)
modes_others ks c name [] h = h
modes_others ks c name (s ∷ ss) h = by (bytes_eq name s.name) (modes_others ks c name ss h.1) where
  by : (b : Bool) → AllModes ks c (saves_without name ss) → AllModes ks c (if not b then s ∷ saves_without name ss else saves_without name ss)
  by true g = g
  by false g = (h.0, g)

-- the modes of the session, as those of a savepoint
modes_own : (ks : List Constraint) (o : Option ModeMap) → IfSome o (AreModes ks) → IfSome o (AreSaved ks (is_some o))
modes_own ks None h = h
modes_own ks (Some m) h = (h, refl)

-- once those of the session are changed
modes_set : (ks : List Constraint) (c : Bool) (o : Option ModeMap) → IfSome o (AreSaved ks c) → IfSome o (AreSaved ks true)
modes_set ks c None h = h
modes_set ks c (Some m) h = (h.0, refl)

pub modes_changed : (ks : List Constraint) (c : Bool) (ss : List Saved) → AllModes ks c ss → AllModes ks true ss
modes_changed ks c [] h = h
modes_changed ks c (s ∷ ss) h = (modes_set ks c s.modes h.0, modes_changed ks c ss h.1)

pub fit_more : (tables : List Table) (dbs : List Database) (db : Database) → all_fit tables dbs ≡ true → rows_fit tables db.rows ≡ true → all_fit tables (dbs ++ db ∷ []) ≡ true
fit_more tables [] db h g = and_from (rows_fit tables db.rows) true g refl
fit_more tables (x ∷ dbs) db h g =
    let p : (rows_fit tables x.rows ≡ true) × (all_fit tables dbs ≡ true) = and_parts (rows_fit tables x.rows) (all_fit tables dbs) h in
    and_from (rows_fit tables x.rows) (all_fit tables (dbs ++ db ∷ [])) p.0 (fit_more tables dbs db p.1 g)

pub fit_others : (tables : List Table) (name : List ℕ) (ss : List Saved) (dbs : List Database) → all_fit tables dbs ≡ true → all_fit tables (marks_without name ss dbs) ≡ true
fit_others tables name [] dbs h = h
fit_others tables name (s ∷ ss) [] h = refl
fit_others tables name (s ∷ ss) (db ∷ dbs) h =
    let p : (rows_fit tables db.rows ≡ true) × (all_fit tables dbs ≡ true) = and_parts (rows_fit tables db.rows) (all_fit tables dbs) h in
    by (bytes_eq name s.name) p.0 (fit_others tables name ss dbs p.1) where
      by : (b : Bool) → rows_fit tables db.rows ≡ true → all_fit tables (marks_without name ss dbs) ≡ true
          → all_fit tables (if b then marks_without name ss dbs else db ∷ marks_without name ss dbs) ≡ true
      by true f g = g
      by false f g = and_from (rows_fit tables db.rows) (all_fit tables (marks_without name ss dbs)) f g

abbrev pub first_or : Database → List Database → Database
first_or base dbs = elim (slice_get dbs 0) [ Some db ↦ db | None ↦ base ]

pub fit_first : (tables : List Table) (base : Database) (dbs : List Database) → 0 < length dbs → all_fit tables dbs ≡ true
    → (rows_fit tables (first_or base dbs).rows ≡ true) × (all_fit tables (later dbs) ≡ true)
fit_first tables base [] w h = absurd (omega (arith, w))
fit_first tables base (db ∷ dbs) w h = and_parts (rows_fit tables db.rows) (all_fit tables dbs) h

pub fit_whole : (tables : List Table) (base : Database) (dbs : List Database) → 0 < length dbs → rows_fit tables (first_or base dbs).rows ≡ true
    → all_fit tables (later dbs) ≡ true → all_fit tables dbs ≡ true
fit_whole tables base [] w h g = absurd (omega (arith, w))
fit_whole tables base (db ∷ dbs) w h g = and_from (rows_fit tables db.rows) (all_fit tables dbs) h g

pub later_more : (dbs : List Database) (db : Database) → 0 < length dbs → later (dbs ++ db ∷ []) ≡ later dbs ++ db ∷ []
later_more [] db w = absurd (omega (arith, w))
later_more (d ∷ dbs) db w = refl

pub first_more : (base : Database) (dbs : List Database) (db : Database) → 0 < length dbs → first_or base (dbs ++ db ∷ []) ≡ first_or base dbs
first_more base [] db w = absurd (omega (arith, w))
first_more base (d ∷ dbs) db w = refl

pub later_length : (dbs : List Database) (n : ℕ) → length dbs ≡ n + 1 → length (later dbs) ≡ n
later_length [] n e = absurd (omega (arith, e))
later_length (d ∷ dbs) n e = omega (arith, e)

pub whole_length : (dbs : List Database) → 0 < length dbs → length dbs ≡ length (later dbs) + 1
whole_length [] w = absurd (omega (arith, w))
whole_length (d ∷ dbs) w = omega arith

-- a transaction is open
pub open_is : (b : Bool) (s : StoreState) → is_some (started b s) ≡ true → b ≡ true
open_is true s h = refl
open_is false s h = cc

-- ---- SAVEPOINT

-- the parts after SAVEPOINT
abbrev pub saved : Parts → StoreState → List Saved → Parts
saved h t saves = record {
  schema = h.schema;
  limits = h.limits;
  store = t;
  initial = h.initial;
  changed = h.changed;
  active = h.active;
  saves = saves;
}

-- the later marks after it
abbrev LaterMarks : Parts → List ℕ → StoreState → Type 0
LaterMarks h name t = later t.marks ≡ marks_without name h.saves (later h.store.marks) ++ h.store.base ∷ []

later_marks : (h : Parts) (name : List ℕ) (others : List Saved) (t : StoreState) → IsOpen h → IsWithout name h.saves (store_with_mark h.store) others t → LaterMarks h name t
later_marks h name others t o w =
    w.marks ∙ ap (marks_without name h.saves) (later_more h.store.marks h.store.base (omega (arith, o.marks)))
    ∙ marks_more name h.saves (later h.store.marks) h.store.base (sym (later_length h.store.marks (length h.saves) o.marks))

pub saved_state : (h : Parts) (name : List ℕ) (s : Saved) (others saves : List Saved) (t : StoreState) → h.active ≡ true → IsOpen h → s.name ≡ name → s.modes ≡ h.changed
    → IsWithout name h.saves (store_with_mark h.store) others t → saves ≡ others ++ s ∷ []
    → state_of (saved h t saves) ≡ state_with_savepoint (state_of h) name
saved_state h name s others saves t a o n m w e =
    let same : length h.saves ≡ length (later h.store.marks) = sym (later_length h.store.marks (length h.saves) o.marks) in
    let start : marked_database t 0 ≡ marked_database h.store 0 = w.first ∙ first_more h.store.base h.store.marks h.store.base (omega (arith, o.marks)) in
    let base : t.base ≡ h.store.base = ap (λ (x : StoreState). x.base) w.store in
    let saves_are : savepoints_of h.initial saves (later t.marks) ≡ (state_with_savepoint (state_of h) name).savepoints =
    ap (λ (l : List Saved). savepoints_of h.initial l (later t.marks)) (e ∙ ap (λ (l : List Saved). l ++ s ∷ []) w.kept)
    ∙ ap (savepoints_of h.initial (saves_without name h.saves ++ s ∷ [])) (later_marks h name others t o w)
    ∙ saves_more h.initial (saves_without name h.saves) (marks_without name h.saves (later h.store.marks)) s h.store.base (without_lengths name h.saves (later h.store.marks) same)
    ∙ ap (λ (l : List Savepoint). savepoint_at h.initial s h.store.base ∷ l) (saves_others name h.initial h.saves (later h.store.marks) same)
    ∙ (λ i. record { name = n i; database = h.store.base; modes = (current h.initial (m i)).modes } ∷ without_name name (savepoints_of h.initial h.saves (later h.store.marks))) in
    λ i. record {
      schema = h.schema;
      limits = h.limits;
      database = base i;
      modes = (current h.initial h.changed).modes;
      start = (ap (λ (b : Bool). started b t) a ∙ ap (λ (d : Database). Some d) start ∙ ap (λ (b : Bool). started b h.store) (sym a)) i;
      savepoints = saves_are i;
    }

pub saved_kept : (h : Parts) (name : List ℕ) (s : Saved) (others saves : List Saved) (t : StoreState) → h.active ≡ true → IsOpen h → s.modes ≡ h.changed
    → IsWithout name h.saves (store_with_mark h.store) others t → saves ≡ others ++ s ∷ [] → Kept h → Kept (saved h t saves)
saved_kept h name s others saves t a o m w e k =
    let same : length h.saves ≡ length (later h.store.marks) = sym (later_length h.store.marks (length h.saves) o.marks) in
    let lengths : length (saves_without name h.saves) ≡ length (marks_without name h.saves (later h.store.marks)) = without_lengths name h.saves (later h.store.marks) same in
    let start : marked_database t 0 ≡ marked_database h.store 0 = w.first ∙ first_more h.store.base h.store.marks h.store.base (omega (arith, o.marks)) in
    let some : 0 < length t.marks = omega (arith, w.room) in
    let first : (rows_fit h.schema.tables (marked_database h.store 0).rows ≡ true) × (all_fit h.schema.tables (later h.store.marks) ≡ true) =
    fit_first h.schema.tables h.store.base h.store.marks (omega (arith, o.marks)) o.fit in
    let fit : all_fit h.schema.tables (later t.marks) ≡ true =
    ap (all_fit h.schema.tables) (later_marks h name others t o w)
    ∙ fit_more h.schema.tables (marks_without name h.saves (later h.store.marks)) h.store.base (fit_others h.schema.tables name h.saves (later h.store.marks) first.1) k.store.rows in
    let whole : IsOpen (saved h t saves) = record {
      marks = whole_length t.marks some ∙ ap (λ (n : ℕ). n + 1)
          (ap (λ (l : List Database). length l) (later_marks h name others t o w)
          ∙ length-append (marks_without name h.saves (later h.store.marks)) (h.store.base ∷ [])
          ∙ ap (λ (n : ℕ). n + 1) (sym lengths)
          ∙ sym (length-append (saves_without name h.saves) (s ∷ []))
          ∙ sym (ap (λ (l : List Saved). length l) (e ∙ ap (λ (l : List Saved). l ++ s ∷ []) w.kept)));
      modes = o.modes;
      saved = rw (e, w.kept) (modes_more h.schema.constraints (is_some h.changed) (saves_without name h.saves) s (modes_others h.schema.constraints (is_some h.changed) name h.saves o.saved)
          (subst (λ x. IfSome x (AreSaved h.schema.constraints (is_some h.changed))) (sym m) (modes_own h.schema.constraints h.changed o.modes)));
      fit = fit_whole h.schema.tables t.base t.marks some (ap (λ (d : Database). rows_fit h.schema.tables d.rows) start ∙ first.0) fit;
    } in
    record {
      store = record {
        tables = ap (λ (x : StoreState). x.tables) w.store ∙ k.store.tables;
        constraints = ap (λ (x : StoreState). x.constraints) w.store ∙ k.store.constraints;
        suits = k.store.suits;
        rows = ap (λ (x : StoreState). rows_fit h.schema.tables x.base.rows) w.store ∙ k.store.rows;
      };
      initial = k.initial;
      stands = subst (λ b. StandsAs b (saved h t saves)) (sym a) whole;
    }
