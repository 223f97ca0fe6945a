-- RELEASE and ROLLBACK TO: the newest savepoint of a name, and those before it.
use Rattle.std.proofs.Common.{◌≡◌, ℕ, zero, suc, ◌+◌, ◌<◌, Bool, true, false, if◌then◌else◌, Option, Some, None, List, [], ◌∷◌, ◌++◌, length, take, get_or, arith, refl, ap, sym, subst, ◌∙◌, slice_get, is_some, IfSome}
use Rattle.std.specs.Str.{bytes_eq}
use Rattle.std.proofs.lemmas.Bool.{true≢false, and_from, and_parts}
use Rattle.std.proofs.lemmas.List.{take_more, length-take-le}
use Rattle.iv_state.specs.Types.{Table, Constraint, Database}
use Rattle.iv_machine.specs.Machine.{Savepoint, NamedSavepoint, State, savepoint_named}
use Rattle.iv_modes.specs.ModeMaps.{ModeMap}
use Rattle.iv_store.specs.Stores.{StoreState, marked_database, store_at_mark}
use Rattle.iv_state.specs.Saved.{Saved}
use Rattle.iv_laws_rows.specs.RowFits.{rows_fit}
use Rattle.iv_state.specs.Kept.{Parts, Kept, IsOpen, StandsAs, AllModes, AreModes, AreSaved, all_fit, brought_back, current, later, savepoint_at, savepoints_of, started, state_of}
use Rattle.iv_state.specs.Saving.{last_named, with_marks}
use Rattle.iv_state.proofs.Saves.{saves_more, first_or, later_length}
use Rattle.iv_state.proofs.TakenOut.{last_in, last_named_is, none_first, At, here, there, at_of}

-- ---- the newest of a name

-- by what is found among the newer ones
abbrev named_with : List ℕ → Savepoint → Option NamedSavepoint → Option NamedSavepoint
named_with name x (Some y) = Some (record { savepoint = y.savepoint; older = y.older ++ x ∷ [] })
named_with name x None = if bytes_eq name x.name then Some (record { savepoint = x; older = [] }) else None

named_more : (name : List ℕ) (xs : List Savepoint) (x : Savepoint) → savepoint_named name (xs ++ x ∷ []) ≡ named_with name x (savepoint_named name xs)
named_more name [] x = refl
named_more name (y ∷ xs) x = by (bytes_eq name y.name) (named_more name xs x) where
  by : (b : Bool) → savepoint_named name (xs ++ x ∷ []) ≡ named_with name x (savepoint_named name xs)
      → (if b then Some (record { savepoint = y; older = xs ++ x ∷ [] }) else savepoint_named name (xs ++ x ∷ []))
      ≡ named_with name x (if b then Some (record { savepoint = y; older = xs }) else savepoint_named name xs)
  by true h = refl
  by false h = h

named_none : (name : List ℕ) (initial : ModeMap) (ss : List Saved) (dbs : List Database) → last_in name ss ≡ None
    → savepoint_named name (savepoints_of initial ss dbs) ≡ None
named_none name initial [] dbs h = refl
named_none name initial (s ∷ ss) [] h = refl
named_none name initial (s ∷ ss) (db ∷ dbs) h =
    let f : (bytes_eq name s.name ≡ false) × (last_in name ss ≡ None) = none_first (last_in name ss) (bytes_eq name s.name) h in
    named_more name (savepoints_of initial ss dbs) (savepoint_at initial s db)
    ∙ ap (named_with name (savepoint_at initial s db)) (named_none name initial ss dbs f.1)
    ∙ ap (λ (b : Bool). if b then Some (record { savepoint = savepoint_at initial s db; older = [] }) else None) f.0

-- the savepoint of this place, and those before it
abbrev pub named_at : ModeMap → List Saved → List Database → ℕ → Saved → Database → NamedSavepoint
named_at initial ss dbs p s db = record { savepoint = savepoint_at initial (get_or ss p s) (get_or dbs p db); older = savepoints_of initial (take p ss) (take p dbs) }

abbrev some_named : NamedSavepoint → Option NamedSavepoint
some_named x = Some x

named_some : (name : List ℕ) (initial : ModeMap) (ss : List Saved) (dbs : List Database) (p : ℕ) (s : Saved) (db : Database) → length ss ≡ length dbs → last_in name ss ≡ Some p
    → savepoint_named name (savepoints_of initial ss dbs) ≡ some_named (named_at initial ss dbs p s db)
named_some name initial [] dbs p s db e h = cc
named_some name initial (x ∷ ss) [] p s db e h = absurd (omega (arith, e))
named_some name initial (x ∷ ss) (d ∷ dbs) p s db e h =
    named_more name (savepoints_of initial ss dbs) (savepoint_at initial x d)
    ∙ by (at_of (last_in name ss) (bytes_eq name x.name) p h) (λ n. named_some name initial ss dbs n s db (omega (arith, e))) where
      by : At (last_in name ss) (bytes_eq name x.name) p
          → ((n : ℕ) → last_in name ss ≡ Some n → savepoint_named name (savepoints_of initial ss dbs) ≡ some_named (named_at initial ss dbs n s db))
          → named_with name (savepoint_at initial x d) (savepoint_named name (savepoints_of initial ss dbs)) ≡ some_named (named_at initial (x ∷ ss) (d ∷ dbs) p s db)
      by (here b o z) more =
          subst (λ (q : ℕ). named_with name (savepoint_at initial x d) (savepoint_named name (savepoints_of initial ss dbs)) ≡ some_named (named_at initial (x ∷ ss) (d ∷ dbs) q s db)) z
          (ap (named_with name (savepoint_at initial x d)) (named_none name initial ss dbs o)
          ∙ ap (λ (c : Bool). if c then some_named (record { savepoint = savepoint_at initial x d; older = [] }) else None) b)
      by (there n o z) more =
          subst (λ (q : ℕ). named_with name (savepoint_at initial x d) (savepoint_named name (savepoints_of initial ss dbs)) ≡ some_named (named_at initial (x ∷ ss) (d ∷ dbs) q s db)) z
          (ap (named_with name (savepoint_at initial x d)) (more n o))

-- of a session with an open transaction
pub found : (h : Parts) (name : List ℕ) (p : ℕ) (s : Saved) (db : Database) → IsOpen h → last_named name h.saves ≡ Some p
    → savepoint_named name (state_of h).savepoints ≡ some_named (named_at h.initial h.saves (later h.store.marks) p s db)
found h name p s db o l =
    named_some name h.initial h.saves (later h.store.marks) p s db (sym (later_length h.store.marks (length h.saves) o.marks)) (sym (last_named_is name h.saves) ∙ l)

pub not_found : (h : Parts) (name : List ℕ) → last_named name h.saves ≡ None → savepoint_named name (state_of h).savepoints ≡ None
not_found h name l = named_none name h.initial h.saves (later h.store.marks) (sym (last_named_is name h.saves) ∙ l)

-- ---- the first marks and savepoints

take_none : (p : ℕ) → take {A = Database} p [] ≡ []
take_none zero = refl
take_none (suc p) = refl

later_take : (dbs : List Database) (p : ℕ) → later (take (p + 1) dbs) ≡ take p (later dbs)
later_take dbs p = let one : suc p ≡ p + 1 = omega arith in subst (λ (q : ℕ). later (take q dbs) ≡ take p (later dbs)) one (by dbs p) where
  by : (dbs : List Database) (p : ℕ) → later (take (suc p) dbs) ≡ take p (later dbs)
  by [] p = sym (take_none p)
  by (d ∷ dbs) p = refl

first_take : (base : Database) (dbs : List Database) (p : ℕ) → first_or base (take (p + 1) dbs) ≡ first_or base dbs
first_take base dbs p = let one : suc p ≡ p + 1 = omega arith in subst (λ (q : ℕ). first_or base (take q dbs) ≡ first_or base dbs) one (by dbs) where
  by : (dbs : List Database) → first_or base (take (suc p) dbs) ≡ first_or base dbs
  by [] = refl
  by (d ∷ dbs) = refl

-- with another base, if there is a mark
first_base : (base other : Database) (dbs : List Database) → 0 < length dbs → first_or base dbs ≡ first_or other dbs
first_base base other [] w = absurd (omega (arith, w))
first_base base other (d ∷ dbs) w = refl

modes_take : (ks : List Constraint) (c : Bool) (ss : List Saved) (p : ℕ) → AllModes ks c ss → AllModes ks c (take p ss)
modes_take ks c [] zero h = h
modes_take ks c [] (suc p) h = h
modes_take ks c (s ∷ ss) zero h = tt
modes_take ks c (s ∷ ss) (suc p) h = (h.0, modes_take ks c ss p h.1)

modes_at : (ks : List Constraint) (c : Bool) (ss : List Saved) (p : ℕ) (s : Saved) → p < length ss → AllModes ks c ss → IfSome (get_or ss p s).modes (AreSaved ks c)
modes_at ks c [] p s w h = absurd (omega (arith, w))
modes_at ks c (x ∷ ss) zero s w h = h.0
modes_at ks c (x ∷ ss) (suc p) s w h = modes_at ks c ss p s (omega (arith, w)) h.1

fit_take : (tables : List Table) (dbs : List Database) (p : ℕ) → all_fit tables dbs ≡ true → all_fit tables (take p dbs) ≡ true
fit_take tables [] zero h = h
fit_take tables [] (suc p) h = h
fit_take tables (d ∷ dbs) zero h = refl
fit_take tables (d ∷ dbs) (suc p) h =
    let f : (rows_fit tables d.rows ≡ true) × (all_fit tables dbs ≡ true) = and_parts (rows_fit tables d.rows) (all_fit tables dbs) h in
    and_from (rows_fit tables d.rows) (all_fit tables (take p dbs)) f.0 (fit_take tables dbs p f.1)

abbrev at_or : Database → Option Database → Database
at_or base o = elim o [ Some db ↦ db | None ↦ base ]

fit_at : (tables : List Table) (dbs : List Database) (p : ℕ) (base : Database) → all_fit tables dbs ≡ true → rows_fit tables base.rows ≡ true
    → rows_fit tables (at_or base (slice_get dbs p)).rows ≡ true
fit_at tables [] p base h g = g
fit_at tables (d ∷ dbs) zero base h g = (and_parts (rows_fit tables d.rows) (all_fit tables dbs) h).0
fit_at tables (d ∷ dbs) (suc p) base h g = fit_at tables dbs p base (and_parts (rows_fit tables d.rows) (all_fit tables dbs) h).1 g

among : (dbs : List Database) (p : ℕ) (base db : Database) → p < length dbs → at_or base (slice_get dbs p) ≡ get_or dbs p db
among [] p base db w = absurd (omega (arith, w))
among (d ∷ dbs) zero base db w = refl
among (d ∷ dbs) (suc p) base db w = among dbs p base db (omega (arith, w))

marked_after : (dbs : List Database) (p : ℕ) (base db : Database) → p < length (later dbs) → at_or base (slice_get dbs (suc p)) ≡ get_or (later dbs) p db
marked_after [] p base db w = absurd (omega (arith, w))
marked_after (d ∷ dbs) p base db w = among dbs p base db w

marked_at : (dbs : List Database) (p : ℕ) (base db : Database) → p < length (later dbs) → at_or base (slice_get dbs (p + 1)) ≡ get_or (later dbs) p db
marked_at dbs p base db w =
    let one : suc p ≡ p + 1 = omega arith in
    subst (λ (q : ℕ). at_or base (slice_get dbs q) ≡ get_or (later dbs) p db) one (marked_after dbs p base db w)

-- ---- RELEASE SAVEPOINT

-- the parts after it
abbrev pub released : Parts → StoreState → List Saved → Parts
released h t saves = record {
  schema = h.schema;
  limits = h.limits;
  store = t;
  initial = h.initial;
  changed = h.changed;
  active = h.active;
  saves = saves;
}

pub released_state : (h : Parts) (p : ℕ) (s : Saved) (db : Database) (saves : List Saved) (t : StoreState)
    → saves ≡ take p h.saves → t ≡ with_marks h.store (take (p + 1) h.store.marks)
    → state_of (released h t saves) ≡ record (state_of h) { savepoints = (named_at h.initial h.saves (later h.store.marks) p s db).older }
released_state h p s db saves t e f =
    let same : savepoints_of h.initial saves (later t.marks) ≡ savepoints_of h.initial (take p h.saves) (take p (later h.store.marks)) =
    ap (λ (l : List Saved). savepoints_of h.initial l (later t.marks)) e
    ∙ ap (λ (x : StoreState). savepoints_of h.initial (take p h.saves) (later x.marks)) f
    ∙ ap (savepoints_of h.initial (take p h.saves)) (later_take h.store.marks p) in
    let start : marked_database t 0 ≡ marked_database h.store 0 = ap (λ (x : StoreState). marked_database x 0) f ∙ first_take h.store.base h.store.marks p in
    let begins : (b : Bool) → started b t ≡ started b h.store = elim [ true ↦ ap (λ (d : Database). Some d) start | false ↦ refl ] in
    λ i. record {
      schema = h.schema;
      limits = h.limits;
      database = (f i).base;
      modes = (current h.initial h.changed).modes;
      start = begins h.active i;
      savepoints = same i;
    }

pub released_kept : (h : Parts) (p : ℕ) (saves : List Saved) (t : StoreState) → h.active ≡ true → IsOpen h → p < length h.saves
    → saves ≡ take p h.saves → t ≡ with_marks h.store (take (p + 1) h.store.marks) → Kept h → Kept (released h t saves)
released_kept h p saves t a o w e f k =
    let marks : length (take (p + 1) h.store.marks) ≡ p + 1 = length-take-le (p + 1) h.store.marks (omega (arith, o.marks, w)) in
    let short : length (take p h.saves) ≡ p = length-take-le p h.saves (omega (arith, w)) in
    let whole : IsOpen (released h (with_marks h.store (take (p + 1) h.store.marks)) (take p h.saves)) = record {
      marks = marks ∙ ap (λ (n : ℕ). n + 1) (sym short);
      modes = o.modes;
      saved = modes_take h.schema.constraints (is_some h.changed) h.saves p o.saved;
      fit = fit_take h.schema.tables h.store.marks (p + 1) o.fit;
    } in
    rw (e, f) (record {
      store = record { tables = k.store.tables; constraints = k.store.constraints; suits = k.store.suits; rows = k.store.rows };
      initial = k.initial;
      stands = subst (λ b. StandsAs b (released h (with_marks h.store (take (p + 1) h.store.marks)) (take p h.saves))) (sym a) whole;
    })

-- ---- ROLLBACK TO SAVEPOINT

-- the modes brought back are those of the savepoint, or the initial ones
brought_is : (ks : List Constraint) (initial : ModeMap) (changed modes : Option ModeMap) → IfSome modes (AreSaved ks (is_some changed))
    → current initial (brought_back changed (current initial modes)) ≡ current initial modes
brought_is ks initial (Some m) modes h = refl
brought_is ks initial None None h = refl
brought_is ks initial None (Some m) h = absurd (true≢false (sym h.1))

current_modes : (ks : List Constraint) (initial : ModeMap) (c : Bool) (modes : Option ModeMap) → AreModes ks initial → IfSome modes (AreSaved ks c) → AreModes ks (current initial modes)
current_modes ks initial c None i h = i
current_modes ks initial c (Some m) i h = h.0

brought_modes : (ks : List Constraint) (changed : Option ModeMap) (m : ModeMap) → AreModes ks m → IfSome (brought_back changed m) (AreModes ks)
brought_modes ks None m h = tt
brought_modes ks (Some x) m h = h

brought_some : (changed : Option ModeMap) (m : ModeMap) → is_some changed ≡ is_some (brought_back changed m)
brought_some None m = refl
brought_some (Some x) m = refl

both_modes : (ks : List Constraint) (changed : Option ModeMap) (m : ModeMap) → IfSome changed (AreModes ks) → AreModes ks m → IfSome changed (λ x. x.deferrable ≡ m.deferrable)
both_modes ks None m h g = h
both_modes ks (Some x) m h g = h ∙ sym g

-- the modes of a savepoint, or the initial ones
abbrev pub modes_back : Parts → Saved → ModeMap
modes_back h x = current h.initial x.modes

back_modes : (h : Parts) (p : ℕ) (s : Saved) → IsOpen h → p < length h.saves → Kept h → AreModes h.schema.constraints (modes_back h (get_or h.saves p s))
back_modes h p s o w k =
    current_modes h.schema.constraints h.initial (is_some h.changed) (get_or h.saves p s).modes (ap (λ (x : ModeMap). x.deferrable) k.initial)
    (modes_at h.schema.constraints (is_some h.changed) h.saves p s w o.saved)

-- they are modes of the same constraints as those of the session
pub same_modes : (h : Parts) (p : ℕ) (s x : Saved) → IsOpen h → p < length h.saves → Kept h → x ≡ get_or h.saves p s
    → IfSome h.changed (λ m. m.deferrable ≡ (modes_back h x).deferrable)
same_modes h p s x o w k e =
    subst (λ (y : Saved). IfSome h.changed (λ m. m.deferrable ≡ (modes_back h y).deferrable)) (sym e)
    (both_modes h.schema.constraints h.changed (modes_back h (get_or h.saves p s)) o.modes (back_modes h p s o w k))

-- the parts after it
abbrev pub backed : Parts → StoreState → List Saved → Option ModeMap → Parts
backed h t saves changed = record {
  schema = h.schema;
  limits = h.limits;
  store = t;
  initial = h.initial;
  changed = changed;
  active = h.active;
  saves = saves;
}

-- the state after it
abbrev pub back_at : State → NamedSavepoint → State
back_at s x = record s { database = x.savepoint.database; modes = x.savepoint.modes; savepoints = x.savepoint ∷ x.older }

pub backed_base : (h : Parts) (p : ℕ) (db : Database) (t : StoreState) → IsOpen h → p < length h.saves → t ≡ store_at_mark h.store (p + 1)
    → t.base ≡ get_or (later h.store.marks) p db
backed_base h p db t o w f =
    ap (λ (x : StoreState). x.base) f
    ∙ marked_at h.store.marks p h.store.base db (omega (arith, w, later_length h.store.marks (length h.saves) o.marks))

pub backed_state : (h : Parts) (p : ℕ) (s : Saved) (db : Database) (saves : List Saved) (t : StoreState) (changed : Option ModeMap) → IsOpen h → p < length h.saves
    → saves ≡ take (p + 1) h.saves → t ≡ store_at_mark h.store (p + 1) → changed ≡ brought_back h.changed (modes_back h (get_or h.saves p s))
    → state_of (backed h t saves changed) ≡ back_at (state_of h) (named_at h.initial h.saves (later h.store.marks) p s db)
backed_state h p s db saves t changed o w e f m =
    let len : length (later h.store.marks) ≡ length h.saves = later_length h.store.marks (length h.saves) o.marks in
    let less : p < length (later h.store.marks) = omega (arith, w, len) in
    let short : length (take p h.saves) ≡ length (take p (later h.store.marks)) =
    length-take-le p h.saves (omega (arith, w)) ∙ sym (length-take-le p (later h.store.marks) (omega (arith, less))) in
    let same : savepoints_of h.initial saves (later t.marks)
    ≡ savepoint_at h.initial (get_or h.saves p s) (get_or (later h.store.marks) p db) ∷ savepoints_of h.initial (take p h.saves) (take p (later h.store.marks)) =
    ap (λ (l : List Saved). savepoints_of h.initial l (later t.marks)) (e ∙ take_more h.saves p s w)
    ∙ ap (λ (x : StoreState). savepoints_of h.initial (take p h.saves ++ get_or h.saves p s ∷ []) (later x.marks)) f
    ∙ ap (savepoints_of h.initial (take p h.saves ++ get_or h.saves p s ∷ [])) (later_take h.store.marks (p + 1) ∙ take_more (later h.store.marks) p db less)
    ∙ saves_more h.initial (take p h.saves) (take p (later h.store.marks)) (get_or h.saves p s) (get_or (later h.store.marks) p db) short in
    let some : 0 < length h.store.marks = omega (arith, o.marks) in
    let start : marked_database t 0 ≡ marked_database h.store 0 =
    ap (λ (x : StoreState). marked_database x 0) f
    ∙ first_take (marked_database h.store (p + 1)) h.store.marks (p + 1)
    ∙ first_base (marked_database h.store (p + 1)) h.store.base h.store.marks some in
    let begins : (b : Bool) → started b t ≡ started b h.store = elim [ true ↦ ap (λ (d : Database). Some d) start | false ↦ refl ] in
    let base : t.base ≡ get_or (later h.store.marks) p db = backed_base h p db t o w f in
    let modes : current h.initial changed ≡ modes_back h (get_or h.saves p s) =
    ap (current h.initial) m
    ∙ brought_is h.schema.constraints h.initial h.changed (get_or h.saves p s).modes (modes_at h.schema.constraints (is_some h.changed) h.saves p s w o.saved) in
    λ i. record {
      schema = h.schema;
      limits = h.limits;
      database = base i;
      modes = (modes i).modes;
      start = begins h.active i;
      savepoints = same i;
    }

pub backed_kept : (h : Parts) (p : ℕ) (s : Saved) (saves : List Saved) (t : StoreState) (changed : Option ModeMap) → h.active ≡ true → IsOpen h → p < length h.saves
    → saves ≡ take (p + 1) h.saves → t ≡ store_at_mark h.store (p + 1) → changed ≡ brought_back h.changed (modes_back h (get_or h.saves p s)) → Kept h → Kept (backed h t saves changed)
backed_kept h p s saves t changed a o w e f m k =
    let marks : length (take (p + 1 + 1) h.store.marks) ≡ p + 1 + 1 = length-take-le (p + 1 + 1) h.store.marks (omega (arith, o.marks, w)) in
    let short : length (take (p + 1) h.saves) ≡ p + 1 = length-take-le (p + 1) h.saves (omega (arith, w)) in
    let others : ModeMap = modes_back h (get_or h.saves p s) in
    let whole : IsOpen (backed h (store_at_mark h.store (p + 1)) (take (p + 1) h.saves) (brought_back h.changed others)) = record {
      marks = marks ∙ ap (λ (n : ℕ). n + 1) (sym short);
      modes = brought_modes h.schema.constraints h.changed others (back_modes h p s o w k);
      saved = subst (λ (c : Bool). AllModes h.schema.constraints c (take (p + 1) h.saves)) (brought_some h.changed others)
          (modes_take h.schema.constraints (is_some h.changed) h.saves (p + 1) o.saved);
      fit = fit_take h.schema.tables h.store.marks (p + 1 + 1) o.fit;
    } in
    rw (e, f, m) (record {
      store = record {
        tables = k.store.tables;
        constraints = k.store.constraints;
        suits = k.store.suits;
        rows = fit_at h.schema.tables h.store.marks (p + 1) h.store.base o.fit k.store.rows;
      };
      initial = k.initial;
      stands = subst (λ b. StandsAs b (backed h (store_at_mark h.store (p + 1)) (take (p + 1) h.saves) (brought_back h.changed others))) (sym a) whole;
    })
