-- What a session is seen as, and what holds of its parts.
use Rattle.std.specs.Prelude.{◌≡◌, ℕ, ◌+◌, Bool, true, false, List, [], ◌∷◌, ◌++◌, map, length, Option, Some, None, is_some, IfSome}
use Rattle.std.specs.List.{list_all}
use Rattle.iv_catalogue.specs.Catalogues.{Schema}
use Rattle.iv_account.specs.Telling.{Account, no_account}
use Rattle.iv_state.specs.Types.{Table, Constraint, Database}
use Rattle.iv_machine.specs.Bounds.{Bounds}
use Rattle.iv_machine.specs.Machine.{Savepoint, State, Work}
use Rattle.iv_modes.specs.ModeMaps.{ModeMap, initial_map}
use Rattle.iv_store.specs.Stores.{StoreState, marked_database}
use Rattle.iv_state.specs.Saved.{Saved}
use Rattle.iv_state.specs.declared.session_state.SessionState.TheInside.{Inside}
use Rattle.iv_laws_rows.specs.Changing.{StoreFits}
use Rattle.iv_laws_rows.specs.RowFits.{rows_fit}

-- A session: the state of the machine; the row changes that the last call made and undid, and the keys that it looked up; the keys that
-- were looked up so far; and the account of the last statement, if one is asked for. The state of a session by itself has none.
pub record Seen : Type 0 where
  pub state : State
  pub work : Work
  pub lookups : ℕ
  pub looked_up : ℕ
  pub account : Account

-- ---- the parts

-- The parts of a session that its state is made of. The savepoints are those of the open transaction, the oldest first.
pub record Parts : Type 0 where
  pub schema : Schema
  pub limits : Bounds
  pub store : StoreState
  pub initial : ModeMap
  pub changed : Option ModeMap
  pub active : Bool
  pub saves : List Saved

-- the modes if SET CONSTRAINTS changed them, or the initial ones
abbrev pub current : ModeMap → Option ModeMap → ModeMap
current initial None = initial
current initial (Some modes) = modes

-- the modes that were changed, if there are any, are set to others
abbrev pub brought_back : Option ModeMap → ModeMap → Option ModeMap
brought_back None others = None
brought_back (Some modes) others = Some others

-- the transaction began at the first mark
abbrev pub started : Bool → StoreState → Option Database
started true s = Some (marked_database s 0)
started false s = None

-- the marks of the savepoints are those after the first
abbrev pub later : List Database → List Database
later [] = []
later (db ∷ dbs) = dbs

abbrev pub savepoint_at : ModeMap → Saved → Database → Savepoint
savepoint_at initial s db = record { name = s.name; database = db; modes = (current initial s.modes).modes }

-- each savepoint with the database of its mark, the newest first
abbrev pub savepoints_of : ModeMap → List Saved → List Database → List Savepoint
savepoints_of initial [] dbs = []
savepoints_of initial (s ∷ saves) [] = []
savepoints_of initial (s ∷ saves) (db ∷ dbs) = savepoints_of initial saves dbs ++ savepoint_at initial s db ∷ []

abbrev pub state_of : Parts → State
state_of h = record {
  schema = h.schema;
  limits = h.limits;
  database = h.store.base;
  modes = (current h.initial h.changed).modes;
  start = started h.active h.store;
  savepoints = savepoints_of h.initial h.saves (later h.store.marks);
}

-- the parts of a session, by what its store is seen as
abbrev pub parts : {K : Type 0} → (K → StoreState) → Inside K → Parts
parts view s = record {
  schema = s.catalogue;
  limits = s.limits;
  store = view s.store;
  initial = s.initial;
  changed = s.changed;
  active = s.active;
  saves = s.saves.saves;
}

-- what a session is seen as, by what its store is seen as and the keys that were looked up in it
abbrev pub seen : {K : Type 0} → (K → StoreState) → (K → ℕ) → Inside K → Seen
seen view lookups s = record {
  state = state_of (parts view s);
  work = record { changes = s.work.changes; undone = s.work.undone };
  lookups = s.work.lookups;
  looked_up = lookups s.store;
  account = no_account false;
}

-- a session with this account
abbrev pub with_account : Seen → Account → Seen
with_account s account = record s { account = account }

-- ---- what holds of them

-- the rows of each marked database fit the tables
abbrev pub all_fit : List Table → List Database → Bool
all_fit tables dbs = list_all (λ db. rows_fit tables db.rows) dbs

-- of each constraint it says whether its mode may be set
abbrev pub AreModes : List Constraint → ModeMap → Type 0
AreModes constraints m = m.deferrable ≡ map (λ c. c.deferrable) constraints

-- the modes that a savepoint has are there only if those of the session were changed too
abbrev pub AreSaved : List Constraint → Bool → ModeMap → Type 0
AreSaved constraints changed m = AreModes constraints m × (changed ≡ true)

abbrev pub AllModes : List Constraint → Bool → List Saved → Type 0
AllModes constraints changed [] = Unit {0}
AllModes constraints changed (s ∷ saves) = IfSome s.modes (AreSaved constraints changed) × AllModes constraints changed saves

-- Outside a transaction there is no mark and no savepoint, modes are initial, and no change is counted.
pub record IsCalm (h : Parts) : Type 0 where
  pub marks : h.store.marks ≡ []
  pub saves : h.saves ≡ []
  pub modes : h.changed ≡ None
  pub count : h.store.base.count ≡ 0

-- Inside one there is a mark for its start and one for each savepoint.
pub record IsOpen (h : Parts) : Type 0 where
  pub marks : length h.store.marks ≡ length h.saves + 1
  pub modes : IfSome h.changed (AreModes h.schema.constraints)
  pub saved : AllModes h.schema.constraints (is_some h.changed) h.saves
  pub fit : all_fit h.schema.tables h.store.marks ≡ true

abbrev pub StandsAs : Bool → Parts → Type 0
StandsAs true h = IsOpen h
StandsAs false h = IsCalm h

-- What holds of every session.
pub record Kept (h : Parts) : Type 0 where
  pub store : StoreFits h.schema h.store
  pub initial : h.initial ≡ initial_map h.schema.constraints
  pub stands : StandsAs h.active h
