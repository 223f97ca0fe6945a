-- What is true of every state that statements reach.
use Rattle.std.specs.Prelude.{◌≡◌, ◌↔◌, List, [], ◌∷◌, None}
use Rattle.iv_catalogue.specs.Catalogues.{Schema, TriggersNumbered}
use Rattle.iv_machine.specs.Types.which.{Immediate, Deferred, All}
use Rattle.iv_machine.specs.Databases.{scan, is_chosen, initial_modes}
use Rattle.iv_machine.specs.Machine.{State, Savepoint}
use Rattle.iv_machine.specs.Invariants.{Rising}

-- Outside a transaction no constraint is violated, modes are initial, there is no savepoint, and no row change is counted.
pub record IsQuiet (s : State) : Type 0 where
  pub unviolated : scan s.database.rows s.schema.constraints (is_chosen s.modes All) ≡ []
  pub initial : s.modes ≡ initial_modes s.schema.constraints
  pub unsaved : s.savepoints ≡ []
  pub uncounted : s.database.count ≡ 0

-- No immediate constraint is violated in a savepoint's database, under its own modes.
abbrev pub SaveHolds : Schema → Savepoint → Type 0
SaveHolds c save = scan save.database.rows c.constraints (is_chosen save.modes Immediate) ≡ []

abbrev pub EachSaveHolds : Schema → List Savepoint → Type 0
EachSaveHolds c [] = Unit {0}
EachSaveHolds c (save ∷ saves) = SaveHolds c save × EachSaveHolds c saves

-- No immediate constraint is violated, so that none is violated exactly if no deferred one is. The rest says what holds outside a
-- transaction, of savepoints, of rows (their numbers rise, below the next one) and of the numbers of triggers.
pub record IsSound (s : State) : Type 0 where
  pub immediate : scan s.database.rows s.schema.constraints (is_chosen s.modes Immediate) ≡ []
  pub deferred :
      (scan s.database.rows s.schema.constraints (is_chosen s.modes All) ≡ [])
      ↔ (scan s.database.rows s.schema.constraints (is_chosen s.modes Deferred) ≡ [])
  pub outside : s.start ≡ None → IsQuiet s
  pub saves : EachSaveHolds s.schema s.savepoints
  pub rising : Rising 0 s.database.rows s.database.next
  pub triggers : TriggersNumbered s.schema
