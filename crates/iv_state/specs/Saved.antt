-- The savepoints of a session as a list.
use Rattle.std.specs.Prelude.{ℕ, List, [], map, Option, None, String, string_bytes}
use Rattle.iv_modes.specs.ModeMaps.{ModeMap}

-- A savepoint: its name, and the modes that it has if SET CONSTRAINTS had changed them.
pub record Saved : Type 0 where
  pub name : List ℕ
  pub modes : Option ModeMap

-- The savepoints, the oldest first, and how many more they take at least without an allocation.
pub record Savepoints : Type 0 where
  pub saves : List Saved
  pub room : ℕ

-- the savepoint of a name, with these modes
abbrev pub saved_of : {Y : Type 0} → String Y × Option ModeMap → Saved
saved_of entry = record { name = string_bytes entry.0; modes = entry.1 }

-- what stands for a savepoint if there is none
abbrev pub unnamed : Saved
unnamed = record { name = []; modes = None }

-- the names of savepoints
abbrev pub saved_names : List Saved → List (List ℕ)
saved_names saves = map (λ s. s.name) saves
