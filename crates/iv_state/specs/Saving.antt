-- Savepoints by name, in the list that a session keeps: the oldest first, each with its mark.
use Rattle.std.specs.Prelude.{◌≡◌, ℕ, ◌+◌, ◌<◌, not, if◌then◌else◌, List, [], ◌∷◌, length, filter, Option, Some, None}
use Rattle.std.specs.Str.{bytes_eq}
use Rattle.iv_state.specs.Types.{Database}
use Rattle.iv_store.specs.Stores.{StoreState, marked_database}
use Rattle.iv_state.specs.Saved.{Saved}
use Rattle.iv_state.specs.Kept.{later}

-- the last place of the name among these, of which the first has this place, or what was found before them
abbrev pub last_from : List ℕ → Option ℕ → ℕ → List Saved → Option ℕ
last_from name found at [] = found
last_from name found at (s ∷ saves) = last_from name (if bytes_eq name s.name then Some at else found) (at + 1) saves

-- The place of the newest savepoint of the name.
abbrev pub last_named : List ℕ → List Saved → Option ℕ
last_named name saves = last_from name None 0 saves

-- the savepoints that don't have the name
abbrev pub saves_without : List ℕ → List Saved → List Saved
saves_without name saves = filter (λ s. not (bytes_eq name s.name)) saves

-- the marks of those, and those after all savepoints
abbrev pub marks_without : List ℕ → List Saved → List Database → List Database
marks_without name [] dbs = dbs
marks_without name (s ∷ saves) [] = []
marks_without name (s ∷ saves) (db ∷ dbs) = if bytes_eq name s.name then marks_without name saves dbs else db ∷ marks_without name saves dbs

-- the store with these marks
abbrev pub with_marks : StoreState → List Database → StoreState
with_marks s marks = record s { marks = marks }

-- From these savepoints and this store to those the savepoints of the name are taken out, with their marks.
pub record IsWithout (name : List ℕ) (saves : List Saved) (s : StoreState) (others : List Saved) (t : StoreState) : Type 0 where
  pub kept : others ≡ saves_without name saves
  pub store : t ≡ with_marks s t.marks
  pub first : marked_database t 0 ≡ marked_database s 0
  pub marks : later t.marks ≡ marks_without name saves (later s.marks)
  pub room : length others < length t.marks
