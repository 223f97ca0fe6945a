-- The changes of a wave one by one, in any order.
use Rattle.std.specs.Prelude.{◌≡◌, false, List, [], ◌∷◌}
use Rattle.iv_laws_levels.specs.Types.{Change, Database}
use Rattle.iv_expr.specs.Changes.{Wave, wave_of}
use Rattle.iv_machine.specs.Databases.{has_change, database_after}
use Rattle.iv_laws_levels.specs.RisingRows.{InOrder}

-- no two changes are of one row
abbrev pub Distinct : List Change → Type 0
Distinct [] = Unit {0}
Distinct (c ∷ changes) = (has_change changes c.row ≡ false) × Distinct changes

-- The second list has the changes of the first in another order: none or more neighbours were swapped, one after another.
pub data Reordered : List Change → List Change → Type 0 where
  same : {changes : List Change} → Reordered changes changes
  further : {changes other : List Change} → (c : Change) → Reordered changes other → Reordered (c ∷ changes) (c ∷ other)
  swapped : {changes : List Change} → (c d : Change) → Reordered (c ∷ d ∷ changes) (d ∷ c ∷ changes)
  twice : {changes middle other : List Change} → Reordered changes middle → Reordered middle other → Reordered changes other

-- the database after these changes, made as one wave
abbrev pub after_changes : Database → List Change → Database
after_changes db changes = database_after db (wave_of changes)

-- the database after the changes, each as a wave of its own
abbrev pub one_by_one : Database → List Change → Database
one_by_one db [] = db
one_by_one db (c ∷ changes) = one_by_one (after_changes db (c ∷ [])) changes

-- The changes of a wave, one by one in any order, give what the wave gives, if rows are in rising number and no two changes are of one row.
abbrev pub AnyOrderGivesTheWave : Type 0
AnyOrderGivesTheWave =
    (db : Database) (wave : Wave) (other : List Change)
    → InOrder db.rows → Distinct wave.changes → Reordered wave.changes other
    → one_by_one db other ≡ database_after db wave
