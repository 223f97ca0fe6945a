-- The groups of keys, as kept violations see them.
use Rattle.std.specs.Prelude.{ℕ, List, map}
use Rattle.iv_store_groups.specs.Groups.{GroupOf}
use Rattle.iv_store_groups.specs.Groups as index
use Rattle.iv_laws_kept.specs.Kept.{Group, Groups}

-- a group without its room
abbrev pub shown_group : GroupOf → Group
shown_group g = record { key = g.key; rows = g.held.rows }

-- the groups of the constraint of this number
abbrev pub shown_of : List (List GroupOf) → ℕ → List Group
shown_of groups id = map shown_group (index.groups_of groups id)

-- the groups of all constraints
abbrev pub shown : List (List GroupOf) → Groups
shown groups = map (λ own. map shown_group own) groups
