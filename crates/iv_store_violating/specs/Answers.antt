-- What the first, the count and the list of the violations are found from.
use Rattle.std.specs.Prelude.{◌≡◌, ℕ, ◌<◌, true, if◌then◌else◌, nat_lt, List, [], length, map, slice_get, Option, Some, None}
use Rattle.iv_catalogue.specs.declared.cause.Fault.{Fault}
use Rattle.iv_catalogue.specs.declared.constraint.Constraint.{Constraint}
use Rattle.iv_laws_kept.specs.Kept.{Groups, groups_of, fault_of, kept_rows}
use Rattle.iv_laws_kept.specs.GroupFlags.{GroupFlags, violating_of}
use Rattle.iv_store_violating.specs.Flagging.{flag}

-- each flagged place is that of a group
abbrev pub HaveGroups : GroupFlags → Groups → Type 0
HaveGroups violating groups = (id place : ℕ) → flag (violating_of violating id) place ≡ true → place < length (groups_of groups id)

-- the lesser of two numbers, if they are there
abbrev pub lesser : Option ℕ → Option ℕ → Option ℕ
lesser None other = other
lesser (Some a) None = Some a
lesser (Some a) (Some b) = Some (if nat_lt a b then a else b)

-- the rows of the violating groups of the constraint of this number
abbrev pub rows_kept : List Constraint → Groups → ℕ → List ℕ
rows_kept constraints groups id = elim (slice_get constraints id) [ Some c ↦ kept_rows constraints groups id c | None ↦ [] ]

-- the violations of the constraint of this number, by row
abbrev pub faults_kept : List Constraint → Groups → ℕ → List Fault
faults_kept constraints groups id = map (fault_of id) (rows_kept constraints groups id)
