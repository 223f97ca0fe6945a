-- The constraints of a CREATE TABLE that are left, one after the other.
use Rattle.std.specs.Prelude.{List, [], ◌∷◌, ◌++◌, map, Option, Some, None}
use Rattle.iv_resolution.specs.Constraints as written
use Rattle.iv_resolution.specs.Constraints.{column_constraint, written_constraints}
use Rattle.iv_resolve_tables.specs.Seen.{constraint_seen}
use Rattle.iv_resolve_tables.specs.declared.unread.Unread.{Unread}
use Rattle.iv_resolve_tables.specs.declared.unread.Unread.TheVariants.{Inside, Outside}
use Rattle.iv_resolve_tables.specs.declared.written.WrittenConstraint.{WrittenConstraint}

-- those that are left of a column, and those of the elements after it
abbrev pub left_seen : Unread → List written.WrittenConstraint
left_seen (Inside name constraints elements) = map (column_constraint name.now) constraints.now ++ written_constraints elements.now
left_seen (Outside elements) = written_constraints elements.now

-- the first and what is left after it
abbrev pub first_seen : Option (WrittenConstraint × Unread) → List written.WrittenConstraint
first_seen (Some p) = constraint_seen p.0 ∷ left_seen p.1
first_seen None = []
