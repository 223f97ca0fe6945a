-- What closing the gap leaves: all is as it was.
use Rattle.std.specs.Prelude.{◌≡◌, ⊤}
use Rattle.std.specs.Borrow.{follows_so, MutBor, Fml}
use mathlib.Core.Option.{none}
use Rattle.iv_store_groups.specs.declared.group_rows.GroupRows.{GroupRows}
use Rattle.iv_store_groups.specs.contracts.group_rows.GroupRows as rows
use Rattle.iv_store_groups.specs.declared.group.Group.{Group}
use Rattle.iv_store_groups.specs.contracts.group.Group as group
use Rattle.iv_store_groups.specs.declared.key_index.KeyIndex.{KeyIndex}
use Rattle.iv_store_groups.specs.contracts.key_index.KeyIndex as index

-- The rows of a group end as they were.
abbrev pub RowsStay : MutBor GroupRows → Fml
RowsStay s = follows_so rows.the_row rows.the_row s.ghost_name none (λ _ _. ⊤) (λ v. v ≡ s.now)

-- A group ends as it was.
abbrev pub GroupStays : MutBor Group → Fml
GroupStays s = follows_so group.the_row group.the_row s.ghost_name none (λ _ _. ⊤) (λ v. v ≡ s.now)

-- The groups of a constraint end as they were.
abbrev pub IndexStays : MutBor KeyIndex → Fml
IndexStays s = follows_so index.the_row index.the_row s.ghost_name none (λ _ _. ⊤) (λ v. v ≡ s.now)
