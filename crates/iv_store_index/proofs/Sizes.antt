-- How many rows each key holds without an allocation.
use Rattle.std.proofs.Common.{◌≡◌, ℕ, ◌≤◌, List, length, filter, arith, ap, sym, ◌∙◌}
use Rattle.iv_store_index.specs.Types.{Value, StoredRow, Constraint}
use Rattle.iv_store_index.specs.Kept.{HasSizes}
use Rattle.iv_store.specs.Stores.{numbers_of}
use Rattle.iv_store_groups.specs.Groups.{GroupOf, groups_of, rows_of}
use Rattle.iv_store_groups.specs.Laws.{size_of}
use Rattle.iv_store_violating.specs.Shown.{shown}
use Rattle.iv_store_violating.proofs.Shown.{rows_under_shown}
use Rattle.iv_laws_kept.specs.Kept.{Show, is_kept_under}

-- those that are there are held
pub sizes_now : (rows : List StoredRow) (constraints : List Constraint) (groups : List (List GroupOf)) → Show rows constraints (shown groups) → HasSizes constraints groups rows
sizes_now rows constraints groups show k c key at =
    let is : length (numbers_of (filter (is_kept_under c key) rows)) ≡ length (rows_of (groups_of groups k) key) = ap length (sym (show k c key at) ∙ rows_under_shown groups k key) in
    omega (arith, is)

-- no key holds fewer
pub sizes_stay : (rows : List StoredRow) (constraints : List Constraint) (groups after : List (List GroupOf))
    → ((k : ℕ) (key : List Value) → size_of (groups_of groups k) key ≤ size_of (groups_of after k) key) → HasSizes constraints groups rows → HasSizes constraints after rows
sizes_stay rows constraints groups after grow has k c key at = omega (arith, grow k key, has k c key at)
