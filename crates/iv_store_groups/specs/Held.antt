-- How a group keeps its rows.
use Rattle.std.specs.Prelude.{[], ◌∷◌}
use Rattle.iv_numbers.specs.Rows.{Rows}
use Rattle.iv_store_groups.specs.declared.group_rows.Numbers.{Numbers}
use Rattle.iv_store_groups.specs.declared.group_rows.Numbers.TheVariants.{Empty, One, Many}

-- The rows, and their room: if there is none, there is room for one.
abbrev pub rows_held : Numbers → Rows
rows_held Empty = record { rows = []; room = 1 }
rows_held (One row) = record { rows = row ∷ []; room = 0 }
rows_held (Many rows) = rows.value
