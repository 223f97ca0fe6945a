-- Foreign keys by the tables that they are on.
use Rattle.std.specs.Prelude.{ℕ, List, ◌==◌, filter, filter_map, slice_get}
use Rattle.iv_exec_actions.specs.AffectedForeignKey.{AffectedForeignKey}

-- those on this table, in their order
abbrev pub on_table : ℕ → List AffectedForeignKey → List AffectedForeignKey
on_table table xs = filter (λ x. x.reference.table == table) xs

-- those at these places
abbrev pub at_places : List AffectedForeignKey → List ℕ → List AffectedForeignKey
at_places xs places = filter_map (slice_get xs) places
