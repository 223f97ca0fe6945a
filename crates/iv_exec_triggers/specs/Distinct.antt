-- Lists that name no column twice.
use Rattle.std.specs.Prelude.{◌≡◌, false, List, [], ◌∷◌}
use Rattle.iv_expr.specs.declared.wave.TableColumn.{TableColumn}
use Rattle.iv_expr.specs.Changes.{names_column}

-- each column is there once
abbrev pub EachOnce : List TableColumn → Type 0
EachOnce [] = Unit {0}
EachOnce (x ∷ columns) = (names_column columns x.table x.column ≡ false) × EachOnce columns
