-- Kept violations are those that a scan finds.
use Rattle.std.specs.Prelude.{◌≡◌, ℕ, Bool, List}
use Rattle.iv_laws_kept.specs.Types.{StoredRow, Constraint}
use Rattle.iv_machine.specs.Databases.{scan}
use Rattle.iv_laws_levels.specs.RisingRows.{InOrder}
use Rattle.iv_laws_kept.specs.Kept.{Groups, KeysOnce, Show, AllNamed, kept}

-- If groups show rows, what they give is what a scan of the rows finds.
abbrev pub KeptIsTheScan : Type 0
KeptIsTheScan =
    (rows : List StoredRow) (constraints : List Constraint) (groups : Groups) (chosen : ℕ → Bool)
    → InOrder rows → AllNamed constraints → KeysOnce groups → Show rows constraints groups
    → kept constraints groups chosen ≡ scan rows constraints chosen
