use Rattle.std.proofs.Common.{◌≡◌, ◌++◌, ◌+◌, drop}
use Rattle.iv_catalogue.specs.Catalogues.{places_from}
use Rattle.iv_catalogue.proofs.catalogue.places_from.Given as goal

abbrev pub invariant-loop-constraint : goal.invariant-loop-constraint
invariant-loop-constraint l =
    (l.place ≡ l.first + l.constraint-index)
    × (l.places ++ places_from l.table l.place (drop l.constraint-index l.constraints) ≡ places_from l.table l.first l.constraints)
