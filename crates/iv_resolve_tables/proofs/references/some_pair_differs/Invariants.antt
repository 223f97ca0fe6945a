use Rattle.std.proofs.Common.{◌≡◌, drop, zip}
use Rattle.iv_resolve_scope.specs.Seen.{columns_seen}
use Rattle.iv_resolve_tables.specs.Keys.{key_names}
use Rattle.iv_resolve_tables.specs.Pairs.{some_pair_differs}
use Rattle.iv_resolve_tables.proofs.references.some_pair_differs.Given as goal

abbrev pub invariant-loop-at : goal.invariant-loop-at
invariant-loop-at l =
    some_pair_differs (columns_seen l.fn.columns) (columns_seen l.fn.others) (zip l.fn.referencing (key_names l.fn.referenced))
    ≡ some_pair_differs (columns_seen l.fn.columns) (columns_seen l.fn.others) (zip (drop l.at l.fn.referencing) (drop l.at (key_names l.fn.referenced)))
