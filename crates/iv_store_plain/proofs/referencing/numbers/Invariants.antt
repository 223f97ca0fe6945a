use Rattle.std.proofs.Common.{◌≡◌, ◌++◌, ◌&&◌, ◌==◌, drop, filter}
use Rattle.iv_key.specs.Keys.{holds_key}
use Rattle.iv_store.specs.Stores.{numbers_of}
use Rattle.iv_store_plain.proofs.referencing.numbers.Given as goal

abbrev pub invariant-loop-row : goal.invariant-loop-row
invariant-loop-row l =
    l.found.items ++ numbers_of (filter (λ r. (r.table == l.table) && holds_key l.foreign_key.columns l.key r.values) (drop l.row-index l.rows))
    ≡ numbers_of (filter (λ r. (r.table == l.table) && holds_key l.foreign_key.columns l.key r.values) l.rows)
