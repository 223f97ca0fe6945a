use Rattle.std.proofs.Common.{◌≡◌, ◌++◌, drop}
use Rattle.iv_key.specs.Keys.{key_of}
use Rattle.iv_key.proofs.key.copied.Given as goal

abbrev pub invariant-loop-column : goal.invariant-loop-column
invariant-loop-column l = l.values.items ++ key_of (drop l.column-index l.columns) l.row ≡ key_of l.columns l.row
