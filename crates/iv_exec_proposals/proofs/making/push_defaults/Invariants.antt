use Rattle.std.proofs.Common.{◌≡◌, ◌++◌, map, drop}
use Rattle.iv_exec_proposals.proofs.making.push_defaults.Given as goal

abbrev pub invariant-loop-column : goal.invariant-loop-column
invariant-loop-column l =
    l.row.items ++ map (λ c. c.default) (drop l.column-index l.columns) ≡ l.initial.row.items ++ map (λ c. c.default) l.columns
