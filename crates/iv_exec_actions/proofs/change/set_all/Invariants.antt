use Rattle.std.proofs.Common.{◌≡◌, drop}
use Rattle.iv_machine.specs.Proposals.{with_columns}
use Rattle.iv_exec_actions.proofs.change.set_all.Given as goal

abbrev pub invariant-loop-pair : goal.invariant-loop-pair
invariant-loop-pair l = with_columns l.values.items (drop l.pair-index l.pairs) ≡ with_columns l.initial.values.items l.pairs
