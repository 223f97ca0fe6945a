use Rattle.std.proofs.Common.{◌≡◌, ◌++◌, drop, filter, map}
use Rattle.std.specs.List.{enumerate_from}
use Rattle.iv_machine.specs.Machine.{is_deferrable}
use Rattle.iv_state.proofs.deferring.all_of.Given as goal

abbrev pub invariant-loop-constraint : goal.invariant-loop-constraint
invariant-loop-constraint l = record {
  ids : l.ids.items ++ filter (is_deferrable l.catalogue) (map (λ k. k.0) (enumerate_from l.place (drop l._constraint-index l.constraints)))
      ≡ filter (is_deferrable l.catalogue) (map (λ k. k.0) (enumerate_from 0 l.constraints));
  at : l.place ≡ l._constraint-index;
}
