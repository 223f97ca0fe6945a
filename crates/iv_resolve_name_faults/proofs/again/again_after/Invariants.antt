use Rattle.std.proofs.Common.{◌≡◌, drop, map}
use Rattle.iv_resolution.specs.Items.{first_again}
use Rattle.iv_resolve_name_faults.proofs.again.again_after.Given as goal

abbrev pub invariant-loop-item : goal.invariant-loop-item
invariant-loop-item g l = first_again (λ n. n) l.initial.set (map g.T.Named.named l.items) ≡ first_again (λ n. n) l.set (map g.T.Named.named (drop l.item-index l.items))
