use Rattle.std.proofs.Common.{◌≡◌, [], drop, map, take}
use Rattle.iv_resolution.specs.Items.{first_again}
use Rattle.iv_resolve_name_faults.proofs.again.again_in_place.Given as goal

abbrev pub invariant-loop-place : goal.invariant-loop-place
invariant-loop-place g l =
    first_again (λ n. n) [] (map g.T.Named.named l.items)
    ≡ first_again (λ n. n) (map g.T.Named.named (take l.place l.items)) (map g.T.Named.named (drop l.place l.items))
