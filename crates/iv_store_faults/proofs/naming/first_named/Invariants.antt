use Rattle.std.proofs.Common.{◌≡◌, ◌+◌, drop, filter_map}
use Rattle.std.specs.List.{enumerate_from}
use Rattle.iv_machine.specs.Databases.{first}
use Rattle.iv_laws_kept.specs.Kept.{named_by}
use Rattle.iv_store_faults.proofs.naming.first_named.Given as goal

-- none before the place is named
abbrev pub invariant-loop-place : goal.invariant-loop-place
invariant-loop-place l =
    first (filter_map (named_by l.fk) (enumerate_from (l.start + l.place) (drop l.place l.constraints))) ≡ first (filter_map (named_by l.fk) (enumerate_from l.start l.constraints))
