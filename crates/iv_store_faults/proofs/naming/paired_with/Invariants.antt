use Rattle.std.proofs.Common.{◌≡◌, ◌++◌, drop}
use Rattle.iv_store_following.specs.References.{paired_with}
use Rattle.iv_store_faults.proofs.naming.paired_with.Given as goal

abbrev pub invariant-loop-other : goal.invariant-loop-other
invariant-loop-other l = l.columns ++ paired_with l.fk (drop l.other-index l.others) ≡ paired_with l.fk l.others
