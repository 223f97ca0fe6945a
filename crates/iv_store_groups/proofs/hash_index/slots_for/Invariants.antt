use Rattle.iv_store_groups.proofs.hash_index.slots_for.Given as goal

abbrev pub decreases-loop-count : goal.decreases-loop-count
decreases-loop-count l = l.count
