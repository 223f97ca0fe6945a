use Rattle.std.proofs.Common.{[]}
use Rattle.iv_store_groups.proofs.LinkedLemmas.{linked_begin}
use Rattle.iv_store_groups.proofs.hash_index.HashIndex.new.Goals as goal

pub invariant_of-result : goal.invariant_of-result
invariant_of-result c = rw (c.new.ensures.items, c.new-3.ensures.items, c.new-4.ensures.items) (linked_begin [] c.new-2.result (λ slot end is. absurd cc) c.new-2.ensures.empty)
