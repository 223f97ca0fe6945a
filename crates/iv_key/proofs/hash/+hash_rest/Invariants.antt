use Rattle.std.proofs.Common.{length}
use Rattle.iv_key.proofs.hash.+hash_rest.Given as goal

abbrev pub decreases-hash_rest : goal.decreases-hash_rest
decreases-hash_rest l = length l.rest.now
