use Rattle.iv_store_groups.proofs.GroupsLemmas.{sound_of}
use Rattle.iv_store_groups.proofs.key_index.recall_groups.Goals as goal

pub returns : goal.returns
returns c = sound_of c.args.hashes.now c.args.groups.now c.requires
