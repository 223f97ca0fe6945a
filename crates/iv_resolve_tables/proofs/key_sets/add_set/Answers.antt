use Rattle.iv_resolve_tables.proofs.SameSets.{gained_set}
use Rattle.iv_resolve_tables.proofs.key_sets.add_set.Goals as goal

pub returns : goal.returns
returns c = gained_set c.args.sets.now c.insert.new.self c.in_ok-set.set c.args.names.now c.in_ok-set.ensures c.in_ok-insert.ensures.updates
