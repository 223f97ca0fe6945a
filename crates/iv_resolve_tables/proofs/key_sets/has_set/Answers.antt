use Rattle.std.proofs.Common.{◌∙◌}
use Rattle.iv_resolve_tables.proofs.SameSets.{found_set}
use Rattle.iv_resolve_tables.proofs.key_sets.has_set.Goals as goal

pub returns : goal.returns
returns c p h = c.contains.ensures ∙ found_set c.args.sets.now c.in_ok-set.set c.args.names.now p h c.in_ok-set.ensures
