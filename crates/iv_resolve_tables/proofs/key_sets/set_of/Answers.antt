use Rattle.iv_resolve_tables.proofs.SameSets.{all_names}
use Rattle.iv_resolve_tables.proofs.key_sets.set_of.Goals as goal

pub returns : goal.returns
returns c = all_names c.loop-name.set c.args.names.now c.loop-name.name-index c.loop-name.invariant.ordered c.loop-name.invariant.same c.loop-name-test.false
