use Rattle.iv_resolution.specs.Constraints.{written_constraints}
use Rattle.iv_resolve_tables.specs.KeySets.{some_reliable}
use Rattle.iv_resolve_tables.proofs.SameSets.{finds_gained}
use Rattle.iv_resolve_tables.proofs.key_sets.reliable_sets.Goals as goal

pub returns : goal.returns
returns c columns =
    finds_gained c.new-sets.result c.add_keys.new.sets (some_reliable columns (written_constraints c.args.elements.now)) c.new-sets.ensures.empty (c.in_ok-add_keys.ensures columns)
