use Rattle.std.proofs.Common.{[], ◌∷◌}
use Rattle.iv_resolve_tables.specs.KeySets.{some_reliable}
use Rattle.iv_resolve_tables.specs.Seen.{constraint_seen}
use Rattle.iv_resolve_tables.proofs.SameSets.{gains_none}
use Rattle.iv_resolve_tables.proofs.key_sets.add_key.Goals as goal

pub returns-in-None : goal.returns-in-None
returns-in-None c columns = gains_none c.args.sets.now (some_reliable columns (constraint_seen c.args.constraint.now ∷ [])) (λ names. c.in-None.ensures columns names)
