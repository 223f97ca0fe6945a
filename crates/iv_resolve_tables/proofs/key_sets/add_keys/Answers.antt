use Rattle.iv_resolution.specs.Constraints.{written_constraints}
use Rattle.iv_resolve_tables.specs.KeySets.{some_reliable}
use Rattle.iv_resolve_tables.specs.Unread.{left_seen}
use Rattle.iv_resolve_tables.specs.Seen.{constraint_seen}
use Rattle.iv_resolve_tables.proofs.SameSets.{gains_first, gains_next, gains_all}
use Rattle.iv_resolve_tables.proofs.key_sets.add_keys.Goals as goal

pub loop-constraint-init : goal.loop-constraint-init
loop-constraint-init c columns = gains_first _ _

pub loop-constraint-preserved : goal.loop-constraint-preserved
loop-constraint-preserved c columns =
    gains_next c.args.sets.now c.loop-constraint.sets c.add_key.new.sets columns (some_reliable columns (written_constraints c.args.elements.now))
    (constraint_seen c.in-Some.constraint) (left_seen c.in-Some.rest) (left_seen c.loop-constraint.left)
    c.in-Some.ensures (c.loop-constraint.invariant columns) (c.in_ok-add_key.ensures columns)

pub returns : goal.returns
returns c columns =
    gains_all c.args.sets.now c.loop-constraint.sets columns (some_reliable columns (written_constraints c.args.elements.now))
    (left_seen c.loop-constraint.left) c.in_default.ensures (c.loop-constraint.invariant columns)
