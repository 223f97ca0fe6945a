use Rattle.std.proofs.Common.{◌∙◌, ap, arith, length, sym}
use Rattle.iv_resolution.specs.Constraints.{written_constraints}
use Rattle.iv_resolve_tables.specs.Unread.{left_seen}
use Rattle.iv_resolve_tables.specs.Seen.{constraint_seen}
use Rattle.iv_resolve_name_faults.proofs.InPlace.{constraint_passed_at, none_seen, rest_next}
use Rattle.iv_resolve_name_faults.proofs.constraints_again.duplicate_in_place.Goals as goal

pub loop-constraint-preserved : goal.loop-constraint-preserved
loop-constraint-preserved c =
    let i = c.loop-constraint.invariant in
    let shorter = ap length c.in-Some.ensures in
    record {
      first = omega arith;
      places = omega (arith, i.places, shorter);
      rest = rest_next (written_constraints c.args.elements.now) (left_seen c.loop-constraint.left) (left_seen c.in-Some.rest) (constraint_seen c.in-Some.constraint) c.loop-constraint.place i.first i.rest c.in-Some.ensures;
      same =
          i.same
          ∙ constraint_passed_at c.args.catalogue.now c.args.table.now (written_constraints c.args.elements.now) (left_seen c.loop-constraint.left) (left_seen c.in-Some.rest)
          (constraint_seen c.in-Some.constraint) c.loop-constraint.place c.comes_before-again.result i.first i.rest c.in-Some.ensures c.comes_before-again.ensures
          (sym c.duplicate_in_constraint-fault.ensures ∙ none_seen c.duplicate_in_constraint-fault.result (sym c.is_some.ensures ∙ c.if-is_some.false));
    }
