use Rattle.std.proofs.Common.{rules, ◌≡◌, ◌∙◌, ap, sym, arith, ℕ, cond, [], length, Some, option_map}
use Rattle.iv_resolution.specs.Constraints.{WrittenConstraint}
use Rattle.iv_resolution.specs.Items.{Item}
use Rattle.iv_resolution.specs.NameFaults.{item_of_constraint}
use Rattle.iv_resolve_tables.specs.Seen.{constraint_seen}
use Rattle.iv_resolve_tables.specs.Unread.{left_seen}
use Rattle.iv_resolve_reasons.specs.SchemaFaults.{second_primary_key}
use Rattle.iv_resolve_reasons.proofs.Primaries.{both_true, first_false, second_false, second_end, second_found, second_passed}
use Rattle.iv_resolve_reasons.proofs.definitions.second_primary_key.Goals.{else-before-via-then-before+else-primary, else-before-via-else-before}
use Rattle.iv_resolve_reasons.proofs.definitions.second_primary_key.Goals as goal

pub returns-then-primary : goal.returns-then-primary
returns-then-primary c =
    ap (λ (i : Item). Some (second_primary_key i)) c.constraint_item-item.ensures
    ∙ sym (ap (option_map (λ (p : ℕ × WrittenConstraint). second_primary_key (item_of_constraint c.args.table.now p.0 p.1)))
    (c.loop-constraint.invariant.same
    ∙ second_found c.loop-constraint.place (constraint_seen c.in-Some.constraint) (left_seen c.loop-constraint.left) (left_seen c.in-Some.rest) c.loop-constraint.before c.is_primary_rule-primary.result
    c.in-Some.ensures c.is_primary_rule-primary.ensures (both_true c.loop-constraint.before c.is_primary_rule-primary.result c.if-before.true c.if-primary.true)))

pub loop-constraint-preserved : goal.loop-constraint-preserved
loop-constraint-preserved c =
    let i = c.loop-constraint.invariant in
    let shorter = ap length c.in-Some.ensures in
    record {
      places = omega (arith, i.places, shorter);
      same = i.same
          ∙ second_passed c.loop-constraint.place (constraint_seen c.in-Some.constraint) (left_seen c.loop-constraint.left) (left_seen c.in-Some.rest) c.loop-constraint.before c.is_primary_rule-primary.result
          c.in-Some.ensures c.is_primary_rule-primary.ensures
          (elim c.else-before.branch [
            | else-before-via-then-before+else-primary w ↦ second_false c.loop-constraint.before c.is_primary_rule-primary.result w.if-primary.false
            | else-before-via-else-before w ↦ first_false c.loop-constraint.before c.is_primary_rule-primary.result w.if-before.false
          ]);
    }

pub returns : goal.returns
returns c =
    let none : [] ≡ left_seen c.loop-constraint.left = search rules in
    sym (ap (option_map (λ (p : ℕ × WrittenConstraint). second_primary_key (item_of_constraint c.args.table.now p.0 p.1)))
    (c.loop-constraint.invariant.same ∙ second_end c.loop-constraint.place (cond c.loop-constraint.before 0 1) (left_seen c.loop-constraint.left) none))
