use Rattle.std.proofs.Common.{◌≡◌, ◌≤◌, ◌+◌, drop, filter, length, min}
use Rattle.iv_resolution.specs.Constraints.{written_constraints}
use Rattle.iv_resolution.specs.Tables.{is_primary_rule}
use Rattle.iv_resolve_tables.proofs.primary.has_two_primary_keys.Given as goal

abbrev pub invariant-loop-element : goal.invariant-loop-element
invariant-loop-element l = record {
  few : l.count ≤ 2;
  all : min 2 (l.count + length (filter (λ k. is_primary_rule k.rule) (written_constraints (drop l.element-index l.elements))))
      ≡ min 2 (length (filter (λ k. is_primary_rule k.rule) (written_constraints l.elements)));
}
