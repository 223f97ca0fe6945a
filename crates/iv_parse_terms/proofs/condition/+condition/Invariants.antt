use Rattle.std.proofs.Common.{ℕ, ◌+◌, ◌*◌}
use Rattle.iv_parse_terms.specs.declared.item.Connective.{Connective}
use Rattle.iv_parse_terms.specs.declared.item.Connective.TheVariants.{And, Or}
use Rattle.iv_parse_terms.proofs.condition.+condition.Given as goal

-- AND binds before OR
abbrev rank : Connective → ℕ
rank And = 0
rank Or = 1

abbrev pub decreases-exists : goal.decreases-exists
decreases-exists l = 400 * l.limit

abbrev pub decreases-lead : goal.decreases-lead
decreases-lead l = 400 * l.limit + 1

abbrev pub decreases-lead_factor : goal.decreases-lead_factor
decreases-lead_factor l = 400 * l.limit + 2

abbrev pub decreases-test : goal.decreases-test
decreases-test l = 400 * l.limit + 3

abbrev pub decreases-negation : goal.decreases-negation
decreases-negation l = 400 * l.limit + 4

abbrev pub decreases-operand : goal.decreases-operand
decreases-operand l = 400 * l.limit + 5 + 75 * rank l.connective

abbrev pub decreases-operands : goal.decreases-operands
decreases-operands l = 400 * l.limit + 6 + 75 * rank l.connective + l.most

abbrev pub decreases-chain : goal.decreases-chain
decreases-chain l = 400 * l.limit + 71 + 75 * rank l.connective

abbrev pub decreases-item : goal.decreases-item
decreases-item l = 400 * l.limit + 150

abbrev pub decreases-from_range : goal.decreases-from_range
decreases-from_range l = 400 * l.limit + 151
