use Rattle.std.proofs.Common.{◌+◌, ◌*◌}
use Rattle.iv_parse_terms.proofs.expression.+expression.Given as goal

abbrev pub decreases-primary : goal.decreases-primary
decreases-primary l = 200 * l.limit

abbrev pub decreases-factor : goal.decreases-factor
decreases-factor l = 200 * l.limit + 1

abbrev pub decreases-factors : goal.decreases-factors
decreases-factors l = 200 * l.limit + 2 + l.most

abbrev pub decreases-term : goal.decreases-term
decreases-term l = 200 * l.limit + 70

abbrev pub decreases-terms : goal.decreases-terms
decreases-terms l = 200 * l.limit + 71 + l.most

abbrev pub decreases-expression : goal.decreases-expression
decreases-expression l = 200 * l.limit + 140
