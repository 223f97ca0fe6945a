-- What the results of the code are among the definitions.
use Rattle.iv_parse_terms.specs.Types.{Expression}
use Rattle.iv_parse_terms.specs.declared.expression_part.ExpressionPart.{ExpressionPart}

abbrev pub tree_in : ExpressionPart → Expression
tree_in p = p.tree
