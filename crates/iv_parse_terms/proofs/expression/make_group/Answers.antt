use Rattle.std.proofs.Common.{◌∙◌, ap, subst}
use Rattle.iv_syntax.specs.Trees.{group}
use Rattle.iv_parse_terms.specs.readers.Expressions.{fits}
use Rattle.iv_parse_terms.specs.Reading.{GivesAs}
use Rattle.iv_parse_terms.specs.Seen.{tree_in}
use Rattle.iv_parse_terms.proofs.expression.make_group.Goals as goal

pub returns : goal.returns
returns c = λ ws.
    subst (λ t. GivesAs tree_in (fits c.args.limit t ws) c.fit.result ws) (c.in_ok-tree.ensures ∙ ap group c.into_parts-tree.ensures.tree) (c.fit.ensures ws)
