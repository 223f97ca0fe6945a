use Rattle.std.specs.Prelude.{option_map}
use Rattle.std.proofs.Common.{◌+◌, sym, ◌∙◌, ap, subst}
use Rattle.iv_syntax.specs.Trees.{exists_where, condition_depth}
use Rattle.iv_parse_terms.specs.readers.Conditions.{condition_fits, exists_over}
use Rattle.iv_parse_terms.specs.Reading.{GivesAs}
use Rattle.iv_parse_terms.specs.SeenItem.{condition_in, item_in}
use Rattle.iv_parse_terms.proofs.from.make_exists.Goals as goal

pub fit-requires : goal.fit-requires
fit-requires c =
    ap condition_depth c.in_ok-tree-in-Some.ensures
    ∙ ap (λ n. 1 + n) (ap condition_depth c.into_parts-tree.ensures.tree ∙ sym c.into_parts-tree.ensures.depth)

pub returns-in_ok-tree-in-Some : goal.returns-in_ok-tree-in-Some
returns-in_ok-tree-in-Some c = λ ws.
    subst (λ x. GivesAs item_in x c.fit.result ws)
    (ap (λ t. condition_fits c.args.limit t ws) (c.in_ok-tree-in-Some.ensures ∙ ap (exists_where c.args.found.0) c.into_parts-tree.ensures.tree)
    ∙ ap (λ o. condition_fits c.args.limit (exists_over (c.args.found.0, option_map condition_in o)) ws) (sym c.in-Some.is))
    (c.fit.ensures ws)
