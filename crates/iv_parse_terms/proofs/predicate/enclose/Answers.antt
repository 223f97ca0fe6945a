use Rattle.std.proofs.Common.{sym, ◌∙◌, ap, subst}
use Rattle.iv_syntax.specs.Trees.{group, enclosed}
use Rattle.iv_parse_terms.specs.readers.Expressions.{fits}
use Rattle.iv_parse_terms.specs.readers.Conditions.{as_item, condition_fits, enclose}
use Rattle.iv_parse_terms.specs.Reading.{GivesAs}
use Rattle.iv_parse_terms.specs.Seen.{tree_in}
use Rattle.iv_parse_terms.specs.SeenItem.{item_in}
use Rattle.iv_parse_terms.proofs.Rules.{stopped, stop_in, told}
use Rattle.iv_parse_terms.proofs.predicate.enclose.Goals as goal

pub returns-in_err-group-in-Value : goal.returns-in_err-group-in-Value
returns-in_err-group-in-Value c = λ ws.
    let stop = c.in_err-group-in-Value.field-0.0 in
    let found = fits c.args.limit (group c.in-Value.value.tree) ws in
    let whole = enclose c.args.limit (item_in c.args.inside) ws in
    told item_in c.from_residual.result stop whole ws c.from_residual.ensures
    (stop_in stop found whole
    (λ n. ap (λ i. enclose c.args.limit (item_in i) ws) c.in-Value.is ∙ ap as_item n)
    (stopped tree_in stop found ws (c.in_err-group-in-Value.ensures ws)))

pub returns-in_ok-group-in-Value : goal.returns-in_ok-group-in-Value
returns-in_ok-group-in-Value c = λ ws.
    ap (λ i. enclose c.args.limit (item_in i) ws) c.in-Value.is ∙ ap as_item (c.in_ok-group-in-Value.ensures ws)

pub returns-in_ok-tree-in-Truth : goal.returns-in_ok-tree-in-Truth
returns-in_ok-tree-in-Truth c = λ ws.
    subst (λ x. GivesAs item_in x c.fit.result ws)
    (ap (λ t. condition_fits c.args.limit t ws) (c.in_ok-tree-in-Truth.ensures ∙ ap enclosed c.into_parts-tree.ensures.tree)
    ∙ ap (λ i. enclose c.args.limit (item_in i) ws) (sym c.in-Truth.is))
    (c.fit.ensures ws)
