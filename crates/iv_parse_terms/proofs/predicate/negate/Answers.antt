use Rattle.std.proofs.Common.{sym, ◌∙◌, ap, subst}
use Rattle.iv_syntax.specs.Trees.{negated}
use Rattle.iv_parse_terms.specs.readers.Conditions.{condition_fits, negate, truth_alone}
use Rattle.iv_parse_terms.specs.Reading.{GivesAs}
use Rattle.iv_parse_terms.specs.SeenItem.{condition_in, item_in}
use Rattle.iv_parse_terms.proofs.ConditionSteps.{negated_truth, negated_value}
use Rattle.iv_parse_terms.proofs.Rules.{stopped, stop_in, told}
use Rattle.iv_parse_terms.proofs.predicate.negate.Goals as goal

pub returns-in_err-truth : goal.returns-in_err-truth
returns-in_err-truth c = λ ws.
    let stop = c.in_err-truth.field-0.0 in
    let i = item_in c.args.found in
    told item_in c.from_residual.result stop (negate c.args.limit i ws) ws c.from_residual.ensures
    (stop_in stop (truth_alone i ws) (negate c.args.limit i ws) (negated_value c.args.limit i ws) (stopped condition_in stop (truth_alone i ws) ws (c.in_err-truth.ensures ws)))

pub returns : goal.returns
returns c = λ ws.
    let i = item_in c.args.found in
    subst (λ x. GivesAs item_in x c.fit.result ws)
    (ap (λ t. condition_fits c.args.limit t ws) (c.in_ok-tree.ensures ∙ ap negated c.into_parts-tree.ensures.tree)
    ∙ sym (negated_truth c.args.limit i c.in_ok-truth.field-0.tree ws (c.in_ok-truth.ensures ws)))
    (c.fit.ensures ws)
