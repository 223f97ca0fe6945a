use Rattle.iv_parse_terms.specs.readers.Conditions.{truth_alone, with_condition}
use Rattle.iv_parse_terms.specs.SeenItem.{condition_in, from_in, item_in}
use Rattle.iv_parse_terms.proofs.ConditionSteps.{where_truth, where_value}
use Rattle.iv_parse_terms.proofs.Rules.{stopped, stop_in, told}
use Rattle.iv_parse_terms.proofs.from.with_where.Goals as goal

pub returns-in_err-condition : goal.returns-in_err-condition
returns-in_err-condition c = λ ws.
    let stop = c.in_err-condition.field-0.0 in
    told from_in c.from_residual.result stop (with_condition c.args.range (item_in c.args.found) ws) ws c.from_residual.ensures
    (stop_in stop (truth_alone (item_in c.args.found) ws) (with_condition c.args.range (item_in c.args.found) ws) (where_value c.args.range (item_in c.args.found) ws)
    (stopped condition_in stop (truth_alone (item_in c.args.found) ws) ws (c.in_err-condition.ensures ws)))

pub returns : goal.returns
returns c = λ ws.
    where_truth c.args.range (item_in c.args.found) c.in_ok-condition.condition.tree ws (c.in_ok-condition.ensures ws)
