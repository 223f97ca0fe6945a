use Rattle.std.specs.Prelude.{max}
use Rattle.std.proofs.Common.{◌≡◌, ◌+◌, sym, ◌∙◌, ap, subst}
use Rattle.iv_syntax.specs.Trees.{condition_depth}
use Rattle.iv_parse_terms.specs.Items.{Truth}
use Rattle.iv_parse_terms.specs.readers.Conditions.{condition_fits, connection, truth_alone, connection_from}
use Rattle.iv_parse_terms.specs.Reading.{GivesAs}
use Rattle.iv_parse_terms.specs.SeenItem.{condition_in, item_in}
use Rattle.iv_parse_terms.proofs.ConditionSteps.{connected_depth, truth_is, value_joined, joined_value}
use Rattle.iv_parse_terms.proofs.Rules.{stopped, stop_in, told}
use Rattle.iv_parse_terms.proofs.predicate.join.Goals as goal

pub returns-in_err-left : goal.returns-in_err-left
returns-in_err-left c = λ ws.
    let stop = c.in_err-left.field-0.0 in
    let whole = connection_from c.args.connective c.args.limit (item_in c.args.left) (item_in c.args.right) ws in
    told item_in c.from_residual.result stop whole ws c.from_residual.ensures
    (stop_in stop (truth_alone (item_in c.args.left) ws) whole
    (λ n. sym (value_joined c.args.connective c.args.limit (item_in c.args.left) (item_in c.args.right) ws ws (sym n)))
    (stopped condition_in stop (truth_alone (item_in c.args.left) ws) ws (c.in_err-left.ensures ws)))

pub returns-in_err-right : goal.returns-in_err-right
returns-in_err-right c = λ ws.
    let stop = c.in_err-right.field-0.0 in
    let whole = connection_from c.args.connective c.args.limit (item_in c.args.left) (item_in c.args.right) ws in
    told item_in c.from_residual-in_err-right.result stop whole ws c.from_residual-in_err-right.ensures
    (stop_in stop (truth_alone (item_in c.args.right) ws) whole
    (λ n. ap (λ i. connection_from c.args.connective c.args.limit i (item_in c.args.right) ws) (sym (truth_is (item_in c.args.left) c.in_ok-left.left.tree ws ws (sym (c.in_ok-left.ensures ws))))
    ∙ sym (joined_value c.args.connective c.args.limit c.in_ok-left.left.tree (item_in c.args.right) ws (sym n)))
    (stopped condition_in stop (truth_alone (item_in c.args.right) ws) ws (c.in_err-right.ensures ws)))

pub fit-requires : goal.fit-requires
fit-requires c =
    let l = c.into_parts-left in
    let r = c.into_parts-right in
    ap condition_depth c.in_ok-tree.ensures
    ∙ (connected_depth c.args.connective l.result.0 r.result.0
    ∙ sym (ap (λ n. 1 + n) (c.max-below.ensures
    ∙ (ap (λ n. max n r.result.1) (l.ensures.depth ∙ ap condition_depth (sym l.ensures.tree)) ∙ ap (max (condition_depth l.result.0)) (r.ensures.depth ∙ ap condition_depth (sym r.ensures.tree))))))

pub returns : goal.returns
returns c = λ ws.
    let k = c.args.connective in
    let d = c.args.limit in
    let a = c.in_ok-left.left.tree in
    let b = c.in_ok-right.right.tree in
    let l : Truth a ≡ (item_in c.args.left) = truth_is (item_in c.args.left) a ws ws (sym (c.in_ok-left.ensures ws)) in
    let r : Truth b ≡ (item_in c.args.right) = truth_is (item_in c.args.right) b ws ws (sym (c.in_ok-right.ensures ws)) in
    let tree = c.in_ok-tree.ensures ∙ (ap (λ x. connection k x c.into_parts-right.result.0) c.into_parts-left.ensures.tree ∙ ap (connection k a) c.into_parts-right.ensures.tree) in
    subst (λ x. GivesAs item_in x c.fit.result ws)
    (ap (λ t. condition_fits d t ws) tree ∙ (ap (λ j. connection_from k d (Truth a) j ws) r ∙ ap (λ i. connection_from k d i (item_in c.args.right) ws) l))
    (c.fit.ensures ws)
