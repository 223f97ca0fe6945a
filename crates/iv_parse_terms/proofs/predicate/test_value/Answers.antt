use Rattle.iv_parse_terms.specs.After.{then_read}
use Rattle.iv_parse_terms.specs.readers.Expressions.{more_factors, more_terms, read_factor, read_term}
use Rattle.iv_parse_terms.specs.readers.Conditions.{predicate_from, value_test}
use Rattle.iv_parse_terms.specs.Seen.{tree_in}
use Rattle.iv_parse_terms.specs.SeenItem.{item_in}
use Rattle.iv_parse_terms.proofs.ConditionSteps.{value_more, value_step}
use Rattle.iv_parse_terms.proofs.Rules.{by_rule, then_reads, then_told}
use Rattle.iv_parse_terms.proofs.predicate.test_value.Goals as goal

pub returns-in_err-term : goal.returns-in_err-term
returns-in_err-term c =
    let d = c.args.limit in
    let a = c.args.value.tree in
    let start = c.args.cursor.now in
    let end = c.factors.new.cursor in
    let r = c.from_residual.result in
    by_rule item_in (value_test d a) (λ ws. then_read (more_factors d (read_factor d) d a ws) (value_more d)) start end r (value_step d a)
    (then_told tree_in item_in (more_factors d (read_factor d) d a) (value_more d) start end r c.in_err-term.field-0.0 c.in_err-term.ensures c.from_residual.ensures)

pub returns-in_err-whole : goal.returns-in_err-whole
returns-in_err-whole c =
    let d = c.args.limit in
    let a = c.args.value.tree in
    let start = c.args.cursor.now in
    let end = c.terms.new.cursor in
    let r = c.from_residual-in_err-whole.result in
    by_rule item_in (value_test d a) (λ ws. then_read (more_factors d (read_factor d) d a ws) (value_more d)) start end r (value_step d a)
    (then_reads tree_in item_in (more_factors d (read_factor d) d a) (value_more d) start c.factors.new.cursor end c.in_ok-term.term r c.in_ok-term.ensures
    (then_told tree_in item_in (more_terms d (read_term d) d c.in_ok-term.term.tree) (predicate_from d) c.factors.new.cursor end r c.in_err-whole.field-0.0 c.in_err-whole.ensures c.from_residual-in_err-whole.ensures))

pub returns : goal.returns
returns c =
    let d = c.args.limit in
    let a = c.args.value.tree in
    let start = c.args.cursor.now in
    let end = c.test_whole.new.cursor in
    let r = c.test_whole.result in
    by_rule item_in (value_test d a) (λ ws. then_read (more_factors d (read_factor d) d a ws) (value_more d)) start end r (value_step d a)
    (then_reads tree_in item_in (more_factors d (read_factor d) d a) (value_more d) start c.factors.new.cursor end c.in_ok-term.term r c.in_ok-term.ensures
    (then_reads tree_in item_in (more_terms d (read_term d) d c.in_ok-term.term.tree) (predicate_from d) c.factors.new.cursor c.terms.new.cursor end c.in_ok-whole.whole r c.in_ok-whole.ensures c.test_whole.ensures))
