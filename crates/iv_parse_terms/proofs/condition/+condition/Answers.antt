use Rattle.std.specs.Prelude.{Some, None, Ok}
use Rattle.std.proofs.Common.{◌-◌, subst, sym}
use Rattle.iv_lex.specs.declared.kind.TokenKind.TheVariants as kind
use Rattle.iv_parse_terms.specs.After.{after, if_some, then_read}
use Rattle.iv_parse_terms.specs.declared.item.Connective.TheVariants.{And, Or}
use Rattle.iv_parse_terms.specs.readers.Expressions.{after_sign}
use Rattle.iv_parse_terms.specs.readers.Conditions.{after_select, after_truth, close_exists, close_item, connection_from, exists_by, lead_factor, more_by, negate, on_value, range_from, read_conjunction, read_from, read_item, read_lead, read_negation, read_operand, read_test, value_test, where_from, with_condition}
use Rattle.iv_parse_terms.specs.Reading.{ReadsAs}
use Rattle.iv_parse_terms.specs.SeenItem.{from_in, item_in}
use Rattle.iv_parse_terms.proofs.ConditionSteps.{lead_zero, lead_opened, lead_value, lead_other, lead_step, lead_signed, lead_factor_step, test_is, negated_test, negation_step, conjunction_is, item_is, operand_more, more_step}
use Rattle.iv_parse_terms.proofs.Rules.{by_rule, made, makes_told, on_expected, expected_told, on_word, on_other, on_part, on_no_part, then_reads, then_told}
use Rattle.iv_parse_terms.proofs.condition.+condition.Goals as goal

pub lead-returns-then-limit-eq0 : goal.lead-returns-then-limit-eq0
lead-returns-then-limit-eq0 t c =
    λ o l. (l, lead_zero c.args.limit _ c.if-limit-eq0.true)

pub lead-returns-in_err-inside : goal.lead-returns-in_err-inside
lead-returns-in_err-inside t c =
    let d = c.args.limit in
    let start = c.args.cursor.now in
    let end = c.item.new.cursor in
    let r = c.from_residual.result in
    by_rule item_in (read_lead d) (λ ws. if_some (after kind.LeftParenthesis ws) (lead_opened d) (lead_other d ws)) start end r (λ ws. lead_step d ws c.if-limit-eq0.false)
    (on_word item_in (after kind.LeftParenthesis) (lead_opened d) (lead_other d) start c.accept.new.self end r c.if-accept.ensures
    (then_told item_in item_in (read_item (d - 1)) (close_item d) c.accept.new.self end r c.in_err-inside.field-0.0 c.in_err-inside.ensures c.from_residual.ensures))

pub lead-returns-then-accept : goal.lead-returns-then-accept
lead-returns-then-accept t c =
    let d = c.args.limit in
    let start = c.args.cursor.now in
    let end = c.close_item.new.cursor in
    let r = c.close_item.result in
    by_rule item_in (read_lead d) (λ ws. if_some (after kind.LeftParenthesis ws) (lead_opened d) (lead_other d ws)) start end r (λ ws. lead_step d ws c.if-limit-eq0.false)
    (on_word item_in (after kind.LeftParenthesis) (lead_opened d) (lead_other d) start c.accept.new.self end r c.if-accept.ensures
    (then_reads item_in item_in (read_item (d - 1)) (close_item d) c.accept.new.self c.item.new.cursor end c.in_ok-inside.inside r c.in_ok-inside.ensures c.close_item.ensures))

pub lead-returns-then-accept-2 : goal.lead-returns-then-accept-2
lead-returns-then-accept-2 t c =
    let d = c.args.limit in
    let start = c.args.cursor.now in
    let end = c.exists.new.cursor in
    let r = c.exists.result in
    by_rule item_in (read_lead d) (λ ws. if_some (after kind.LeftParenthesis ws) (lead_opened d) (lead_other d ws)) start end r (λ ws. lead_step d ws c.if-limit-eq0.false)
    (on_other item_in (after kind.LeftParenthesis) (lead_opened d) (lead_other d) start c.accept.new.self end r c.if-accept.ensures
    (on_word item_in (after kind.Exists) (exists_by d (read_item (d - 1))) lead_value c.accept.new.self c.accept-2.new.self end r c.if-accept-2.ensures c.exists.ensures))

pub lead-returns : goal.lead-returns
lead-returns t c =
    let d = c.args.limit in
    let start = c.args.cursor.now in
    let end = c.value_simple.new.cursor in
    let r = c.value_simple.result in
    by_rule item_in (read_lead d) (λ ws. if_some (after kind.LeftParenthesis ws) (lead_opened d) (lead_other d ws)) start end r (λ ws. lead_step d ws c.if-limit-eq0.false)
    (on_other item_in (after kind.LeftParenthesis) (lead_opened d) (lead_other d) start c.accept.new.self end r c.if-accept.ensures
    (on_other item_in (after kind.Exists) (exists_by d (read_item (d - 1))) lead_value c.accept.new.self c.accept-2.new.self end r c.if-accept-2.ensures c.value_simple.ensures))

pub exists-returns : goal.exists-returns
exists-returns t c =
    let d = c.args.limit in
    let end = c.close_exists.new.cursor in
    let r = c.close_exists.result in
    on_expected item_in after_select (λ rest. then_read (read_from (d - 1) rest) (close_exists d)) c.args.cursor.now c.select.new.cursor end c.in_ok-select.field-0 r c.in_ok-select.ensures
    (then_reads from_in item_in (read_from (d - 1)) (close_exists d) c.select.new.cursor c.from_range.new.cursor end c.in_ok-found.found r c.in_ok-found.ensures c.close_exists.ensures)

pub from_range-returns-in_err-found : goal.from_range-returns-in_err-found
from_range-returns-in_err-found t c =
    let d = c.args.limit in
    let end = c.item.new.cursor in
    let r = c.from_residual-in_err-found.result in
    on_expected from_in (after kind.From) (λ ws. then_read (range_from ws) (where_from (read_item d))) c.args.cursor.now c.expect.new.self end c.in_ok-expect.field-0 r c.in_ok-expect.ensures
    (then_reads (λ x. x) from_in range_from (where_from (read_item d)) c.expect.new.self c.range.new.cursor end c.in_ok-range.range r c.in_ok-range.ensures
    (on_word from_in (after kind.Where) (λ ws. then_read (read_item d ws) (with_condition c.in_ok-range.range)) (λ ws. Some ((c.in_ok-range.range, None), ws)) c.range.new.cursor c.accept.new.self end r c.if-accept.ensures
    (then_told item_in from_in (read_item d) (with_condition c.in_ok-range.range) c.accept.new.self end r c.in_err-found.field-0.0 c.in_err-found.ensures c.from_residual-in_err-found.ensures)))

pub from_range-returns-then-accept : goal.from_range-returns-then-accept
from_range-returns-then-accept t c =
    let d = c.args.limit in
    let end = c.item.new.cursor in
    let r = c.with_where.result in
    on_expected from_in (after kind.From) (λ ws. then_read (range_from ws) (where_from (read_item d))) c.args.cursor.now c.expect.new.self end c.in_ok-expect.field-0 r c.in_ok-expect.ensures
    (then_reads (λ x. x) from_in range_from (where_from (read_item d)) c.expect.new.self c.range.new.cursor end c.in_ok-range.range r c.in_ok-range.ensures
    (on_word from_in (after kind.Where) (λ ws. then_read (read_item d ws) (with_condition c.in_ok-range.range)) (λ ws. Some ((c.in_ok-range.range, None), ws)) c.range.new.cursor c.accept.new.self end r c.if-accept.ensures
    (then_reads item_in from_in (read_item d) (with_condition c.in_ok-range.range) c.accept.new.self end end c.in_ok-found.found r c.in_ok-found.ensures
    (made from_in (with_condition c.in_ok-range.range (item_in c.in_ok-found.found)) end r c.with_where.ensures))))

pub lead_factor-returns-in-Some : goal.lead_factor-returns-in-Some
lead_factor-returns-in-Some t c =
    let d = c.args.limit in
    let start = c.args.cursor.now in
    let end = c.value_signed.new.cursor in
    let r = c.value_signed.result in
    by_rule item_in (lead_factor d) (λ ws. if_some (after_sign ws) (λ p. lead_signed d p.0 p.1) (read_lead d ws)) start end r (lead_factor_step d)
    (on_part item_in after_sign (λ p. lead_signed d p.0 p.1) (read_lead d) start c.accept_sign.new.self end c.in-Some.sign r c.in-Some.ensures c.value_signed.ensures)

pub lead_factor-returns : goal.lead_factor-returns
lead_factor-returns t c =
    let d = c.args.limit in
    let start = c.args.cursor.now in
    let end = c.lead.new.cursor in
    let r = c.lead.result in
    by_rule item_in (lead_factor d) (λ ws. if_some (after_sign ws) (λ p. lead_signed d p.0 p.1) (read_lead d ws)) start end r (lead_factor_step d)
    (on_no_part item_in after_sign (λ p. lead_signed d p.0 p.1) (read_lead d) start c.accept_sign.new.self end r c.in_default.ensures c.lead.ensures)

pub test-returns-in_err-found : goal.test-returns-in_err-found
test-returns-in_err-found t c =
    let d = c.args.limit in
    let start = c.args.cursor.now in
    let end = c.lead_factor.new.cursor in
    let r = c.from_residual.result in
    by_rule item_in (read_test d) (λ ws. then_read (lead_factor d ws) (on_value (value_test d))) start end r (test_is d)
    (then_told item_in item_in (lead_factor d) (on_value (value_test d)) start end r c.in_err-found.field-0.0 c.in_err-found.ensures c.from_residual.ensures)

pub test-returns : goal.test-returns
test-returns t c =
    let d = c.args.limit in
    let start = c.args.cursor.now in
    let end = c.go_on.new.cursor in
    let r = c.go_on.result in
    by_rule item_in (read_test d) (λ ws. then_read (lead_factor d ws) (on_value (value_test d))) start end r (test_is d)
    (then_reads item_in item_in (lead_factor d) (on_value (value_test d)) start c.lead_factor.new.cursor end c.in_ok-found.found r c.in_ok-found.ensures c.go_on.ensures)

pub negation-returns-in_err-found : goal.negation-returns-in_err-found
negation-returns-in_err-found t c =
    let d = c.args.limit in
    let start = c.args.cursor.now in
    let end = c.test.new.cursor in
    let r = c.from_residual.result in
    by_rule item_in (read_negation d) (λ ws. if_some (after kind.Not ws) (negated_test d) (read_test d ws)) start end r (negation_step d)
    (on_word item_in (after kind.Not) (negated_test d) (read_test d) start c.accept.new.self end r c.if-accept.ensures
    (then_told item_in item_in (read_test d) (negate d) c.accept.new.self end r c.in_err-found.field-0.0 c.in_err-found.ensures c.from_residual.ensures))

pub negation-returns-then-accept : goal.negation-returns-then-accept
negation-returns-then-accept t c =
    let d = c.args.limit in
    let start = c.args.cursor.now in
    let end = c.test.new.cursor in
    let r = c.negate.result in
    by_rule item_in (read_negation d) (λ ws. if_some (after kind.Not ws) (negated_test d) (read_test d ws)) start end r (negation_step d)
    (on_word item_in (after kind.Not) (negated_test d) (read_test d) start c.accept.new.self end r c.if-accept.ensures
    (then_reads item_in item_in (read_test d) (negate d) c.accept.new.self end end c.in_ok-found.found r c.in_ok-found.ensures
    (made item_in (negate d (item_in c.in_ok-found.found)) end r c.negate.ensures)))

pub negation-returns : goal.negation-returns
negation-returns t c =
    let d = c.args.limit in
    let start = c.args.cursor.now in
    let end = c.test-2.new.cursor in
    let r = c.test-2.result in
    by_rule item_in (read_negation d) (λ ws. if_some (after kind.Not ws) (negated_test d) (read_test d ws)) start end r (negation_step d)
    (on_other item_in (after kind.Not) (negated_test d) (read_test d) start c.accept.new.self end r c.if-accept.ensures c.test-2.ensures)

pub operand-returns-in-Or : goal.operand-returns-in-Or
operand-returns-in-Or t c =
    let d = c.args.limit in
    let r = c.chain.result in
    subst (λ k. ReadsAs item_in (read_operand k d) c.args.cursor.now r c.chain.new.cursor) (sym c.in-Or.is)
    (by_rule item_in (read_conjunction d) (λ ws. then_read (read_negation d ws) (more_by And d (read_negation d) d)) c.args.cursor.now c.chain.new.cursor r (conjunction_is d) c.chain.ensures)

pub item-returns : goal.item-returns
item-returns t c =
    let d = c.args.limit in
    by_rule item_in (read_item d) (λ ws. then_read (read_conjunction d ws) (more_by Or d (read_conjunction d) d)) c.args.cursor.now c.chain.new.cursor c.chain.result (item_is d) c.chain.ensures

pub operands-returns-in_err-both : goal.operands-returns-in_err-both
operands-returns-in_err-both t c =
    let k = c.args.connective in
    let d = c.args.limit in
    let n = c.args.most in
    let i = item_in c.args.left in
    let F = read_operand k d in
    let start = c.args.cursor.now in
    let middle = c.accept_connective.new.cursor in
    let end = c.operand.new.cursor in
    let r = c.from_residual-in_err-both.result in
    by_rule item_in (more_by k d F n i) (λ ws. if_some (after_truth k i ws) (operand_more k d F n i) (Some (i, ws))) start end r (λ ws. more_step k d F n i ws c.if-most-eq0.false)
    (on_word item_in (after_truth k i) (operand_more k d F n i) (λ ws. Some (i, ws)) start middle end r c.if-not-accept_connective.ensures
    (then_reads item_in item_in F (λ j more. then_read (connection_from k d i j more) (more_by k d F (n - 1))) middle c.operand.new.cursor end c.in_ok-right.right r c.in_ok-right.ensures
    (makes_told item_in item_in (connection_from k d i (item_in c.in_ok-right.right)) (more_by k d F (n - 1)) end r c.in_err-both.field-0.0 c.in_err-both.ensures c.from_residual-in_err-both.ensures)))

pub operands-returns : goal.operands-returns
operands-returns t c =
    let k = c.args.connective in
    let d = c.args.limit in
    let n = c.args.most in
    let i = item_in c.args.left in
    let F = read_operand k d in
    let start = c.args.cursor.now in
    let middle = c.accept_connective.new.cursor in
    let end = c.operands.new.cursor in
    let r = c.operands.result in
    by_rule item_in (more_by k d F n i) (λ ws. if_some (after_truth k i ws) (operand_more k d F n i) (Some (i, ws))) start end r (λ ws. more_step k d F n i ws c.if-most-eq0.false)
    (on_word item_in (after_truth k i) (operand_more k d F n i) (λ ws. Some (i, ws)) start middle end r c.if-not-accept_connective.ensures
    (then_reads item_in item_in F (λ j more. then_read (connection_from k d i j more) (more_by k d F (n - 1))) middle c.operand.new.cursor end c.in_ok-right.right r c.in_ok-right.ensures
    (then_reads item_in item_in (connection_from k d i (item_in c.in_ok-right.right)) (more_by k d F (n - 1)) c.operand.new.cursor c.operand.new.cursor end c.in_ok-both.both r
    (made item_in (connection_from k d i (item_in c.in_ok-right.right)) c.operand.new.cursor (Ok c.in_ok-both.both) c.in_ok-both.ensures) c.operands.ensures)))

pub exists-returns-in_err-select : goal.exists-returns-in_err-select
exists-returns-in_err-select t c =
    expected_told item_in after_select (λ rest. then_read (read_from (c.args.limit - 1) rest) (close_exists c.args.limit)) c.args.cursor.now c.select.new.cursor c.from_residual.result
    c.in_err-select.field-0.0 c.in_err-select.ensures c.from_residual.ensures

pub exists-returns-in_err-found : goal.exists-returns-in_err-found
exists-returns-in_err-found t c =
    let d = c.args.limit in
    let end = c.from_range.new.cursor in
    let r = c.from_residual-in_err-found.result in
    on_expected item_in after_select (λ rest. then_read (read_from (d - 1) rest) (close_exists d)) c.args.cursor.now c.select.new.cursor end c.in_ok-select.field-0 r c.in_ok-select.ensures
    (then_told from_in item_in (read_from (d - 1)) (close_exists d) c.select.new.cursor end r c.in_err-found.field-0.0 c.in_err-found.ensures c.from_residual-in_err-found.ensures)

pub from_range-returns-in_err-expect : goal.from_range-returns-in_err-expect
from_range-returns-in_err-expect t c =
    expected_told from_in (after kind.From) (λ ws. then_read (range_from ws) (where_from (read_item c.args.limit))) c.args.cursor.now c.expect.new.self c.from_residual.result
    c.in_err-expect.field-0.0 c.in_err-expect.ensures c.from_residual.ensures

pub from_range-returns-in_err-range : goal.from_range-returns-in_err-range
from_range-returns-in_err-range t c =
    let end = c.range.new.cursor in
    let r = c.from_residual-in_err-range.result in
    on_expected from_in (after kind.From) (λ ws. then_read (range_from ws) (where_from (read_item c.args.limit))) c.args.cursor.now c.expect.new.self end c.in_ok-expect.field-0 r c.in_ok-expect.ensures
    (then_told (λ x. x) from_in range_from (where_from (read_item c.args.limit)) c.expect.new.self end r c.in_err-range.field-0.0 c.in_err-range.ensures c.from_residual-in_err-range.ensures)
