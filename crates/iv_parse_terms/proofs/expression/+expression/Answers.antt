use Rattle.std.specs.Prelude.{Some, Ok}
use Rattle.std.proofs.Common.{◌-◌}
use Rattle.iv_lex.specs.declared.kind.TokenKind.TheVariants as kind
use Rattle.iv_syntax.specs.Trees.{product, sum}
use Rattle.iv_parse_terms.specs.After.{after, if_some, then_read}
use Rattle.iv_parse_terms.specs.readers.Expressions.{after_sign, close_group, fits, more_factors, more_terms, read_expression, read_factor, read_primary, read_term, simple}
use Rattle.iv_parse_terms.specs.Seen.{tree_in}
use Rattle.iv_parse_terms.proofs.Rules.{by_rule, made, makes_told, on_word, on_other, on_part, then_reads, then_told}
use Rattle.iv_parse_terms.proofs.Steps.{opened, primary_zero, primary_step, factor_more, factors_step, term_more, terms_step}
use Rattle.iv_parse_terms.proofs.expression.+expression.Goals as goal

pub primary-returns-then-limit-eq0 : goal.primary-returns-then-limit-eq0
primary-returns-then-limit-eq0 t c = λ o l. (l, primary_zero c.args.limit _ c.if-limit-eq0.true)

pub primary-returns-in_err-inside : goal.primary-returns-in_err-inside
primary-returns-in_err-inside t c =
    let d = c.args.limit in
    let start = c.args.cursor.now in
    let end = c.expression.new.cursor in
    let r = c.from_residual.result in
    by_rule tree_in (read_primary d) (λ ws. if_some (after kind.LeftParenthesis ws) (opened d) (simple ws)) start end r (λ ws. primary_step d ws c.if-limit-eq0.false)
    (on_word tree_in (after kind.LeftParenthesis) (opened d) simple start c.accept_in_place.new.self end r c.if-accept_in_place.ensures
    (then_told tree_in tree_in (read_expression (d - 1)) (close_group d) c.accept_in_place.new.self end r c.in_err-inside.field-0.0 c.in_err-inside.ensures c.from_residual.ensures))

pub primary-returns-then-accept_in_place : goal.primary-returns-then-accept_in_place
primary-returns-then-accept_in_place t c =
    let d = c.args.limit in
    let start = c.args.cursor.now in
    let end = c.close.new.cursor in
    let r = c.close.result in
    by_rule tree_in (read_primary d) (λ ws. if_some (after kind.LeftParenthesis ws) (opened d) (simple ws)) start end r (λ ws. primary_step d ws c.if-limit-eq0.false)
    (on_word tree_in (after kind.LeftParenthesis) (opened d) simple start c.accept_in_place.new.self end r c.if-accept_in_place.ensures
    (then_reads tree_in tree_in (read_expression (d - 1)) (close_group d) c.accept_in_place.new.self c.expression.new.cursor end c.in_ok-inside.inside r c.in_ok-inside.ensures c.close.ensures))

pub primary-returns : goal.primary-returns
primary-returns t c =
    let d = c.args.limit in
    let start = c.args.cursor.now in
    let end = c.simple.new.cursor in
    let r = c.simple.result in
    by_rule tree_in (read_primary d) (λ ws. if_some (after kind.LeftParenthesis ws) (opened d) (simple ws)) start end r (λ ws. primary_step d ws c.if-limit-eq0.false)
    (on_other tree_in (after kind.LeftParenthesis) (opened d) simple start c.accept_in_place.new.self end r c.if-accept_in_place.ensures c.simple.ensures)

pub factors-returns-in_err-right : goal.factors-returns-in_err-right
factors-returns-in_err-right t c =
    let d = c.args.limit in
    let n = c.args.most in
    let a = c.args.left.tree in
    let F = read_factor c.args.limit in
    let start = c.args.cursor.now in
    let middle = c.accept_in_place.new.self in
    let end = c.factor.new.cursor in
    let r = c.from_residual.result in
    by_rule tree_in (more_factors d F n a) (λ ws. if_some (after kind.Asterisk ws) (factor_more d F n a) (Some (a, ws))) start end r (λ ws. factors_step d F n a ws c.if-most-eq0.false)
    (on_word tree_in (after kind.Asterisk) (factor_more d F n a) (λ ws. Some (a, ws)) start middle end r c.if-not-accept_in_place.ensures
    (then_told tree_in tree_in F (λ b more. then_read (fits d (product a b) more) (more_factors d F (n - 1))) middle end r c.in_err-right.field-0.0 c.in_err-right.ensures c.from_residual.ensures))

pub factors-returns-in_err-both : goal.factors-returns-in_err-both
factors-returns-in_err-both t c =
    let d = c.args.limit in
    let n = c.args.most in
    let a = c.args.left.tree in
    let F = read_factor c.args.limit in
    let start = c.args.cursor.now in
    let middle = c.accept_in_place.new.self in
    let end = c.factor.new.cursor in
    let r = c.from_residual-in_err-both.result in
    by_rule tree_in (more_factors d F n a) (λ ws. if_some (after kind.Asterisk ws) (factor_more d F n a) (Some (a, ws))) start end r (λ ws. factors_step d F n a ws c.if-most-eq0.false)
    (on_word tree_in (after kind.Asterisk) (factor_more d F n a) (λ ws. Some (a, ws)) start middle end r c.if-not-accept_in_place.ensures
    (then_reads tree_in tree_in F (λ b more. then_read (fits d (product a b) more) (more_factors d F (n - 1))) middle end end c.in_ok-right.right r c.in_ok-right.ensures
    (makes_told tree_in tree_in (fits d (product a c.in_ok-right.right.tree)) (more_factors d F (n - 1)) end r c.in_err-both.field-0.0 c.in_err-both.ensures c.from_residual-in_err-both.ensures)))

pub factors-returns : goal.factors-returns
factors-returns t c =
    let d = c.args.limit in
    let n = c.args.most in
    let a = c.args.left.tree in
    let F = read_factor c.args.limit in
    let start = c.args.cursor.now in
    let middle = c.accept_in_place.new.self in
    let end = c.factors.new.cursor in
    let r = c.factors.result in
    by_rule tree_in (more_factors d F n a) (λ ws. if_some (after kind.Asterisk ws) (factor_more d F n a) (Some (a, ws))) start end r (λ ws. factors_step d F n a ws c.if-most-eq0.false)
    (on_word tree_in (after kind.Asterisk) (factor_more d F n a) (λ ws. Some (a, ws)) start middle end r c.if-not-accept_in_place.ensures
    (then_reads tree_in tree_in F (λ b more. then_read (fits d (product a b) more) (more_factors d F (n - 1))) middle c.factor.new.cursor end c.in_ok-right.right r c.in_ok-right.ensures
    (then_reads tree_in tree_in (fits d (product a c.in_ok-right.right.tree)) (more_factors d F (n - 1)) c.factor.new.cursor c.factor.new.cursor end c.in_ok-both.both r
    (made tree_in (fits d (product a c.in_ok-right.right.tree)) c.factor.new.cursor (Ok c.in_ok-both.both) c.in_ok-both.ensures) c.factors.ensures)))

pub terms-returns-in_err-right : goal.terms-returns-in_err-right
terms-returns-in_err-right t c =
    let d = c.args.limit in
    let n = c.args.most in
    let a = c.args.left.tree in
    let F = read_term c.args.limit in
    let start = c.args.cursor.now in
    let middle = c.accept_sign.new.self in
    let end = c.term.new.cursor in
    let r = c.from_residual.result in
    by_rule tree_in (more_terms d F n a) (λ ws. if_some (after_sign ws) (λ p. term_more d F n a p.0 p.1) (Some (a, ws))) start end r (λ ws. terms_step d F n a ws c.if-most-eq0.false)
    (on_part tree_in after_sign (λ p. term_more d F n a p.0 p.1) (λ ws. Some (a, ws)) start middle end c.in-Some.sign r c.in-Some.ensures
    (then_told tree_in tree_in F (λ b more. then_read (fits d (sum c.in-Some.sign a b) more) (more_terms d F (n - 1))) middle end r c.in_err-right.field-0.0 c.in_err-right.ensures c.from_residual.ensures))

pub terms-returns-in_err-both : goal.terms-returns-in_err-both
terms-returns-in_err-both t c =
    let d = c.args.limit in
    let n = c.args.most in
    let a = c.args.left.tree in
    let F = read_term c.args.limit in
    let start = c.args.cursor.now in
    let middle = c.accept_sign.new.self in
    let end = c.term.new.cursor in
    let r = c.from_residual-in_err-both.result in
    by_rule tree_in (more_terms d F n a) (λ ws. if_some (after_sign ws) (λ p. term_more d F n a p.0 p.1) (Some (a, ws))) start end r (λ ws. terms_step d F n a ws c.if-most-eq0.false)
    (on_part tree_in after_sign (λ p. term_more d F n a p.0 p.1) (λ ws. Some (a, ws)) start middle end c.in-Some.sign r c.in-Some.ensures
    (then_reads tree_in tree_in F (λ b more. then_read (fits d (sum c.in-Some.sign a b) more) (more_terms d F (n - 1))) middle end end c.in_ok-right.right r c.in_ok-right.ensures
    (makes_told tree_in tree_in (fits d (sum c.in-Some.sign a c.in_ok-right.right.tree)) (more_terms d F (n - 1)) end r c.in_err-both.field-0.0 c.in_err-both.ensures c.from_residual-in_err-both.ensures)))

pub terms-returns : goal.terms-returns
terms-returns t c =
    let d = c.args.limit in
    let n = c.args.most in
    let a = c.args.left.tree in
    let F = read_term c.args.limit in
    let start = c.args.cursor.now in
    let middle = c.accept_sign.new.self in
    let end = c.terms.new.cursor in
    let r = c.terms.result in
    by_rule tree_in (more_terms d F n a) (λ ws. if_some (after_sign ws) (λ p. term_more d F n a p.0 p.1) (Some (a, ws))) start end r (λ ws. terms_step d F n a ws c.if-most-eq0.false)
    (on_part tree_in after_sign (λ p. term_more d F n a p.0 p.1) (λ ws. Some (a, ws)) start middle end c.in-Some.sign r c.in-Some.ensures
    (then_reads tree_in tree_in F (λ b more. then_read (fits d (sum c.in-Some.sign a b) more) (more_terms d F (n - 1))) middle c.term.new.cursor end c.in_ok-right.right r c.in_ok-right.ensures
    (then_reads tree_in tree_in (fits d (sum c.in-Some.sign a c.in_ok-right.right.tree)) (more_terms d F (n - 1)) c.term.new.cursor c.term.new.cursor end c.in_ok-both.both r
    (made tree_in (fits d (sum c.in-Some.sign a c.in_ok-right.right.tree)) c.term.new.cursor (Ok c.in_ok-both.both) c.in_ok-both.ensures) c.terms.ensures)))
