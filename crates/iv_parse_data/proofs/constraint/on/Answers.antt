use Rattle.std.proofs.Common.{refl, Some, None, Ok}
use Rattle.iv_lex.specs.declared.kind.TokenKind.TheVariants as kind
use Rattle.iv_parse_terms.specs.After.{if_some}
use Rattle.iv_parse_terms.specs.Reading.{after_both}
use Rattle.iv_parse_terms.proofs.Rules.{by_rule, on_word, then_reads, then_told}
use Rattle.iv_parse_data.specs.readers.Tables.{read_on, read_referential_action}
use Rattle.iv_parse_data.proofs.Boths.{action_given, action_found, action_left, on_step}
use Rattle.iv_parse_data.proofs.constraint.on.Goals as goal

pub returns-in_err-found : goal.returns-in_err-found
returns-in_err-found c =
    let e = c.args.event in
    let middle = c.accept_both.new.self in
    let end = c.action.new.cursor in
    let r = c.from_residual.result in
    by_rule (λ x. x) (read_on e) (λ ws. if_some (after_both kind.On e ws) action_found (action_left ws)) c.args.cursor.now end r (on_step e)
    (on_word (λ x. x) (after_both kind.On e) action_found action_left c.args.cursor.now middle end r c.if-accept_both.ensures
    (then_told (λ x. x) (λ x. x) read_referential_action action_given middle end r c.in_err-found.field-0.0 c.in_err-found.ensures c.from_residual.ensures))

pub returns-then-accept_both : goal.returns-then-accept_both
returns-then-accept_both c =
    let e = c.args.event in
    let middle = c.accept_both.new.self in
    let end = c.action.new.cursor in
    by_rule (λ x. x) (read_on e) (λ ws. if_some (after_both kind.On e ws) action_found (action_left ws)) c.args.cursor.now end (Ok (Some c.in_ok-found.found)) (on_step e)
    (on_word (λ x. x) (after_both kind.On e) action_found action_left c.args.cursor.now middle end (Ok (Some c.in_ok-found.found)) c.if-accept_both.ensures
    (then_reads (λ x. x) (λ x. x) read_referential_action action_given middle end end c.in_ok-found.found (Ok (Some c.in_ok-found.found)) c.in_ok-found.ensures
    (λ o l. (l, refl))))
