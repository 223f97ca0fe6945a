use Rattle.std.proofs.Common.{refl, true, false, Some, None, Ok}
use Rattle.iv_lex.specs.declared.kind.TokenKind.TheVariants as kind
use Rattle.iv_parse_terms.specs.After.{after, if_some}
use Rattle.iv_parse_terms.specs.Reading.{after_both}
use Rattle.iv_parse_terms.proofs.Rules.{by_rule, on_word, on_other}
use Rattle.iv_parse_data.specs.readers.Tables.{read_deferrable}
use Rattle.iv_parse_data.proofs.Boths.{deferrable_found, deferrable_left, not_deferrable, deferrable_step}
use Rattle.iv_parse_data.proofs.characteristics.deferrable.Goals as goal

pub returns-then-accept_both : goal.returns-then-accept_both
returns-then-accept_both c =
    let middle = c.accept.new.self in
    let end = c.accept_both.new.self in
    by_rule (λ x. x) read_deferrable (λ ws. if_some (after kind.Deferrable ws) (deferrable_found true) (not_deferrable ws)) c.args.cursor.now end (Ok (Some false)) deferrable_step
    (on_other (λ x. x) (after kind.Deferrable) (deferrable_found true) not_deferrable c.args.cursor.now middle end (Ok (Some false)) c.if-accept.ensures
    (on_word (λ x. x) (after_both kind.Not kind.Deferrable) (deferrable_found false) deferrable_left middle end end (Ok (Some false)) c.if-accept_both.ensures
    (λ o l. (l, refl))))

pub returns : goal.returns
returns c =
    let middle = c.accept.new.self in
    let end = c.accept_both.new.self in
    by_rule (λ x. x) read_deferrable (λ ws. if_some (after kind.Deferrable ws) (deferrable_found true) (not_deferrable ws)) c.args.cursor.now end (Ok None) deferrable_step
    (on_other (λ x. x) (after kind.Deferrable) (deferrable_found true) not_deferrable c.args.cursor.now middle end (Ok None) c.if-accept.ensures
    (on_other (λ x. x) (after_both kind.Not kind.Deferrable) (deferrable_found false) deferrable_left middle end end (Ok None) c.if-accept_both.ensures
    (λ o l. (l, refl))))
