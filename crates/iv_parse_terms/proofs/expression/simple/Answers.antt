use Rattle.std.specs.Prelude.{Some, List}
use Rattle.std.proofs.Common.{subst}
use Rattle.iv_lex.specs.Words.{Word}
use Rattle.iv_parse_terms.specs.After.{after_number, after_quoted, if_some}
use Rattle.iv_parse_terms.specs.Types.expression.{Number, Text}
use Rattle.iv_parse_terms.specs.readers.Expressions.{FoundExpression, null_or_column, simple}
use Rattle.iv_parse_terms.specs.Reading.{TriesPart}
use Rattle.iv_parse_terms.specs.Seen.{tree_in}
use Rattle.iv_parse_terms.proofs.Steps.{simple_is}
use Rattle.iv_parse_terms.proofs.Rules.{by_rule, on_no_part}
use Rattle.iv_parse_terms.proofs.expression.simple.Goals as goal

abbrev text_on : List Word → FoundExpression
text_on ws = if_some (after_quoted ws) (λ p. Some (Text p.0, p.1)) (null_or_column ws)

pub returns : goal.returns
returns c =
    let r = c.null_or_column.result in
    by_rule tree_in simple (λ ws. if_some (after_number ws) (λ p. Some (Number p.0, p.1)) (text_on ws)) c.args.cursor.now c.null_or_column.new.cursor r simple_is
    (on_no_part tree_in after_number (λ p. Some (Number p.0, p.1)) text_on c.args.cursor.now c.accept_number.new.self c.null_or_column.new.cursor r c.in_default.ensures
    (on_no_part tree_in after_quoted (λ p. Some (Text p.0, p.1)) null_or_column c.accept_number.new.self c.accept_quoted.new.self c.null_or_column.new.cursor r
    (subst (λ x. TriesPart after_quoted c.accept_number.new.self x c.accept_quoted.new.self) c.in_default-2.is c.in_ok-quoted.ensures)
    c.null_or_column.ensures))
