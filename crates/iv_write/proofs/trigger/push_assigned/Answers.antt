use Rattle.std.proofs.Common.{[], ◌∷◌, refl}
use Rattle.iv_lex.specs.declared.kind.TokenKind.TheVariants as kind
use Rattle.iv_lex.specs.Words.{name, plain}
use Rattle.iv_parse_terms.specs.Expressions.{spelling}
use Rattle.iv_write.proofs.Steps.{three}
use Rattle.iv_write.proofs.trigger.push_assigned.Goals as goal

pub returns : goal.returns
returns c =
    three c.args.writer.now c.name.new.self c.word.new.self c.push_expression.new.writer c.push_expression.result
    (name c.args.column.now ∷ []) (plain kind.Equals ∷ []) (spelling c.args.value.now)
    (name c.args.column.now ∷ plain kind.Equals ∷ spelling c.args.value.now) refl c.in_ok-name.ensures c.in_ok-word.ensures c.push_expression.ensures
