use Rattle.std.proofs.Common.{[], ◌∷◌, refl}
use Rattle.iv_lex.specs.declared.kind.TokenKind.TheVariants as kind
use Rattle.iv_lex.specs.Words.{name, plain}
use Rattle.iv_parse_terms.specs.Expressions.{spelling}
use Rattle.iv_write.proofs.Steps.{four}
use Rattle.iv_write.proofs.trigger.push_set.Goals as goal

pub returns : goal.returns
returns c =
    four c.args.writer.now c.word.new.self c.name.new.self c.word-2.new.self c.push_assigned.new.writer c.push_assigned.result
    (plain kind.Set ∷ []) (name c.args.variable.now ∷ []) (plain kind.Period ∷ []) (name c.args.column.now ∷ plain kind.Equals ∷ spelling c.args.value.now)
    (plain kind.Set ∷ name c.args.variable.now ∷ plain kind.Period ∷ name c.args.column.now ∷ plain kind.Equals ∷ spelling c.args.value.now) refl c.in_ok-word.ensures c.in_ok-name.ensures c.in_ok-word-2.ensures c.push_assigned.ensures
