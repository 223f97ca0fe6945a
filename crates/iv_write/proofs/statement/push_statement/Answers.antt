use Rattle.std.proofs.Common.{[], ◌∷◌, ap}
use Rattle.iv_lex.specs.declared.kind.TokenKind.TheVariants as kind
use Rattle.iv_lex.specs.Words.{name, plain}
use Rattle.iv_parse_data.specs.Tables.{mode_kind}
use Rattle.iv_write.specs.Statements.{constraint_list_words, statement_words}
use Rattle.iv_write.proofs.Steps.{three, two}
use Rattle.iv_write.proofs.statement.push_statement.Goals as goal

pub returns-in_ok-words-in-DropTrigger : goal.returns-in_ok-words-in-DropTrigger
returns-in_ok-words-in-DropTrigger c =
    two c.args.writer.now c.words.new.self c.name.new.self c.name.result
    (plain kind.Drop ∷ plain kind.Trigger ∷ []) (name c.in-DropTrigger.trigger ∷ [])
    (statement_words c.args.statement.now) (ap statement_words c.in-DropTrigger.is) c.in_ok-words-in-DropTrigger.ensures c.name.ensures

pub returns-in_ok-words-in-Release : goal.returns-in_ok-words-in-Release
returns-in_ok-words-in-Release c =
    two c.args.writer.now c.words-in-Release.new.self c.name-in-Release.new.self c.name-in-Release.result
    (plain kind.Release ∷ plain kind.Savepoint ∷ []) (name c.in-Release.savepoint ∷ [])
    (statement_words c.args.statement.now) (ap statement_words c.in-Release.is) c.in_ok-words-in-Release.ensures c.name-in-Release.ensures

pub returns-in_ok-words-in-RollbackTo : goal.returns-in_ok-words-in-RollbackTo
returns-in_ok-words-in-RollbackTo c =
    two c.args.writer.now c.words-in-RollbackTo.new.self c.name-in-RollbackTo.new.self c.name-in-RollbackTo.result
    (plain kind.Rollback ∷ plain kind.To ∷ plain kind.Savepoint ∷ []) (name c.in-RollbackTo.savepoint ∷ [])
    (statement_words c.args.statement.now) (ap statement_words c.in-RollbackTo.is) c.in_ok-words-in-RollbackTo.ensures c.name-in-RollbackTo.ensures

pub returns-in_ok-push_constraint_list-in-SetConstraints : goal.returns-in_ok-push_constraint_list-in-SetConstraints
returns-in_ok-push_constraint_list-in-SetConstraints c =
    three c.args.writer.now c.words-in-SetConstraints.new.self c.push_constraint_list.new.writer c.push_mode.new.writer c.push_mode.result
    (plain kind.Set ∷ plain kind.Constraints ∷ []) (constraint_list_words c.in-SetConstraints.list) (plain (mode_kind c.in-SetConstraints.mode) ∷ [])
    (statement_words c.args.statement.now) (ap statement_words c.in-SetConstraints.is) c.in_ok-words-in-SetConstraints.ensures c.in_ok-push_constraint_list-in-SetConstraints.ensures c.push_mode.ensures
