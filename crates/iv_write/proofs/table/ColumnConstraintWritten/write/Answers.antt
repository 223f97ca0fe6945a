use Rattle.std.proofs.Common.{refl}
use Rattle.iv_write.specs.Tables.{column_constraint_words, column_rule_words, constraint_name_words, time_words}
use Rattle.iv_write.proofs.Steps.{three}
use Rattle.iv_write.proofs.table.ColumnConstraintWritten.write.Goals as goal

pub returns : goal.returns
returns c =
    three c.args.writer.now c.push_constraint_name.new.writer c.push_column_rule.new.writer c.push_time.new.writer c.push_time.result
    (constraint_name_words c.args.self.now.name) (column_rule_words c.args.self.now.rule) (time_words c.args.self.now.time)
    (column_constraint_words c.args.self.now) refl c.in_ok-push_constraint_name.ensures c.in_ok-push_column_rule.ensures c.push_time.ensures
