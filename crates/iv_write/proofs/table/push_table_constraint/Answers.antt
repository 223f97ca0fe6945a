use Rattle.std.proofs.Common.{refl}
use Rattle.iv_write.specs.Tables.{constraint_name_words, table_constraint_words, table_rule_words, time_words}
use Rattle.iv_write.proofs.Steps.{three}
use Rattle.iv_write.proofs.table.push_table_constraint.Goals as goal

pub returns : goal.returns
returns c =
    three c.args.writer.now c.push_constraint_name.new.writer c.push_table_rule.new.writer c.push_time.new.writer c.push_time.result
    (constraint_name_words c.args.constraint.now.name) (table_rule_words c.args.constraint.now.rule) (time_words c.args.constraint.now.time)
    (table_constraint_words c.args.constraint.now) refl c.in_ok-push_constraint_name.ensures c.in_ok-push_table_rule.ensures c.push_time.ensures
