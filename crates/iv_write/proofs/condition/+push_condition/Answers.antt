use Rattle.iv_write.proofs.Steps.{exists_where_written, both_written, either_written}
use Rattle.iv_write.proofs.condition.+push_condition.Goals as goal

pub returns-in_ok-push_condition-in-ExistsWhere : goal.returns-in_ok-push_condition-in-ExistsWhere
returns-in_ok-push_condition-in-ExistsWhere t c =
    exists_where_written c.in-ExistsWhere.range c.in-ExistsWhere.a c.get.result.now c.args.condition.now
    c.args.writer.now c.push_exists-in-ExistsWhere.new.writer c.push_range-in-ExistsWhere.new.writer c.word-in-ExistsWhere.new.self c.push_condition.new.writer c.word-in-ExistsWhere-2.new.self c.word-in-ExistsWhere-2.result
    c.in-ExistsWhere.is c.get.ensures c.in_ok-push_exists-in-ExistsWhere.ensures c.in_ok-push_range-in-ExistsWhere.ensures c.in_ok-word-in-ExistsWhere.ensures c.in_ok-push_condition-in-ExistsWhere.ensures c.word-in-ExistsWhere-2.ensures

pub returns-in_ok-word-in-And : goal.returns-in_ok-word-in-And
returns-in_ok-word-in-And t c =
    both_written c.args.condition.now c.in-And.a c.in-And.b c.get-in-And.result.now c.get-in-And-2.result.now
    c.args.writer.now c.push_condition-in-And.new.writer c.word-in-And.new.self c.push_condition-in-And-2.new.writer c.push_condition-in-And-2.result
    c.in-And.is c.get-in-And.ensures c.get-in-And-2.ensures c.in_ok-push_condition-in-And.ensures c.in_ok-word-in-And.ensures c.push_condition-in-And-2.ensures

pub returns-in_ok-word-in-Or : goal.returns-in_ok-word-in-Or
returns-in_ok-word-in-Or t c =
    either_written c.args.condition.now c.in-Or.a c.in-Or.b c.get-in-Or.result.now c.get-in-Or-2.result.now
    c.args.writer.now c.push_condition-in-Or.new.writer c.word-in-Or.new.self c.push_condition-in-Or-2.new.writer c.push_condition-in-Or-2.result
    c.in-Or.is c.get-in-Or.ensures c.get-in-Or-2.ensures c.in_ok-push_condition-in-Or.ensures c.in_ok-word-in-Or.ensures c.push_condition-in-Or-2.ensures
