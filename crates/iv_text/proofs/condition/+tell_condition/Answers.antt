use Rattle.std.proofs.Common.{subst, sym, rules}
use Rattle.iv_text.specs.Conditions.{condition_text, is_below_not, null_operand}
use Rattle.iv_text.specs.Spelled.{spelled}
use Rattle.iv_text.specs.Writing.{Writes}
use Rattle.iv_text.proofs.ConditionLemmas.{and_told, denied_told, enclosed_told, exists_told, not_null_told, not_told, null_told, or_told}
use Rattle.iv_text.proofs.condition.+tell_condition.Goals as goal

pub tell_condition-returns-in_ok-tell_expression-in-IsNull :
    goal.tell_condition-returns-in_ok-tell_expression-in-IsNull
tell_condition-returns-in_ok-tell_expression-in-IsNull g t c =
    null_told c.args.format c.args.shown c.args.columns.now c.args.row.now c.args.cond.now c.in-IsNull.a
    (g.W.Sink.state c.args.writer.now) (g.W.Sink.state c.tell_expression.new.writer) (g.W.Sink.state c.tell-in-IsNull.new.writer) c.tell-in-IsNull.result
    c.in-IsNull.is c.in_ok-tell_expression-in-IsNull.ensures c.tell-in-IsNull.ensures

pub tell_condition-returns-in-Not : goal.tell_condition-returns-in-Not
tell_condition-returns-in-Not g t c =
    not_told c.args.format c.args.shown c.args.columns.now c.args.row.now c.args.cond.now c.in-Not.a c.get.result.now
    (g.W.Sink.state c.args.writer.now) (g.W.Sink.state c.tell_not.new.writer) c.tell_not.result
    c.in-Not.is c.get.ensures c.tell_not.ensures

pub tell_condition-returns-in_ok-tell-in-And : goal.tell_condition-returns-in_ok-tell-in-And
tell_condition-returns-in_ok-tell-in-And g t c =
    and_told c.args.format c.args.shown c.args.columns.now c.args.row.now c.is_either-left.result c.is_below_and-right.result c.args.cond.now c.in-And.a c.in-And.b c.get-a.result.now c.get-b.result.now
    (g.W.Sink.state c.args.writer.now) (g.W.Sink.state c.tell_part.new.writer) (g.W.Sink.state c.tell-in-And.new.writer) (g.W.Sink.state c.tell_part-in-And.new.writer) c.tell_part-in-And.result
    c.in-And.is c.get-a.ensures c.get-b.ensures c.is_either-left.ensures c.is_below_and-right.ensures c.in_ok-tell_part-in-And.ensures c.in_ok-tell-in-And.ensures c.tell_part-in-And.ensures

pub tell_condition-returns-in_ok-tell-in-Or : goal.tell_condition-returns-in_ok-tell-in-Or
tell_condition-returns-in_ok-tell-in-Or g t c =
    or_told c.args.format c.args.shown c.args.columns.now c.args.row.now c.is_either-right.result c.args.cond.now c.in-Or.a c.in-Or.b c.get-a-in-Or.result.now c.get-b-in-Or.result.now
    (g.W.Sink.state c.args.writer.now) (g.W.Sink.state c.tell_condition.new.writer) (g.W.Sink.state c.tell-in-Or.new.writer) (g.W.Sink.state c.tell_part-in-Or.new.writer) c.tell_part-in-Or.result
    c.in-Or.is c.get-a-in-Or.ensures c.get-b-in-Or.ensures c.is_either-right.ensures c.in_ok-tell_condition-in-Or.ensures c.in_ok-tell-in-Or.ensures c.tell_part-in-Or.ensures

pub tell_condition-returns-in-Exists : goal.tell_condition-returns-in-Exists
tell_condition-returns-in-Exists g t c =
    subst (λ x. Writes (g.W.Sink.state c.args.writer.now) (g.W.Sink.state c.tell-in-Exists.new.writer) c.tell-in-Exists.result (spelled c.args.format x))
    (sym (exists_told c.args.shown c.args.columns.now c.args.row.now _ c.args.cond.now _ c.in-Exists.is)) c.tell-in-Exists.ensures

pub tell_not-returns-in_ok-tell_expression-in-Some :
    goal.tell_not-returns-in_ok-tell_expression-in-Some
tell_not-returns-in_ok-tell_expression-in-Some g t c =
    not_null_told c.args.format c.args.shown c.args.columns.now c.args.row.now (null_operand c.args.part.now) c.in-Some.operand.now (is_below_not c.args.part.now)
    (condition_text c.args.shown c.args.columns.now c.args.row.now c.args.part.now)
    (g.W.Sink.state c.args.writer.now) (g.W.Sink.state c.tell_expression.new.writer) (g.W.Sink.state c.tell.new.writer) c.tell.result
    (search rules) c.in_ok-tell_expression-in-Some.ensures c.tell.ensures

pub tell_not-returns-in_ok-tell-in-None : goal.tell_not-returns-in_ok-tell-in-None
tell_not-returns-in_ok-tell-in-None g t c =
    denied_told c.args.format c.args.shown c.args.columns.now c.args.row.now (null_operand c.args.part.now) (is_below_not c.args.part.now)
    (condition_text c.args.shown c.args.columns.now c.args.row.now c.args.part.now)
    (g.W.Sink.state c.args.writer.now) (g.W.Sink.state c.tell-in-None.new.writer) (g.W.Sink.state c.tell_part.new.writer) c.tell_part.result
    (search rules) c.in_ok-tell-in-None.ensures (search rules)

pub tell_part-returns-in_ok-tell_condition : goal.tell_part-returns-in_ok-tell_condition
tell_part-returns-in_ok-tell_condition g t c =
    enclosed_told c.args.format c.args.enclosed (condition_text c.args.shown c.args.columns.now c.args.row.now c.args.cond.now)
    (g.W.Sink.state c.args.writer.now) (g.W.Sink.state c.tell.new.writer) (g.W.Sink.state c.tell_condition.new.writer) (g.W.Sink.state c.tell-then-enclosed.new.writer) c.tell-then-enclosed.result
    c.if-enclosed.true c.in_ok-tell.ensures c.in_ok-tell_condition.ensures c.tell-then-enclosed.ensures
