use Rattle.iv_text.specs.Conditions.{expression_text}
use Rattle.iv_text.proofs.ConditionLemmas.{enclosed_told, minus_told, plus_told, times_told, unsigned_told}
use Rattle.iv_text.proofs.condition.+tell_expression.Goals as goal

pub tell_expression-returns-in_ok-tell-in-Plus : goal.tell_expression-returns-in_ok-tell-in-Plus
tell_expression-returns-in_ok-tell-in-Plus g t c =
    plus_told c.args.format c.args.shown c.args.columns.now c.args.row.now c.is_sum-enclosed.result c.args.expr.now c.in-Plus.a c.in-Plus.b c.get-a.result.now c.get-b.result.now
    (g.W.Sink.state c.args.writer.now) (g.W.Sink.state c.tell_expression.new.writer) (g.W.Sink.state c.tell-in-Plus.new.writer) (g.W.Sink.state c.tell_operand.new.writer) c.tell_operand.result
    c.in-Plus.is c.get-a.ensures c.get-b.ensures c.is_sum-enclosed.ensures c.in_ok-tell_expression-in-Plus.ensures c.in_ok-tell-in-Plus.ensures c.tell_operand.ensures

pub tell_expression-returns-in_ok-tell_minus-in-Minus :
    goal.tell_expression-returns-in_ok-tell_minus-in-Minus
tell_expression-returns-in_ok-tell_minus-in-Minus g t c =
    minus_told c.args.format c.args.shown c.args.columns.now c.args.row.now c.is_signed-signed.result c.is_sum-enclosed-in-Minus.result c.args.expr.now c.in-Minus.a c.in-Minus.b c.get-a-in-Minus.result.now c.get-b-in-Minus.result.now
    (g.W.Sink.state c.args.writer.now) (g.W.Sink.state c.tell_minus.new.writer) (g.W.Sink.state c.tell_operand-in-Minus.new.writer) c.tell_operand-in-Minus.result
    c.in-Minus.is c.get-a-in-Minus.ensures c.get-b-in-Minus.ensures c.is_signed-signed.ensures c.is_sum-enclosed-in-Minus.ensures c.in_ok-tell_minus-in-Minus.ensures c.tell_operand-in-Minus.ensures

pub tell_expression-returns-in_ok-tell-in-Times : goal.tell_expression-returns-in_ok-tell-in-Times
tell_expression-returns-in_ok-tell-in-Times g t c =
    times_told c.args.format c.args.shown c.args.columns.now c.args.row.now c.is_sum-left.result c.is_operation-right.result c.args.expr.now c.in-Times.a c.in-Times.b c.get-a-in-Times.result.now c.get-b-in-Times.result.now
    (g.W.Sink.state c.args.writer.now) (g.W.Sink.state c.tell_operand-in-Times.new.writer) (g.W.Sink.state c.tell-in-Times.new.writer) (g.W.Sink.state c.tell_operand-in-Times-2.new.writer) c.tell_operand-in-Times-2.result
    c.in-Times.is c.get-a-in-Times.ensures c.get-b-in-Times.ensures c.is_sum-left.ensures c.is_operation-right.ensures c.in_ok-tell_operand-in-Times.ensures c.in_ok-tell-in-Times.ensures c.tell_operand-in-Times-2.ensures

pub tell_operand-returns-in_ok-tell_expression : goal.tell_operand-returns-in_ok-tell_expression
tell_operand-returns-in_ok-tell_expression g t c =
    enclosed_told c.args.format c.args.enclosed (expression_text c.args.shown c.args.columns.now c.args.row.now c.args.expr.now)
    (g.W.Sink.state c.args.writer.now) (g.W.Sink.state c.tell.new.writer) (g.W.Sink.state c.tell_expression.new.writer) (g.W.Sink.state c.tell-then-enclosed.new.writer) c.tell-then-enclosed.result
    c.if-enclosed.true c.in_ok-tell.ensures c.in_ok-tell_expression.ensures c.tell-then-enclosed.ensures

pub tell_minus-returns-in_ok-tell_expression : goal.tell_minus-returns-in_ok-tell_expression
tell_minus-returns-in_ok-tell_expression g t c =
    unsigned_told c.args.format c.args.signed (expression_text c.args.shown c.args.columns.now c.args.row.now c.args.a.now)
    (g.W.Sink.state c.args.writer.now) (g.W.Sink.state c.tell_expression.new.writer) (g.W.Sink.state c.tell-else-signed.new.writer) c.tell-else-signed.result
    c.if-signed.false c.in_ok-tell_expression.ensures c.tell-else-signed.ensures
