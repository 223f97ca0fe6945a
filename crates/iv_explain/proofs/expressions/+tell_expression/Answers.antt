use Rattle.iv_explain.proofs.Trees.{product_told, sum_told}
use Rattle.iv_explain.proofs.expressions.+tell_expression.Goals as goal

pub returns-in_ok-tell-in-Product : goal.returns-in_ok-tell-in-Product
returns-in_ok-tell-in-Product g t c =
    product_told c.args.format c.args.expression.now c.in-Product.a c.in-Product.b c.get-in-Product.result.now c.get-in-Product-2.result.now
    (g.W.Sink.state c.args.writer.now) (g.W.Sink.state c.tell_expression-in-Product.new.writer) (g.W.Sink.state c.tell-in-Product.new.writer) (g.W.Sink.state c.tell_expression-in-Product-2.new.writer) c.tell_expression-in-Product-2.result
    c.in-Product.is c.get-in-Product.ensures c.get-in-Product-2.ensures c.in_ok-tell_expression-in-Product.ensures c.in_ok-tell-in-Product.ensures c.tell_expression-in-Product-2.ensures

pub returns-in_ok-tell_operator-in-Sum : goal.returns-in_ok-tell_operator-in-Sum
returns-in_ok-tell_operator-in-Sum g t c =
    sum_told c.args.format c.in-Sum.sign c.args.expression.now c.in-Sum.a c.in-Sum.b c.get-in-Sum.result.now c.get-in-Sum-2.result.now
    (g.W.Sink.state c.args.writer.now) (g.W.Sink.state c.tell_expression-in-Sum.new.writer) (g.W.Sink.state c.tell_operator.new.writer) (g.W.Sink.state c.tell_expression-in-Sum-2.new.writer) c.tell_expression-in-Sum-2.result
    c.in-Sum.is c.get-in-Sum.ensures c.get-in-Sum-2.ensures c.in_ok-tell_expression-in-Sum.ensures c.in_ok-tell_operator-in-Sum.ensures c.tell_expression-in-Sum-2.ensures
