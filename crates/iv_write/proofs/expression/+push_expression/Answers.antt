use Rattle.iv_write.proofs.Steps.{product_written, sum_written}
use Rattle.iv_write.proofs.expression.+push_expression.Goals as goal

pub returns-in_ok-word-in-Product : goal.returns-in_ok-word-in-Product
returns-in_ok-word-in-Product t c =
    product_written c.args.expression.now c.in-Product.a c.in-Product.b c.get-in-Product.result.now c.get-in-Product-2.result.now
    c.args.writer.now c.push_expression-in-Product.new.writer c.word-in-Product.new.self c.push_expression-in-Product-2.new.writer c.push_expression-in-Product-2.result
    c.in-Product.is c.get-in-Product.ensures c.get-in-Product-2.ensures c.in_ok-push_expression-in-Product.ensures c.in_ok-word-in-Product.ensures c.push_expression-in-Product-2.ensures

pub returns-in_ok-push_sign-in-Sum : goal.returns-in_ok-push_sign-in-Sum
returns-in_ok-push_sign-in-Sum t c =
    sum_written c.in-Sum.sign c.args.expression.now c.in-Sum.a c.in-Sum.b c.get-in-Sum.result.now c.get-in-Sum-2.result.now
    c.args.writer.now c.push_expression-in-Sum.new.writer c.push_sign-in-Sum.new.writer c.push_expression-in-Sum-2.new.writer c.push_expression-in-Sum-2.result
    c.in-Sum.is c.get-in-Sum.ensures c.get-in-Sum-2.ensures c.in_ok-push_expression-in-Sum.ensures c.in_ok-push_sign-in-Sum.ensures c.push_expression-in-Sum-2.ensures
