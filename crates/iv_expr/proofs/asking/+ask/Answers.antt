use Rattle.iv_expr.specs.Asking.{at_other}
use Rattle.iv_expr.specs.Evaluation.{truth}
use Rattle.iv_expr.proofs.Asked.{and_asks, and_left, and_never, and_right}
use Rattle.iv_expr.proofs.asking.+ask.Goals as goal

pub returns-then-not-branch-clause-never : goal.returns-then-not-branch-clause-never
returns-then-not-branch-clause-never g t c =
    λ no row is. c.in_ok-ask-in-And.ensures.never c.if-not-branch.true row
    (and_left (at_other c.args.inside.now row) c.args.cond.now _ _ c.get.result.now c.in-And.is c.get.ensures is)

pub returns-else-not-branch-clause-asks : goal.returns-else-not-branch-clause-asks
returns-else-not-branch-clause-asks g t c =
    and_asks c.ask-in-And.result (λ row. truth (at_other c.args.inside.now row) c.get.result.now) (λ row. truth (at_other c.args.inside.now row) c.get-in-And.result.now)
    (λ row. truth (at_other c.args.inside.now row) c.args.cond.now) c.args.asked.now.items c.ask.new.asked.items c.ask-in-And.new.asked.items
    (λ row is. and_left (at_other c.args.inside.now row) c.args.cond.now _ _ c.get.result.now c.in-And.is c.get.ensures is)
    (λ row is. and_right (at_other c.args.inside.now row) c.args.cond.now _ _ c.get-in-And.result.now c.in-And.is c.get-in-And.ensures is)
    (c.in_ok-ask-in-And.ensures.asks c.if-not-branch.false) c.ask-in-And.ensures.asks

pub returns-else-not-branch-clause-never : goal.returns-else-not-branch-clause-never
returns-else-not-branch-clause-never g t c =
    and_never c.ask-in-And.result (λ row. truth (at_other c.args.inside.now row) c.get-in-And.result.now) (λ row. truth (at_other c.args.inside.now row) c.args.cond.now)
    (λ row is. and_right (at_other c.args.inside.now row) c.args.cond.now _ _ c.get-in-And.result.now c.in-And.is c.get-in-And.ensures is)
    c.ask-in-And.ensures.never
