use Rattle.std.proofs.Common.{refl}
use Rattle.iv_expr.proofs.Asked.{left_asks, left_never, right_asks, right_never}
use Rattle.iv_expr.proofs.asking.ask_equal.Goals as goal

pub returns-in-Some-clause-asks : goal.returns-in-Some-clause-asks
returns-in-Some-clause-asks g c =
    left_asks c.ask_value.result c.args.inside.now c.args.comparison c.args.left.now c.args.right.now c.in-Some.column c.args.asked.now.items c.ask_value.new.asked.items
    (c.is_equal.ensures c.if-not-is_equal.false) (c.in-Some.ensures.column c.in-Some.column refl) (c.in-Some.ensures.other c.in-Some.column refl) c.ask_value.ensures.asks

pub returns-in-Some-clause-never : goal.returns-in-Some-clause-never
returns-in-Some-clause-never g c =
    left_never c.ask_value.result c.args.inside.now c.args.comparison c.args.left.now c.args.right.now
    (c.is_equal.ensures c.if-not-is_equal.false) (c.in-Some.ensures.other c.in-Some.column refl) c.ask_value.ensures.never

pub returns-in-Some-column_asked-clause-asks : goal.returns-in-Some-column_asked-clause-asks
returns-in-Some-column_asked-clause-asks g c =
    right_asks c.ask_value-in-Some-column_asked.result c.args.inside.now c.args.comparison c.args.left.now c.args.right.now c.in-Some-column_asked.column c.args.asked.now.items c.ask_value-in-Some-column_asked.new.asked.items
    (c.is_equal.ensures c.if-not-is_equal.false) (c.in-Some-column_asked.ensures.column c.in-Some-column_asked.column refl) (c.in-Some-column_asked.ensures.other c.in-Some-column_asked.column refl)
    c.ask_value-in-Some-column_asked.ensures.asks

pub returns-in-Some-column_asked-clause-never : goal.returns-in-Some-column_asked-clause-never
returns-in-Some-column_asked-clause-never g c =
    right_never c.ask_value-in-Some-column_asked.result c.args.inside.now c.args.comparison c.args.left.now c.args.right.now
    (c.is_equal.ensures c.if-not-is_equal.false) (c.in-Some-column_asked.ensures.other c.in-Some-column_asked.column refl) c.ask_value-in-Some-column_asked.ensures.never
