use Rattle.iv_expr.proofs.Asked.{asks_one}
use Rattle.iv_expr.proofs.asking.set.Goals as goal

pub returns-then-place-len : goal.returns-then-place-len
returns-then-place-len c = record { asks = λ row texts text is h. asks_one c.args.asked.now.items row c.args.column c.args.value texts text is h }
