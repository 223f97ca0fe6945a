use Rattle.iv_account.proofs.KeyAsked.{asks_value}
use Rattle.iv_account.proofs.equal.ask.Goals as goal

pub returns-then-place-len : goal.returns-then-place-len
returns-then-place-len c = λ row is has. asks_value c.args.asked.now.items row c.args.column c.args.value is has
