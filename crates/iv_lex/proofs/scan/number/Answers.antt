use Rattle.std.proofs.Common.{sym, arith}
use Rattle.iv_lex.proofs.Scanning.{too_large}
use Rattle.iv_lex.proofs.scan.number.Goals as goal

pub returns-then-next-from : goal.returns-then-next-from
returns-then-next-from c =
    sym (too_large c.args.digits.now c.loop-digit.value c.loop-digit.digit-index c.loop-digit.invariant.rest (omega arith) (omega arith))
