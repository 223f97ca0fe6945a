use Rattle.std.proofs.Common.{◌++◌, codes, rules}
use Rattle.std.specs.Fmt.{signed_decimal}
use Rattle.iv_print.specs.AccountLines.{operator_text}
use Rattle.iv_text.proofs.WriteLemmas.{writes_then}
use Rattle.iv_print.proofs.failure.write_right.Goals as goal

pub returns : goal.returns
returns g c =
    writes_then (g.W.Sink.state c.args.sink.now) (g.W.Sink.state c.write_operator.new.sink) (g.W.Sink.state c.write_integer_then.new.sink) c.write_integer_then.result
    (operator_text c.args.operator) (signed_decimal c.args.right ++ codes " is out of range") c.in_ok-write_operator.ensures (search rules)
