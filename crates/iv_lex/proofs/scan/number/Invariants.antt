use Rattle.std.proofs.Common.{◌≡◌, ◌<◌, ◌^◌, drop}
use Rattle.iv_lex.specs.Tokens.{value_from}
use Rattle.iv_lex.proofs.scan.number.Given as goal

abbrev pub invariant-loop-digit : goal.invariant-loop-digit
invariant-loop-digit l = record {
  small : l.value < 2 ^ 63;
  rest : value_from l.value (drop l.digit-index l.digits) ≡ value_from 0 l.digits;
}
