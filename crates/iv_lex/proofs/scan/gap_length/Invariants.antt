use Rattle.std.proofs.Common.{◌≡◌, ◌+◌, length, false}
use Rattle.iv_lex.specs.Tokens.{gap}
use Rattle.iv_lex.proofs.scan.gap_length.Given as goal

abbrev pub invariant-loop-byte : goal.invariant-loop-byte
invariant-loop-byte l = record {
  passed : l.count + gap l.comment l.rest ≡ gap false l.bytes;
  left : l.count + length l.rest ≡ length l.bytes;
}

abbrev pub decreases-loop-byte : goal.decreases-loop-byte
decreases-loop-byte l = length l.rest
