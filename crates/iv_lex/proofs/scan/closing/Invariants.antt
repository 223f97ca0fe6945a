use Rattle.std.proofs.Common.{◌≡◌, ◌+◌, length, option_map}
use Rattle.iv_lex.specs.Tokens.{closing}
use Rattle.iv_lex.proofs.scan.closing.Given as goal

abbrev pub invariant-loop-more : goal.invariant-loop-more
invariant-loop-more l = record {
  passed : closing l.bytes ≡ option_map (λ n. l.count + n) (closing l.rest);
  left : l.count + length l.rest ≡ length l.bytes;
}

abbrev pub decreases-loop-more : goal.decreases-loop-more
decreases-loop-more l = length l.rest
