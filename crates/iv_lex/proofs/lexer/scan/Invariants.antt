use Rattle.std.proofs.Common.{◌≤◌, length}
use Rattle.iv_lex.proofs.Scanning.{Reached}
use Rattle.iv_lex.proofs.lexer.scan.Given as goal

abbrev pub invariant-loop-most : goal.invariant-loop-most
invariant-loop-most l = record {
  within : l.at ≤ length l.text;
  reached : Reached l.tokens l.most l.at l.text;
}

abbrev pub decreases-loop-most : goal.decreases-loop-most
decreases-loop-most l = l.most
