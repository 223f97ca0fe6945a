use Rattle.std.proofs.Common.{◌≡◌, length}
use denote.Text.{Utf8}
use denote.Shadow.{shadow}
use Rattle.iv_template.specs.Templates.{holes}
use Rattle.iv_template.proofs.ByHoles.{Walked}
use Rattle.iv_template.proofs.counting.count_holes.Given as goal

abbrev pub invariant-loop-after : goal.invariant-loop-after
invariant-loop-after l = record {
  utf8 : shadow (Utf8 l.rest);
  walked : Walked l.text l.rest;
  counted : holes walked.before ≡ l.count;
}

abbrev pub decreases-loop-after : goal.decreases-loop-after
decreases-loop-after l = length l.rest
