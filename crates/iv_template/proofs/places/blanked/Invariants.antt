use Rattle.std.proofs.Common.{◌≡◌, ◌++◌, string_bytes}
use denote.Text.{Utf8}
use denote.Shadow.{shadow}
use Rattle.iv_template.specs.Places.{blanked}
use Rattle.iv_template.proofs.places.blanked.Given as goal

abbrev pub invariant-loop-left : goal.invariant-loop-left
invariant-loop-left l = record {
  utf8 : shadow (Utf8 l.rest);
  bytes : string_bytes l.text ++ blanked l.rest l.left ≡ blanked l.template l.holes;
}

abbrev pub decreases-loop-left : goal.decreases-loop-left
decreases-loop-left l = l.left
