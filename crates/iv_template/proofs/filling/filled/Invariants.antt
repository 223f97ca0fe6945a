use Rattle.std.proofs.Common.{◌≡◌, ◌++◌, string_bytes, length}
use denote.Text.{Utf8}
use denote.Shadow.{shadow}
use Rattle.iv_template.specs.Places.{filled_text}
use Rattle.iv_template.proofs.ByHoles.{Reached}
use Rattle.iv_template.proofs.filling.filled.Given as goal

abbrev pub invariant-loop-text : goal.invariant-loop-text
invariant-loop-text l = record {
  utf8 : shadow (Utf8 l.rest);
  reached : Reached l.template l.values (string_bytes l.text) l.rest l.left;
  bytes : string_bytes l.text ++ filled_text l.rest l.left ≡ filled_text l.template l.values;
}

abbrev pub decreases-loop-text : goal.decreases-loop-text
decreases-loop-text l = length l.rest
