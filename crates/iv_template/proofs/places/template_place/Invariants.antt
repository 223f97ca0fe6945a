use Rattle.std.proofs.Common.{◌≡◌, ◌+◌, ◌-◌, ◌≤◌, length}
use denote.Text.{Utf8}
use denote.Shadow.{shadow}
use Rattle.iv_template.specs.Places.{template_place}
use Rattle.iv_template.proofs.ByHoles.{Walked}
use Rattle.iv_template.proofs.places.template_place.Given as goal

abbrev pub invariant-loop-value : goal.invariant-loop-value
invariant-loop-value l = record {
  utf8 : shadow (Utf8 l.rest);
  walked : Walked l.template l.rest;
  place : (length l.template - length l.rest) + template_place l.rest l.left l.at ≡ template_place l.template l.values l.place;
  before : (length l.template - length l.rest) + l.at ≤ l.place;
}

abbrev pub decreases-loop-value : goal.decreases-loop-value
decreases-loop-value l = length l.left
