use Rattle.std.proofs.Common.{◌∙◌, ◌+◌, subst, ap}
use Rattle.iv_template.specs.Holes.{HasHoles, StopsFrom}
use Rattle.iv_template.proofs.ByHoles.{walked_start, walked_more, walked_end, counted_more, counted_none, after_hole, hole_found, no_hole_found, stopped_from, told_on}
use Rattle.iv_template.proofs.counting.count_holes.Goals as goal

pub loop-after-init : goal.loop-after-init
loop-after-init c = record {
  utf8 = c.utf8.text;
  walked = walked_start c.args.text.now c.utf8.text;
  counted = counted_none c.args.text.now c.utf8.text;
}

pub returns-in_err-after-clause-fault : goal.returns-in_err-after-clause-fault
returns-in_err-after-clause-fault c =
    told_on c.from_residual.result c.in_err-after.field-0.0 (StopsFrom c.args.text.now c.args.from) c.from_residual.ensures.1
    (stopped_from c.args.text.now c.loop-after.rest.now c.args.from c.loop-after.invariant.walked c.in_err-after.field-0.0 c.in_err-after.ensures.fault)

pub loop-after-preserved : goal.loop-after-preserved
loop-after-preserved c =
    let h = hole_found c.in_ok-after.field-0 (c.in-Some.field-0-0, c.in-Some.after) _ _ c.in_ok-after.ensures.hole c.in-Some.is in
    let w = c.loop-after.invariant.walked in
    record {
      utf8 = after_hole c.loop-after.rest.now c.in-Some.field-0-0.now c.in-Some.after.now h c.loop-after.invariant.utf8;
      walked = walked_more c.args.text.now c.loop-after.rest.now c.in-Some.field-0-0.now c.in-Some.after.now w h;
      counted = counted_more c.args.text.now c.loop-after.rest.now c.in-Some.field-0-0.now c.in-Some.after.now w h
          ∙ ap (λ n. n + 1) c.loop-after.invariant.counted;
    }

pub returns-clause-holes : goal.returns-clause-holes
returns-clause-holes c =
    subst (HasHoles c.args.text.now) c.loop-after.invariant.counted
    (walked_end c.args.text.now c.loop-after.rest.now c.loop-after.invariant.walked (no_hole_found c.in_ok-after.field-0 _ _ c.in_ok-after.ensures.hole c.in_default.is))
