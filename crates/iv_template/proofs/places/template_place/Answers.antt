use Rattle.std.proofs.Common.{◌≡◌, ◌+◌, ◌-◌, ◌≤◌, length, sym, subst, arith}
use Rattle.iv_template.specs.Places.{template_place}
use Rattle.iv_template.proofs.ByHoles.{walked_start, walked_more, after_hole, hole_found}
use Rattle.iv_template.proofs.PlaceProofs.{place_goes_on, place_falls}
use Rattle.iv_template.proofs.places.template_place.Goals as goal

pub loop-value-init : goal.loop-value-init
loop-value-init c = record {
  utf8 = c.utf8.template;
  walked = walked_start c.args.template.now c.utf8.template;
  place = omega arith;
  before = omega arith;
}

pub loop-value-preserved : goal.loop-value-preserved
loop-value-preserved c =
    let template = c.args.template.now in
    let rest = c.loop-value.rest.now in
    let front = c.in-Some-2.front.now in
    let after = c.in-Some-2.after.now in
    let v = c.in-Some.value.now in
    let vs = c.in-Some.others.now in
    let i = c.loop-value.invariant in
    let h = hole_found c.in_ok-front.field-0 (c.in-Some-2.front, c.in-Some-2.after) _ _ c.in_ok-front.ensures c.in-Some-2.is in
    let l = subst (λ k. k ≤ c.loop-value.at) c.in_ok-filled.ensures c.if-at-filled.false in
    record {
      utf8 = after_hole rest front after h i.utf8;
      walked = walked_more template rest front after i.walked h;
      place = subst (λ k. (length template - length after) + template_place after vs (c.loop-value.at - k) ≡ template_place template c.args.values.now c.args.place) (sym c.in_ok-filled.ensures)
          (place_goes_on template rest front after v vs i.walked.passed c.loop-value.at (template_place template c.args.values.now c.args.place) i.walked.long h l
          (subst (λ z. (length template - length rest) + template_place rest z c.loop-value.at ≡ template_place template c.args.values.now c.args.place) c.in-Some.ensures.cases.0 i.place));
      before = subst (λ k. (length template - length after) + (c.loop-value.at - k) ≤ c.args.place) (sym c.in_ok-filled.ensures)
          (place_falls template rest front after v i.walked.passed c.loop-value.at c.args.place i.walked.long h l i.before);
    }
