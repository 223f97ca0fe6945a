use Rattle.std.proofs.Common.{◌≡◌, ◌<◌, ◌+◌, ◌-◌, ◌∙◌, ◌++◌, ap, append_assoc, [], ◌∷◌, List, length, string_bytes, sym, subst, arith, nat_eq, true, false, refl}
use Rattle.std.specs.Prelude.{ℕ, IsUtf8}
use Rattle.std.proofs.lemmas.Str.{IsUtf8-had}
use Rattle.iv_template.specs.Templates.{Fills}
use Rattle.iv_template.specs.Holes.{IsRefused, StopsBy}
use Rattle.iv_template.specs.Literals.{literal_text}
use Rattle.iv_template.specs.Places.{filled_text}
use Rattle.iv_template.proofs.PlaceProofs.{filled_more}
use Rattle.std.proofs.lemmas.Bool.Decides.{nat_tests}
use Rattle.iv_value.specs.declared.value.Value.{Value}
use Rattle.iv_template.proofs.ByHoles.{Reached, reached_start, reached_more, reached_end, walked_more, too_few, too_many, stopped_from, stopped_behind, refused_at, after_hole, hole_found, no_hole_found, told_on}
use Rattle.iv_template.proofs.filling.filled.Goals as goal

none_left : (vs : List Value) → length vs ≡ 0 → vs ≡ []
none_left [] h = refl
none_left (v ∷ vs) h = absurd (omega (arith, h))

no_length : (n : ℕ) → true ≡ nat_eq n 0 → n ≡ 0
no_length n h = grind (arith, nat_tests)

some_left : (vs : List Value) → false ≡ nat_eq (length vs) 0 → 0 < length vs
some_left vs h = grind (arith, nat_tests)

from_start : (n : ℕ) → n ≡ 0 + n
from_start n = omega arith

pub loop-text-init : goal.loop-text-init
loop-text-init c = record {
  utf8 = c.utf8.template;
  reached = subst (λ z. Reached c.args.template.now c.args.values.now z c.args.template.now c.args.values.now) (sym c.new-text.ensures.bytes)
      (reached_start c.args.template.now c.args.values.now c.utf8.template);
  bytes = ap (λ z. z ++ filled_text c.args.template.now c.args.values.now) c.new-text.ensures.bytes;
}

pub returns-in_err-front-clause-refused : goal.returns-in_err-front-clause-refused
returns-in_err-front-clause-refused c =
    let template = c.args.template.now in
    let rest = c.loop-text.rest.now in
    let f = c.in_err-front.field-0.0 in
    told_on c.from_residual.result f (IsRefused template c.args.values.now) c.from_residual.ensures.1
    (refused_at template c.args.values.now f
    (stopped_from template rest 0 c.loop-text.invariant.reached.walked f
    (subst (λ z. StopsBy rest z f) (from_start (length template - length rest)) c.in_err-front.ensures.fault)))

pub returns-in_err-more-clause-refused : goal.returns-in_err-more-clause-refused
returns-in_err-more-clause-refused c =
    let template = c.args.template.now in
    let f = c.in_err-more.field-0.0 in
    let h = hole_found c.in_ok-front.field-0 (c.in-Some.front, c.in-Some.after) _ _ c.in_ok-front.ensures.hole c.in-Some.is in
    told_on c.from_residual-in_err-more.result f (IsRefused template c.args.values.now) c.from_residual-in_err-more.ensures.1
    (refused_at template c.args.values.now f
    (stopped_behind template c.in-Some.after.now
    (walked_more template c.loop-text.rest.now c.in-Some.front.now c.in-Some.after.now c.loop-text.invariant.reached.walked h) f
    c.in_err-more.ensures.fault))

pub returns-in_default-split_first-clause-refused :
    goal.returns-in_default-split_first-clause-refused
returns-in_default-split_first-clause-refused c =
    too_few c.args.template.now c.args.values.now (string_bytes c.loop-text.text) c.loop-text.rest.now c.in-Some.front.now c.in-Some.after.now c.in_ok-more.more
    (subst (λ z. Reached c.args.template.now c.args.values.now (string_bytes c.loop-text.text) c.loop-text.rest.now z) (none_left c.loop-text.left.now c.in_default-split_first.ensures.cases) c.loop-text.invariant.reached)
    (hole_found c.in_ok-front.field-0 (c.in-Some.front, c.in-Some.after) _ _ c.in_ok-front.ensures.hole c.in-Some.is)
    c.in_ok-more.ensures.holes

pub loop-text-preserved : goal.loop-text-preserved
loop-text-preserved c =
    let h = hole_found c.in_ok-front.field-0 (c.in-Some.front, c.in-Some.after) _ _ c.in_ok-front.ensures.hole c.in-Some.is in
    record {
      utf8 = after_hole c.loop-text.rest.now c.in-Some.front.now c.in-Some.after.now h c.loop-text.invariant.utf8;
      reached = subst (λ z. Reached c.args.template.now c.args.values.now z c.in-Some.after.now c.in-Some-split_first.others.now) (sym c.in_ok-push_filled.ensures.written)
          (reached_more c.args.template.now c.args.values.now (string_bytes c.loop-text.text) c.loop-text.rest.now c.in-Some.front.now c.in-Some.after.now c.in-Some-split_first.value.now c.in-Some-split_first.others.now
          (subst (λ z. Reached c.args.template.now c.args.values.now (string_bytes c.loop-text.text) c.loop-text.rest.now z) c.in-Some-split_first.ensures.cases.0 c.loop-text.invariant.reached)
          h c.in_ok-push_filled.ensures.small);
      bytes =
          let front = c.in-Some.front.now in
          let v = c.in-Some-split_first.value.now in
          let vs = c.in-Some-split_first.others.now in
          ap (λ z. z ++ filled_text c.in-Some.after.now vs) c.in_ok-push_filled.ensures.written
          ∙ append_assoc (string_bytes c.loop-text.text) (front ++ 32 ∷ (literal_text v ++ 32 ∷ [])) (filled_text c.in-Some.after.now vs)
          ∙ ap (λ z. string_bytes c.loop-text.text ++ z) (sym (filled_more c.loop-text.rest.now front c.in-Some.after.now v vs h))
          ∙ ap (λ z. string_bytes c.loop-text.text ++ filled_text c.loop-text.rest.now z) (sym c.in-Some-split_first.ensures.cases.0)
          ∙ c.loop-text.invariant.bytes;
    }

pub returns-then-not-is_empty-clause-refused : goal.returns-then-not-is_empty-clause-refused
returns-then-not-is_empty-clause-refused c =
    too_many c.args.template.now c.args.values.now (string_bytes c.loop-text.text) c.loop-text.rest.now c.loop-text.left.now c.loop-text.invariant.reached
    (some_left c.loop-text.left.now c.if-not-is_empty.ensures)
    (no_hole_found c.in_ok-front.field-0 _ _ c.in_ok-front.ensures.hole c.in_default.is)

pub returns-clause-filled : goal.returns-clause-filled
returns-clause-filled c =
    let n : c.loop-text.left.now ≡ [] = none_left c.loop-text.left.now (no_length (length c.loop-text.left.now) c.if-not-is_empty.ensures) in
    let e = c.in_ok-push_str.ensures.bytes in
    subst (λ z. Fills c.args.template.now c.args.values.now z) (sym e)
    (reached_end c.args.template.now c.args.values.now (string_bytes c.loop-text.text) c.loop-text.rest.now
    (subst (λ z. Reached c.args.template.now c.args.values.now (string_bytes c.loop-text.text) c.loop-text.rest.now z) n c.loop-text.invariant.reached)
    (no_hole_found c.in_ok-front.field-0 _ _ c.in_ok-front.ensures.hole c.in_default.is)
    (subst IsUtf8 e (IsUtf8-had (string_bytes c.push_str.new.self) c.push_str.new.self.ok)))

pub returns-clause-bytes : goal.returns-clause-bytes
returns-clause-bytes c =
    let n : c.loop-text.left.now ≡ [] = none_left c.loop-text.left.now (no_length (length c.loop-text.left.now) c.if-not-is_empty.ensures) in
    c.in_ok-push_str.ensures.bytes
    ∙ ap (λ z. string_bytes c.loop-text.text ++ filled_text c.loop-text.rest.now z) (sym n)
    ∙ c.loop-text.invariant.bytes
