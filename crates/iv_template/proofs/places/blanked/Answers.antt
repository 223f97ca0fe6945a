use Rattle.std.proofs.Common.{◌≡◌, ◌-◌, ◌∙◌, ℕ, suc, [], ◌∷◌, ◌++◌, string_bytes, sym, ap, arith, append_assoc}
use Rattle.iv_template.specs.Places.{blanked}
use Rattle.iv_template.proofs.ByHoles.{after_hole, hole_found}
use Rattle.iv_template.proofs.PlaceProofs.{blanked_more}
use Rattle.iv_template.proofs.places.blanked.Goals as goal

pub loop-left-preserved : goal.loop-left-preserved
loop-left-preserved c =
    let text = string_bytes c.loop-left.text in
    let rest = c.loop-left.rest.now in
    let front = c.in-Some.front.now in
    let after = c.in-Some.after.now in
    let n : ℕ = c.loop-left.left - 1 in
    let h = hole_found c.in_ok-front.field-0 (c.in-Some.front, c.in-Some.after) _ _ c.in_ok-front.ensures c.in-Some.is in
    let one : suc n ≡ c.loop-left.left = omega (arith, c.loop-left-test.true) in
    record {
      utf8 = after_hole rest front after h c.loop-left.invariant.utf8;
      bytes = ap (λ z. z ++ blanked after n) c.in_ok-push_str-3.ensures.bytes
          ∙ ap (λ z. (z ++ 32 ∷ []) ++ blanked after n) c.in_ok-push_str-2.ensures.bytes
          ∙ ap (λ z. z ++ blanked after n) (append_assoc text front (32 ∷ []))
          ∙ append_assoc text (front ++ 32 ∷ []) (blanked after n)
          ∙ ap (λ z. text ++ z) (sym (blanked_more rest front after n h))
          ∙ ap (λ k. text ++ blanked rest k) one
          ∙ c.loop-left.invariant.bytes;
    }
