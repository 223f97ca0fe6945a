use Rattle.std.proofs.Common.{◌≡◌, ◌<◌, length, sym, ap, ◌∙◌, arith, get_or}
use Rattle.std.proofs.lemmas.Str.{IsCharBoundary-after_ascii}
use Rattle.iv_template.proofs.Found.{fault_within}
use Rattle.iv_template.proofs.holes.next_hole.Goals as goal

pub bounds-as_bytes-place : goal.bounds-as_bytes-place
bounds-as_bytes-place c =
    omega (arith, fault_within c.args.text.now c.in-Some.place (ap (λ l. l.fault) (sym c.in_ok-lexed.ensures) ∙ c.in-Some.is), c.as_bytes.ensures.len)

pub range_from-requires : goal.range_from-requires
range_from-requires c _ =
    IsCharBoundary-after_ascii c.args.text.now c.in-Some.place c.utf8.text
    (fault_within c.args.text.now c.in-Some.place (ap (λ l. l.fault) (sym c.in_ok-lexed.ensures) ∙ c.in-Some.is))
    (let e : get_or c.args.text.now c.in-Some.place 0 ≡ 63 = ap (λ z. get_or z c.in-Some.place 0) (sym c.as_bytes.ensures.value) ∙ c.if-as_bytes-place-ne63.false in omega (arith, e))

pub overflow_add-result : goal.overflow_add-result
overflow_add-result c =
    let w : c.in-Some.place < length c.args.text.now = fault_within c.args.text.now c.in-Some.place (ap (λ l. l.fault) (sym c.in_ok-lexed.ensures) ∙ c.in-Some.is) in
    omega (arith, w, c.requires)
