use Rattle.std.proofs.Common.{◌≡◌, ◌∙◌, sym, ap, true, false, if◌then◌else◌, remove}
use Rattle.iv_machine.proofs.Puts.{place_of, has_number}
use Rattle.iv_store_plain.proofs.Places.{taken_out}
use Rattle.iv_store_plain.proofs.place.take_out.Goals as goal

pub returns-then-has_number : goal.returns-then-has_number
returns-then-has_number c =
    let at : c.place-place.result ≡ place_of c.args.number c.args.rows.now.items = c.place-place.ensures.value ∙ ap (place_of c.args.number) c.deref.ensures.value in
    let there : has_number c.args.rows.now.items c.place-place.result c.args.number ≡ true =
    ap (λ l. has_number l c.place-place.result c.args.number) (sym c.deref-2.ensures.value) ∙ sym c.has_number.ensures.value ∙ c.if-has_number.true in
    let rows = c.args.rows.now.items in
    c.remove.ensures.items ∙ ap (remove rows) at
    ∙ sym (taken_out 0 c.args.number rows c.requires
    ∙ ap (λ b. if b then remove rows (place_of c.args.number rows) else rows) (ap (λ k. has_number rows k c.args.number) (sym at) ∙ there))

pub returns-else-has_number : goal.returns-else-has_number
returns-else-has_number c =
    let at : c.place-place.result ≡ place_of c.args.number c.args.rows.now.items = c.place-place.ensures.value ∙ ap (place_of c.args.number) c.deref.ensures.value in
    let none : has_number c.args.rows.now.items c.place-place.result c.args.number ≡ false =
    ap (λ l. has_number l c.place-place.result c.args.number) (sym c.deref-2.ensures.value) ∙ sym c.has_number.ensures.value ∙ c.if-has_number.false in
    let rows = c.args.rows.now.items in
    sym (taken_out 0 c.args.number rows c.requires
    ∙ ap (λ b. if b then remove rows (place_of c.args.number rows) else rows) (ap (λ k. has_number rows k c.args.number) (sym at) ∙ none))
