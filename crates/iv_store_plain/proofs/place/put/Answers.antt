use Rattle.std.proofs.Common.{◌≡◌, ◌∙◌, sym, ap, true, false, slice_set}
use Rattle.std.specs.List.{insert}
use Rattle.iv_machine.proofs.Puts.{place_of, has_number, put_adds, put_replaces}
use Rattle.iv_store_plain.proofs.place.put.Goals as goal

pub returns-then-has_number-clause-ok : goal.returns-then-has_number-clause-ok
returns-then-has_number-clause-ok c =
    let at : c.place-place.result ≡ place_of c.args.row.number c.args.rows.now.items = c.place-place.ensures.value ∙ ap (place_of c.args.row.number) c.deref.ensures.value in
    let there : has_number c.args.rows.now.items c.place-place.result c.args.row.number ≡ true =
    ap (λ l. has_number l c.place-place.result c.args.row.number) (sym c.deref-2.ensures.value) ∙ sym c.has_number.ensures.value ∙ c.if-has_number.true in
    ap (λ k. slice_set c.args.rows.now.items k c.args.row) at
    ∙ sym (put_replaces c.args.row c.args.rows.now.items (ap (λ k. has_number c.args.rows.now.items k c.args.row.number) (sym at) ∙ there))

pub returns-in_ok-insert-clause-ok : goal.returns-in_ok-insert-clause-ok
returns-in_ok-insert-clause-ok c =
    let at : c.place-place.result ≡ place_of c.args.row.number c.args.rows.now.items = c.place-place.ensures.value ∙ ap (place_of c.args.row.number) c.deref.ensures.value in
    let new : has_number c.args.rows.now.items c.place-place.result c.args.row.number ≡ false =
    ap (λ l. has_number l c.place-place.result c.args.row.number) (sym c.deref-2.ensures.value) ∙ sym c.has_number.ensures.value ∙ c.if-has_number.false in
    c.in_ok-insert.ensures.items ∙ ap (λ k. insert c.args.rows.now.items k c.args.row) at
    ∙ sym (put_adds c.args.row c.args.rows.now.items (ap (λ k. has_number c.args.rows.now.items k c.args.row.number) (sym at) ∙ new))
