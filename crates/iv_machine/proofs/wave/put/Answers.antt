use Rattle.std.proofs.Common.{◌≡◌, ◌≤◌, ◌∙◌, sym, ap, length, false}
use Rattle.std.specs.List.{insert}
use Rattle.iv_machine.proofs.Puts.{place_of, has_number, put_adds, place_within}
use Rattle.iv_machine.proofs.wave.put.Goals as goal

pub insert-requires : goal.insert-requires
insert-requires c =
    let within : c.place-at.result ≤ length c.deref.result.now = rw (c.place-at.ensures) (place_within c.args.row.number c.deref.result.now) in
    rw (← c.deref.ensures.len) within

pub returns-in_ok-insert : goal.returns-in_ok-insert
returns-in_ok-insert c =
    let at : c.place-at.result ≡ place_of c.args.row.number c.args.rows.now.items = c.place-at.ensures ∙ ap (place_of c.args.row.number) c.deref.ensures.value in
    let new : has_number c.args.rows.now.items c.place-at.result c.args.row.number ≡ false =
    ap (λ l. has_number l c.place-at.result c.args.row.number) (sym c.deref-2.ensures.value) ∙ sym c.has_number.ensures.value ∙ c.if-has_number.false in
    c.in_ok-insert.ensures.items ∙ ap (λ k. insert c.args.rows.now.items k c.args.row) at
    ∙ sym (put_adds c.args.row c.args.rows.now.items (ap (λ k. has_number c.args.rows.now.items k c.args.row.number) (sym at) ∙ new))
