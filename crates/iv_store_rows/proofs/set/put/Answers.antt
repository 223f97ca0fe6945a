use Rattle.std.proofs.Common.{◌≡◌, ◌∙◌, sym, ap, true, false, slice_set}
use Rattle.std.specs.List.{insert}
use Rattle.iv_store_rows.specs.declared.slot.Slot.{Slot}
use Rattle.iv_store_rows.specs.ByNumber.{place_by}
use Rattle.iv_store_rows.specs.InSlots.{slot_number}
use Rattle.iv_store_rows.proofs.ByNumber.{has_at, adds, replaces}
use Rattle.iv_store_rows.proofs.set.put.Goals as goal

pub returns-then-is_there-clause-ok : goal.returns-then-is_there-clause-ok
returns-then-is_there-clause-ok c =
    let slots = c.args.slots.now.items in
    let slot : Slot = record { row = c.args.row; is_live = true } in
    let at : c.place-place.result ≡ place_by slot_number c.args.row.number slots =
    c.place-place.ensures.value ∙ ap (place_by slot_number c.args.row.number) c.deref.ensures.value in
    let there : has_at slot_number slots c.place-place.result c.args.row.number ≡ true =
    ap (λ l. has_at slot_number l c.place-place.result c.args.row.number) (sym c.deref-2.ensures.value) ∙ sym c.has_number-is_there.ensures.value
    ∙ c.if-is_there.true in
    ap (λ k. slice_set slots k slot) at
    ∙ sym (replaces slot_number slot slots (ap (λ k. has_at slot_number slots k c.args.row.number) (sym at) ∙ there))

pub returns-in_ok-insert-clause-ok : goal.returns-in_ok-insert-clause-ok
returns-in_ok-insert-clause-ok c =
    let slots = c.args.slots.now.items in
    let slot : Slot = record { row = c.args.row; is_live = true } in
    let at : c.place-place.result ≡ place_by slot_number c.args.row.number slots =
    c.place-place.ensures.value ∙ ap (place_by slot_number c.args.row.number) c.deref.ensures.value in
    let new : has_at slot_number slots c.place-place.result c.args.row.number ≡ false =
    ap (λ l. has_at slot_number l c.place-place.result c.args.row.number) (sym c.deref-2.ensures.value) ∙ sym c.has_number-is_there.ensures.value
    ∙ c.if-is_there.false in
    c.in_ok-insert.ensures.items ∙ ap (λ k. insert slots k slot) at
    ∙ sym (adds slot_number slot slots (ap (λ k. has_at slot_number slots k c.args.row.number) (sym at) ∙ new))
