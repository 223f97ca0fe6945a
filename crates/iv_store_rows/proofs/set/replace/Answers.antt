use Rattle.std.proofs.Common.{◌≡◌, ◌∙◌, sym, ap, true, false, slice_set}
use Rattle.iv_store_rows.specs.declared.slot.Slot.{Slot}
use Rattle.iv_store_rows.specs.ByNumber.{place_by}
use Rattle.iv_store_rows.specs.InSlots.{slot_number}
use Rattle.iv_store_rows.proofs.ByNumber.{has_at, has_at_place, replaces, impossible}
use Rattle.iv_store_rows.proofs.set.replace.Goals as goal

pub returns-then-has_number : goal.returns-then-has_number
returns-then-has_number c =
    let slots = c.args.slots.now.items in
    let slot : Slot = record { row = c.args.row; is_live = true } in
    let at : c.place-place.result ≡ place_by slot_number c.args.row.number slots =
    c.place-place.ensures.value ∙ ap (place_by slot_number c.args.row.number) c.deref.ensures.value in
    ap (λ k. slice_set slots k slot) at
    ∙ sym (replaces slot_number slot slots (has_at_place slot_number 0 c.args.row.number slots c.requires.rises ∙ c.requires.slot))

pub returns-else-has_number : goal.returns-else-has_number
returns-else-has_number c =
    let slots = c.args.slots.now.items in
    let at : c.place-place.result ≡ place_by slot_number c.args.row.number slots =
    c.place-place.ensures.value ∙ ap (place_by slot_number c.args.row.number) c.deref.ensures.value in
    let none : has_at slot_number slots c.place-place.result c.args.row.number ≡ false =
    ap (λ l. has_at slot_number l c.place-place.result c.args.row.number) (sym c.deref-2.ensures.value) ∙ sym c.has_number.ensures.value
    ∙ c.if-has_number.false in
    let there : has_at slot_number slots c.place-place.result c.args.row.number ≡ true =
    ap (λ k. has_at slot_number slots k c.args.row.number) at ∙ has_at_place slot_number 0 c.args.row.number slots c.requires.rises ∙ c.requires.slot in
    absurd (impossible (sym there ∙ none))
