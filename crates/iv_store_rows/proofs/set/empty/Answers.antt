use Rattle.std.proofs.Common.{◌≡◌, ◌∙◌, sym, ap, true, false, slice_set, slice_index_or}
use Rattle.iv_store_rows.specs.ByNumber.{place_by}
use Rattle.iv_store_rows.specs.InSlots.{slot_number, has_slot}
use Rattle.iv_store_rows.proofs.ByNumber.{has_at, has_at_place}
use Rattle.iv_store_rows.proofs.SlotLaws.{emptied_at, emptied_none}
use Rattle.iv_store_rows.proofs.set.empty.Goals as goal

pub returns-then-has_number : goal.returns-then-has_number
returns-then-has_number c =
    let slots = c.args.slots.now.items in
    let lent = c.index_mut.result.now in
    let at : c.place-place.result ≡ place_by slot_number c.args.number slots =
    c.place-place.ensures.value ∙ ap (place_by slot_number c.args.number) c.deref.ensures.value in
    let there : has_at slot_number slots c.place-place.result c.args.number ≡ true =
    ap (λ l. has_at slot_number l c.place-place.result c.args.number) (sym c.deref-2.ensures.value) ∙ sym c.has_number.ensures.value ∙ c.if-has_number.true in
    ap (λ k. slice_set slots k (record { row = lent.row; is_live = false })) at
    ∙ emptied_at 0 c.args.number slots lent lent c.requires (sym (ap (λ k. has_at slot_number slots k c.args.number) at) ∙ there)
    (c.index_mut.ensures.value ∙ ap (λ k. slice_index_or slots k lent) at)

pub returns-else-has_number : goal.returns-else-has_number
returns-else-has_number c =
    let slots = c.args.slots.now.items in
    let at : c.place-place.result ≡ place_by slot_number c.args.number slots =
    c.place-place.ensures.value ∙ ap (place_by slot_number c.args.number) c.deref.ensures.value in
    let none : has_at slot_number slots c.place-place.result c.args.number ≡ false =
    ap (λ l. has_at slot_number l c.place-place.result c.args.number) (sym c.deref-2.ensures.value) ∙ sym c.has_number.ensures.value ∙ c.if-has_number.false in
    let has : has_at slot_number slots c.place-place.result c.args.number ≡ has_slot slots c.args.number =
    ap (λ k. has_at slot_number slots k c.args.number) at ∙ has_at_place slot_number 0 c.args.number slots c.requires in
    sym (emptied_none c.args.number slots (sym has ∙ none))
