use Rattle.std.proofs.Common.{◌∙◌, List, ap, sym, subst}
use Rattle.iv_store_rows.specs.declared.slot.Slot.{Slot}
use Rattle.iv_store_rows.specs.InSlots.{live_rows, swept}
use Rattle.iv_store_rows.specs.Filing.{Filed, Files}
use Rattle.iv_store_rows.proofs.SlotLaws.{live_swept}
use Rattle.iv_store_rows.proofs.FilingLaws.{files_alike, files_swept}
use Rattle.iv_store_rows.proofs.slots.Slots.sweep.Goals as goal

pub invariant_of-self : goal.invariant_of-self
invariant_of-self c =
    let s = c.self.inside in
    subst (λ (l : List Slot). Files l c.give_rooms_back.new.numbers.items) (sym c.keep_live.ensures)
    (files_alike (swept s.slots.items) s.numbers.items c.give_rooms_back.new.numbers.items c.give_rooms_back.ensures (files_swept s.slots.items s.numbers.items c.self.invariant))

pub returns-then-len-self : goal.returns-then-len-self
returns-then-len-self c = ap live_rows c.keep_live.ensures ∙ live_swept c.self.inside.slots.items ∙ ap (λ (v : Filed). live_rows v.slots) c.self.view_is
