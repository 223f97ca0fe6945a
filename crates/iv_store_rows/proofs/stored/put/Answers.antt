use Rattle.std.proofs.Common.{List, sym, subst}
use Rattle.iv_store_rows.specs.declared.slot.Slot.{Slot}
use Rattle.iv_store_rows.specs.Filing.{Files}
use Rattle.iv_store_rows.proofs.FilingLaws.{files_ready, files_put, filed_put, files_with}
use Rattle.iv_store_rows.proofs.stored.put.Goals as goal

pub returns-clause-files : goal.returns-clause-files
returns-clause-files c =
    let row = c.args.row in
    let slots = c.args.slots.now.items in
    let old = c.args.numbers.now.items in
    let mid = c.make_room.new.numbers.items in
    let new = c.file.new.numbers.items in
    subst (λ (l : List Slot). Files l new) (sym c.in_ok-put.ensures.ok)
    (files_with row slots new c.requires.positive c.requires.small (filed_put mid new row.table row.number c.file.ensures)
    (files_put slots mid new row.table row.number c.file.ensures
    (files_ready slots old mid row.table row.number c.in_ok-make_room.ensures.ok c.requires.files)))
