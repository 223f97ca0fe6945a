use Rattle.std.proofs.Common.{List, sym, subst}
use Rattle.iv_store_rows.specs.declared.slot.Slot.{Slot}
use Rattle.iv_store_rows.specs.Filing.{Files}
use Rattle.iv_store_rows.proofs.FilingLaws.{files_put, filed_put, files_with}
use Rattle.iv_store_rows.proofs.stored.put_back.Goals as goal

pub returns-clause-files : goal.returns-clause-files
returns-clause-files c =
    let row = c.args.row in
    let old = c.args.numbers.now.items in
    let new = c.file.new.numbers.items in
    subst (λ (l : List Slot). Files l new) (sym c.replace.ensures)
    (files_with row c.args.slots.now.items new c.requires.positive c.requires.small (filed_put old new row.table row.number c.file.ensures)
    (files_put c.args.slots.now.items old new row.table row.number c.file.ensures c.requires.files))
