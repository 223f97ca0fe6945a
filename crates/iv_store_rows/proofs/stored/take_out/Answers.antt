use Rattle.std.proofs.Common.{List, sym, subst}
use Rattle.iv_store_rows.specs.declared.slot.Slot.{Slot}
use Rattle.iv_store_rows.specs.Filing.{Files}
use Rattle.iv_store_rows.proofs.FilingLaws.{files_without}
use Rattle.iv_store_rows.proofs.stored.take_out.Goals as goal

pub returns-clause-files : goal.returns-clause-files
returns-clause-files c =
    let new = c.drop_number.new.numbers.items in
    subst (λ (l : List Slot). Files l new) (sym c.empty.ensures)
    (files_without c.args.number c.args.slots.now.items c.args.numbers.now.items new c.args.table c.drop_number.ensures c.requires)
