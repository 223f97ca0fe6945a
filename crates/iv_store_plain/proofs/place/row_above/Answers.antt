use Rattle.std.proofs.Common.{◌∙◌, sym, ap, drop}
use Rattle.std.proofs.lemmas.List.{take_rest}
use Rattle.iv_machine.proofs.Puts.{place_of}
use Rattle.iv_store_plain.proofs.Places.{row_above_place, first_in}
use Rattle.iv_store_plain.proofs.place.row_above.Goals as goal

pub returns : goal.returns
returns c =
    c.first_of_table.ensures
    ∙ ap (first_in c.args.table) (take_rest c.args.rows.now c.place-from.result)
    ∙ ap (λ k. first_in c.args.table (drop k c.args.rows.now)) (c.place-from.ensures.value ∙ ap (λ n. place_of n c.args.rows.now) c.saturating_add.ensures)
    ∙ sym (row_above_place 0 c.args.number c.args.table c.args.rows.now c.requires)
