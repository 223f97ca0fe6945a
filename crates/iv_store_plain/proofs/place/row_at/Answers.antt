use Rattle.std.proofs.Common.{◌∙◌, sym, ap}
use Rattle.std.specs.Option.{option_copied}
use Rattle.iv_store_plain.proofs.Places.{found_row, other_row, no_row_there}
use Rattle.iv_store_plain.proofs.place.row_at.Goals as goal
use Rattle.iv_store_plain.proofs.place.row_at.Goals.{in_default-via-in-Some+else-row-number, in_default-via-in_default}

pub returns-in-Some : goal.returns-in-Some
returns-in-Some c =
    sym (found_row c.args.number c.place.result c.args.rows.now c.in-Some.row.now c.requires c.place.ensures.value
    (sym c.at.ensures ∙ ap option_copied c.in-Some.is) c.if-row-number.true)

pub returns-in_default : goal.returns-in_default
returns-in_default c = elim c.in_default.branch [
  | in_default-via-in-Some+else-row-number w ↦
      sym (other_row c.args.number c.place.result c.args.rows.now w.in-Some.row.now c.requires c.place.ensures.value
      (sym c.at.ensures ∙ ap option_copied w.in-Some.is) w.if-row-number.false)
  | in_default-via-in_default w ↦
      sym (no_row_there c.args.number c.place.result c.args.rows.now c.requires c.place.ensures.value
      (sym c.at.ensures ∙ ap option_copied w.in_default.is))
]
