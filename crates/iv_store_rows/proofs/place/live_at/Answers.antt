use Rattle.std.proofs.Common.{◌≡◌, ◌∙◌, sym, ap, None}
use Rattle.std.specs.Prelude.{slice_get}
use Rattle.std.specs.Option.{option_copied}
use Rattle.iv_store_rows.proofs.SlotLaws.{row_in, live_at_place, row_in_live, row_in_dead, row_in_other}
use Rattle.iv_store_rows.proofs.place.live_at.Goals as goal
use Rattle.iv_store_rows.proofs.place.live_at.Goals.{in_default-via-in-Some+then-slot+else-slot-number, in_default-via-in-Some+else-slot, in_default-via-in_default}

pub returns-in-Some : goal.returns-in-Some
returns-in-Some c =
    sym (live_at_place 0 c.args.number c.args.slots.now c.requires.rises
    ∙ ap (λ k. row_in c.args.number (slice_get c.args.slots.now k)) (sym c.requires.place)
    ∙ ap (row_in c.args.number) (sym c.at.ensures ∙ ap option_copied c.in-Some.is)
    ∙ row_in_live c.args.number c.in-Some.slot.now c.if-slot.true c.if-slot-number.true)

pub returns-in_default : goal.returns-in_default
returns-in_default c =
    sym (live_at_place 0 c.args.number c.args.slots.now c.requires.rises
    ∙ ap (λ k. row_in c.args.number (slice_get c.args.slots.now k)) (sym c.requires.place)
    ∙ elim c.in_default.branch as (λ _. row_in c.args.number (slice_get c.args.slots.now c.args.place) ≡ None) [
      | in_default-via-in-Some+then-slot+else-slot-number w ↦
          ap (row_in c.args.number) (sym c.at.ensures ∙ ap option_copied w.in-Some.is) ∙ row_in_other c.args.number w.in-Some.slot.now w.if-slot-number.false
      | in_default-via-in-Some+else-slot w ↦
          ap (row_in c.args.number) (sym c.at.ensures ∙ ap option_copied w.in-Some.is) ∙ row_in_dead c.args.number w.in-Some.slot.now w.if-slot.false
      | in_default-via-in_default w ↦ ap (row_in c.args.number) (sym c.at.ensures ∙ ap option_copied w.in_default.is)
    ])
