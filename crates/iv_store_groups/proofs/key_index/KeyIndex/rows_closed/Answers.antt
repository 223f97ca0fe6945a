use Rattle.std.proofs.Common.{[], refl, sym, ap, ◌∙◌, subst}
use Rattle.iv_store_groups.specs.Groups.{GroupOf}
use Rattle.iv_numbers.specs.Rows.{IsRising, no_rows}
use Rattle.iv_numbers.proofs.RowsKept.{rising_none}
use Rattle.iv_store_groups.proofs.GroupsLemmas.{Placed, placed, missing}
use Rattle.iv_store_groups.proofs.key_index.KeyIndex.rows_closed.Goals as goal

pub closed_at-requires : goal.closed_at-requires
closed_at-requires c = (placed c.args.self.now c.args.key.now c.in-Some.place (sym c.in-Some.ensures)).within

pub returns-in-Some : goal.returns-in-Some
returns-in-Some c =
    let d : GroupOf = record { key = []; held = no_rows } in
    let at : Placed c.args.self.now c.args.key.now c.in-Some.place = placed c.args.self.now c.args.key.now c.in-Some.place (sym c.in-Some.ensures) in
    ((refl, (λ _. tt), c.closed_at.follows.holds-at-none), record { stays = tt; value = c.closed_at.ensures.value d ∙ sym (ap (λ h. h.rows) (at.held_is d)); rising = c.closed_at.ensures.rising })

pub returns-in-None : goal.returns-in-None
returns-in-None c =
    let none = ap (λ h. h.rows) (missing c.args.self.now c.args.key.now (sym c.in-None.ensures)).held_is in
    ((refl, (λ _. tt), refl), record { stays = tt; value = c.none.ensures ∙ sym none; rising = subst IsRising (sym c.none.ensures) rising_none })
