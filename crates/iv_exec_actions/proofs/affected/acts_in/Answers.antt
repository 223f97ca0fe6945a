use Rattle.std.proofs.Common.{◌∙◌, sym, ap}
use Rattle.iv_laws_kept.specs.FollowingWaves.{is_among}
use Rattle.iv_exec_actions.proofs.Tables.{none_acts}
use Rattle.iv_exec_actions.proofs.affected.acts_in.Goals as goal

pub returns-else-is_among : goal.returns-else-is_among
returns-else-is_among c =
    c.if-is_among.false
    ∙ sym (none_acts c.args.key.now c.args.changes.now
    (sym (c.requires c.args.key.now.referenced)
    ∙ ap (is_among c.args.tables.now) (sym c.place.ensures)
    ∙ sym c.is_among.ensures ∙ c.if-is_among.false))
