use Rattle.std.proofs.Common.{refl, length}
use Rattle.std.proofs.lemmas.Option.{slice_get_read}
use Rattle.iv_exec_level.proofs.Lending.{row_body}
use Rattle.iv_exec_level.proofs.lent.row_frame.Goals as goal

pub returns-clause-body : goal.returns-clause-body
returns-clause-body c =
    row_body c.args.context.now.schema.tables c.args.trigger.now c.args.transitions.now c.args.place c.index-transitions-place.result c.at.result c.requires.fires c.requires.transitions
    (slice_get_read c.args.transitions.now (length c.args.transitions.now) c.args.place c.index-transitions-place.result refl c.requires.within c.index-transitions-place.is) c.at.ensures
