use Rattle.std.proofs.Common.{refl, length}
use Rattle.std.proofs.lemmas.Option.{slice_get_read}
use Rattle.iv_exec_level.proofs.Lending.{can_fire}
use Rattle.iv_exec_level.proofs.lent.trigger_at.Goals as goal

pub returns-clause-fires : goal.returns-clause-fires
returns-clause-fires c =
    can_fire c.args.context.now.schema.tables c.args.triggers.now c.args.place c.index-triggers-place.result c.requires.short c.requires.suit
    (slice_get_read c.args.triggers.now (length c.args.triggers.now) c.args.place c.index-triggers-place.result refl c.requires.within c.index-triggers-place.is)
