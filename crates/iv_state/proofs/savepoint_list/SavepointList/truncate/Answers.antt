use Rattle.std.proofs.Common.{sym}
use Rattle.std.proofs.lemmas.List.{take-map}
use Rattle.iv_state.specs.Saved.{saved_of}
use Rattle.iv_state.proofs.savepoint_list.SavepointList.truncate.Goals as goal

pub returns : goal.returns
returns c = rw (← c.self.view_is, c.truncate.ensures.entries) (sym (take-map saved_of c.args.count c.self.inside.modes.entries))
