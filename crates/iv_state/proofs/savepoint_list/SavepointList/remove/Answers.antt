use Rattle.iv_catalogue.proofs.NamedLists.{remove_map}
use Rattle.iv_state.specs.Saved.{saved_of}
use Rattle.iv_state.proofs.savepoint_list.SavepointList.remove.Goals as goal

pub returns-clause-saves : goal.returns-clause-saves
returns-clause-saves c = rw (← c.self.view_is, c.shift_remove_index.ensures.entries) (remove_map saved_of c.self.inside.modes.entries c.args.place)
