use Rattle.iv_laws_levels.proofs.Planned.{planned_states_are_sound}
use Rattle.iv_laws_levels.proofs.laws.planned_states_are_sound.Goals as goal

pub returns : goal.returns
returns c = planned_states_are_sound
