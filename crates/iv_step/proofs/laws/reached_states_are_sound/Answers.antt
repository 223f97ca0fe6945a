use Rattle.iv_step.proofs.Reached.{reached}
use Rattle.iv_step.proofs.laws.reached_states_are_sound.Goals as goal

pub returns : goal.returns
returns c = reached
