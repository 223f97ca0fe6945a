use Rattle.iv_laws_answers.proofs.FittingStates.{reached_states_fit}
use Rattle.iv_laws_answers.proofs.laws.reached_states_fit.Goals as goal

pub returns : goal.returns
returns c = reached_states_fit
