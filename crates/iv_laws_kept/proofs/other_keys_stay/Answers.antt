use Rattle.iv_laws_kept.proofs.OtherKeys.{other_keys_stay}
use Rattle.iv_laws_kept.proofs.other_keys_stay.Goals as goal

pub returns : goal.returns
returns c = other_keys_stay
