use Rattle.iv_store_faults.proofs.Rooming.{room_suffices as suffices}
use Rattle.iv_store_faults.proofs.laws.room_suffices.Goals as goal

pub returns : goal.returns
returns c = suffices
