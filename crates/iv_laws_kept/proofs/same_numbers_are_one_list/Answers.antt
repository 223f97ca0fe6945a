use Rattle.iv_laws_kept.proofs.RisingNumbers.{same_numbers}
use Rattle.iv_laws_kept.proofs.same_numbers_are_one_list.Goals as goal

pub returns : goal.returns
returns c = same_numbers
