-- The worked rows are computed.
use Rattle.std.proofs.Common.{refl}
use Rattle.iv_shown.specs.WorkedCells.{WorkedCells}

pub cells : WorkedCells
cells = record {
  texts = refl;
  room = refl;
  no_room = refl;
  two_rows_of_three = refl;
  a_text_is_too_long = refl;
  behind_it_stays = refl;
}
