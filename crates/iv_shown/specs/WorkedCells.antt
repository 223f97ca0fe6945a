-- Worked rows in buffers, by hand.
use Rattle.std.specs.Prelude.{◌≡◌, [], ◌∷◌, codes, pos, Some, None}
use Rattle.iv_value.specs.declared.value.Value.TheVariants.{Null, Int, Text}
use Rattle.iv_shown.specs.Cells.{fitting, placed, room_after, row_text}

pub record WorkedCells : Type 0 where
  pub texts : row_text (Text (codes "ab") ∷ Null ∷ Text (codes "c") ∷ []) ≡ codes "abc"
  pub room : room_after 5 (Text (codes "ab") ∷ Int (pos 7) ∷ Text (codes "c") ∷ []) ≡ Some 2
  pub no_room : room_after 2 (Text (codes "ab") ∷ Text (codes "c") ∷ []) ≡ None
  pub two_rows_of_three : fitting 4 9 ((Null ∷ Null ∷ []) ∷ (Null ∷ Null ∷ []) ∷ (Null ∷ Null ∷ []) ∷ []) ≡ 2
  pub a_text_is_too_long : fitting 9 3 ((Text (codes "ab") ∷ []) ∷ (Text (codes "cd") ∷ []) ∷ (Null ∷ []) ∷ []) ≡ 1
  pub behind_it_stays : placed (codes "abcdef") 1 (codes "XY") ≡ codes "aXYdef"
