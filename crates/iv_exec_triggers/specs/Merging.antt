-- The changes of two waves as those of one.
use Rattle.std.specs.Prelude.{◌≡◌, ◌≤◌, ◌++◌, length, drop, ℕ, if◌then◌else◌, nat_lt, List, [], ◌∷◌, Option, Some, None, is_none, ◌&&◌}
use Rattle.std.specs.List.{cons_option}
use Rattle.iv_expr.specs.declared.row.Change.{Change}
use Rattle.iv_expr.specs.Changes.{RisingChangesFrom, last_row}

-- a change that leaves something before or after it; a row that was added and is gone again is no change
abbrev pub kept : Change → Option Change
kept c = if is_none c.old && is_none c.new then None else Some c

-- an older and a newer change of one row
abbrev pub joined : Change → Change → Option Change
joined c d = kept (record c { new = d.new })

-- an older change, and what follows it, with newer ones
abbrev pub merged_with : Change → (List Change → List Change) → List Change → List Change
merged_with c rest [] = c ∷ rest []
merged_with c rest (d ∷ newer) =
    if nat_lt c.row d.row then c ∷ rest (d ∷ newer)
    else (if nat_lt d.row c.row then d ∷ merged_with c rest newer else cons_option (joined c d) (rest newer))

-- Older changes and newer ones, each by rising row number, as one list by rising row number.
abbrev pub merged : List Change → List Change → List Change
merged [] newer = newer
merged (c ∷ older) newer = merged_with c (merged older) newer

-- how many older and newer changes are merged
pub record Merging (older newer : List Change) (at to : ℕ) (out : List Change) : Type 0 where
  pub older_within : at ≤ length older
  pub newer_within : to ≤ length newer
  pub so_far : out ++ merged (drop at older) (drop to newer) ≡ merged older newer
  pub older_rises : RisingChangesFrom (last_row out) (drop at older)
  pub newer_rises : RisingChangesFrom (last_row out) (drop to newer)
