-- What a call does to what is open behind a handle.
use Rattle.std.specs.Prelude.{Option, Some, None}
use Rattle.sqlkeep_c.specs.Behind.{Behind}

-- A handle that is open stays open, and this holds of what was behind it and what is; an empty one stays empty.
abbrev pub Called : Option Behind → Option Behind → (Behind → Behind → Type 0) → Type 0
Called (Some old) (Some new) P = P old new
Called (Some old) None P = ⊥
Called None (Some new) P = ⊥
Called None None P = Unit {0}
