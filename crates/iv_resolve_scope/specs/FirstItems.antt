-- The first item of REFERENCING of a name.
use Rattle.std.specs.Prelude.{ℕ, Bool, not, ◌&&◌, List, [], ◌∷◌, Option, Some, None, if◌then◌else◌}
use Rattle.std.specs.Str.{bytes_eq}
use Rattle.iv_expr.specs.declared.tree.Side.{Side}
use Rattle.iv_syntax.specs.declared.trigger.Referencing.{Referencing}
use Rattle.iv_syntax.specs.declared.trigger.TransitionName.{TransitionName}
use Rattle.iv_syntax.specs.declared.trigger.TransitionName.TheVariants.{Row, Table}
use Rattle.iv_resolution.specs.Triggers.{names_row}

-- whether the item names a row variable, or a transition table
abbrev pub names_what : TransitionName → Referencing → Bool
names_what Row i = names_row i
names_what Table i = not (names_row i)

-- the side of the first row variable of the name, or of the first transition table
abbrev pub first_side : TransitionName → List Referencing → List ℕ → Option Side
first_side what [] name = None
first_side what (i ∷ items) name = if names_what what i && bytes_eq name i.name then Some i.side else first_side what items name
