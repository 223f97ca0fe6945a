-- Which statements can be written, and what a text says that was written from some.
use Rattle.std.specs.Prelude.{◌≡◌, ℕ, Option, None, List, [], ◌∷◌}
use Rattle.iv_parse.specs.Statements.{Reads}
use Rattle.iv_parse.specs.Script.{IsScript}
use Rattle.iv_write.specs.Types.{Statement}
use Rattle.iv_write.specs.Says.{CanBeWrittenAs}

abbrev pub CanBeWritten : Statement → Type 0
CanBeWritten = CanBeWrittenAs Reads

abbrev pub AllCanBeWritten : List Statement → Type 0
AllCanBeWritten [] = Unit {0}
AllCanBeWritten (s ∷ ss) = CanBeWritten s × AllCanBeWritten ss

-- The text is a script of these statements without a fault, and has no other reading.
pub record SaysScript (text : List ℕ) (statements : List Statement) : Type 0 where
  pub is_script : IsScript text statements None
  pub is_no_other : (others : List Statement) (fault : Option ℕ) → IsScript text others fault → (others ≡ statements) × (fault ≡ None)
