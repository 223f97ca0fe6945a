-- When the tree of a CHECK can be written.
use Rattle.std.specs.Prelude.{◌≤◌, List, [], ◌∷◌}
use Rattle.iv_syntax.specs.declared.limits.TheConstants.{DEEPEST_TREE}
use Rattle.iv_syntax.specs.Trees.{condition_depth}
use Rattle.iv_expr.specs.declared.tree.Cond.{Cond}
use Rattle.iv_resolution.specs.Scopes.{NamedColumn}
use Rattle.iv_write.specs.Spelling.{IsName}
use Rattle.iv_write.specs.Says.{ConditionCanBeWritten}
use Rattle.iv_restate.specs.Trees.{check_of}
use Rattle.iv_restate.specs.Laws.{IsCheckOver}

-- names of the language, and no reserved words
abbrev pub AreNames : List NamedColumn → Type 0
AreNames [] = Unit {0}
AreNames (c ∷ columns) = IsName c.name × AreNames columns

-- The text of the tree is that tree and no other (`says` of `write_condition`), if it is no deeper than the deepest.
abbrev pub ChecksCanBeWritten : Type 0
ChecksCanBeWritten = (columns : List NamedColumn) (c : Cond) → IsCheckOver columns c → AreNames columns → condition_depth (check_of columns c) ≤ DEEPEST_TREE
    → ConditionCanBeWritten (check_of columns c)
