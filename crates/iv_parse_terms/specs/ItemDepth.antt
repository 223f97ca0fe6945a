-- How deep the condition of a WHERE is.
use Rattle.std.specs.Prelude.{ℕ, Option, Some, None}
use Rattle.iv_parse_terms.specs.Types.{Condition}
use Rattle.iv_syntax.specs.Trees.{condition_depth}

-- 0 where there is none
abbrev pub where_depth : Option Condition → ℕ
where_depth None = 0
where_depth (Some c) = condition_depth c
