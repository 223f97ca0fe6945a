-- The conditions of CHECKs as SQL text.
use Rattle.std.specs.Prelude.{◌≤◌, ℕ, List, Option, Some, None, option_and_then, slice_get}
use Rattle.iv_catalogue.specs.Catalogues.{Schema}
use Rattle.iv_catalogue.specs.declared.constraint.Rule.{Rule}
use Rattle.iv_catalogue.specs.declared.constraint.Rule.TheVariants.{Check}
use Rattle.iv_dump.specs.Laws.{AreNames}
use Rattle.iv_expr.specs.declared.tree.Cond.{Cond}
use Rattle.iv_resolution.specs.Scopes.{NamedColumn}
use Rattle.iv_restore.specs.Conditions.{IsReadAs}
use Rattle.iv_restate.specs.Constraints.{columns_at}
use Rattle.iv_restate.specs.Laws.{IsCheckOver, MeansCheck}
use Rattle.iv_restate.specs.Trees.{check_of}
use Rattle.iv_syntax.specs.Trees.{condition_depth}
use Rattle.iv_syntax.specs.declared.limits.TheConstants.{DEEPEST_TREE}
use Rattle.iv_write.specs.Layouts.{text_of}
use Rattle.iv_write.specs.Says.{SaysCondition}
use Rattle.iv_write.specs.Terms.{condition_words}

-- the condition of a CHECK on a table with these columns
abbrev pub check_text : List NamedColumn → Cond → List ℕ
check_text columns c = text_of (condition_words (check_of columns c))

-- a rule that isn't CHECK has none
abbrev pub rule_condition : List NamedColumn → Rule → Option (List ℕ)
rule_condition columns (Check c) = Some (check_text columns c)
rule_condition columns _ = None

-- the condition of the constraint at this place
abbrev pub constraint_condition : Schema → ℕ → Option (List ℕ)
constraint_condition s at = option_and_then (λ k. rule_condition (columns_at s.tables k.table) k.rule) (slice_get s.constraints at)

-- The text is one condition and no other, and it means just this CHECK. This holds of each condition that a CHECK can have, if the names of
-- the columns are names of the language and the condition isn't too deep.
abbrev pub SaysCheck : List NamedColumn → Cond → List ℕ → Type 0
SaysCheck columns c text =
    IsCheckOver columns c → AreNames columns → condition_depth (check_of columns c) ≤ DEEPEST_TREE
    → SaysCondition text (check_of columns c) × MeansCheck columns c (check_of columns c)

abbrev pub SaysRule : List NamedColumn → Rule → List ℕ → Type 0
SaysRule columns (Check c) text = SaysCheck columns c text
SaysRule columns _ text = ⊥

-- Read again, as the WHERE of a SELECT of its table, the text of a CHECK means its condition. No other rule has a text.
abbrev pub ReadsRule : Schema → ℕ → Rule → List ℕ → Type 0
ReadsRule schema table (Check c) text = IsReadAs schema table text c
ReadsRule schema table _ text = ⊥
