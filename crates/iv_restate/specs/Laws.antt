-- Which resolved conditions a CHECK can have, and what their trees mean.
use Rattle.std.specs.Prelude.{◌≡◌, ◌≤◌, ℕ, pos, negsuc, List, [], ◌∷◌, Some, Ok, position, slice_get}
use Rattle.std.specs.Str.{bytes_eq}
use Rattle.iv_syntax.specs.declared.limits.TheConstants.{GREATEST_INTEGER}
use Rattle.iv_restate.specs.Types.{Value, Expr, Cond, Condition}
use Rattle.iv_restate.specs.Types.value
use Rattle.iv_restate.specs.Types.expr
use Rattle.iv_restate.specs.Types.cond
use Rattle.iv_expr.specs.Trees.{plus, minus, times, not_c, and_c, or_c, exists_c}
use Rattle.iv_expr.specs.Evaluation as evaluation
use Rattle.iv_expr.specs.Scopes.{Scope}
use Rattle.iv_resolution.specs.Scopes.{NamedColumn, NamedRange, Names, own_range}
use Rattle.iv_resolution.specs.Terms.{bound_condition, bound_expression}
use Rattle.iv_restate.specs.Trees.{literal_of}

-- a literal of the language: no number has a sign
abbrev pub IsLiteral : Value → Type 0
IsLiteral (value.Int (pos n)) = n ≤ GREATEST_INTEGER
IsLiteral (value.Int (negsuc n)) = ⊥
IsLiteral _ = Unit {0}

-- The place is that of a column, and no column before it has its name.
pub record IsColumn (columns : List NamedColumn) (place : ℕ) : Type 0 where
  pub column : NamedColumn
  pub at : slice_get columns place ≡ Some column
  pub first : position (λ (c : NamedColumn). bytes_eq column.name c.name) columns ≡ Some place
  pub small : place ≤ 4294967295

-- an expression over one row of a table with these columns
abbrev pub IsOver : List NamedColumn → Expr → Type 0
IsOver columns (expr.Literal v) = IsLiteral v
IsOver columns (expr.Column outward place) = (outward ≡ 0) × IsColumn columns place
IsOver columns (expr.Variable s place) = ⊥
IsOver columns (plus a b) = IsOver columns a × IsOver columns b
IsOver columns (minus a b) = IsOver columns a × IsOver columns b
IsOver columns (times a b) = IsOver columns a × IsOver columns b

-- a condition that a CHECK of such a table can have
abbrev pub IsCheckOver : List NamedColumn → Cond → Type 0
IsCheckOver columns cond.Always = ⊥
IsCheckOver columns (cond.Compare op a b) = IsOver columns a × IsOver columns b
IsCheckOver columns (cond.IsNull a) = IsOver columns a
IsCheckOver columns (not_c a) = IsCheckOver columns a
IsCheckOver columns (and_c a b) = IsCheckOver columns a × IsCheckOver columns b
IsCheckOver columns (or_c a b) = IsCheckOver columns a × IsCheckOver columns b
IsCheckOver columns (exists_c r a) = ⊥

-- The tree means this condition in a CHECK of a table with these columns, whatever the table is called and which others there are.
abbrev pub MeansCheck : List NamedColumn → Cond → Condition → Type 0
MeansCheck columns c tree = (names : Names) (table : List ℕ) → bound_condition names (own_range table columns ∷ []) tree ≡ c

abbrev pub CheckIsItself : List NamedColumn → Cond → Condition → Type 0
CheckIsItself columns c tree = IsCheckOver columns c → MeansCheck columns c tree

-- ---- values of rows

-- an integer of 64 bits
abbrev pub IsStored : Value → Type 0
IsStored (value.Int (pos n)) = n ≤ GREATEST_INTEGER
IsStored (value.Int (negsuc n)) = n ≤ GREATEST_INTEGER
IsStored _ = Unit {0}

-- the expression that a value is has that value, wherever it stands
abbrev pub LiteralsAreThemselves : Type 0
LiteralsAreThemselves = (s : Scope) (ranges : List NamedRange) (v : Value) → IsStored v → evaluation.value s (bound_expression ranges (literal_of v)) ≡ Ok v
