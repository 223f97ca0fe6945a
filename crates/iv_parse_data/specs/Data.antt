-- Data statements: which words are INSERT, UPDATE, DELETE and SELECT.
use Rattle.std.specs.Prelude.{◌≡◌, ◌≤◌, ℕ, Option, Some, None, List, [], ◌∷◌, ◌++◌}
use Rattle.iv_lex.specs.declared.kind.TokenKind.TheVariants as kind
use Rattle.iv_lex.specs.Words.{Word, name, plain}
use Rattle.iv_parse_data.specs.Types.{Expression, ValueOrDefault, InsertSource, Insert, Condition, RangeName, SelectList, Assignment, Update, Delete, Select}
use Rattle.iv_parse_data.specs.Types.given.{Value, Default}
use Rattle.iv_parse_data.specs.Types.source
use Rattle.iv_parse_data.specs.Types.insert.{DefaultValues, Rows}
use Rattle.iv_parse_data.specs.Types.select_list
use Rattle.iv_parse_data.specs.Types.select
use Rattle.iv_parse_terms.specs.Expressions.{IsExpression}
use Rattle.iv_syntax.specs.Trees.{depth, condition_depth}
use Rattle.iv_parse_terms.specs.Conditions.{IsCondition, IsFrom}
use Rattle.iv_parse_terms.specs.ItemDepth.{where_depth}
use Rattle.iv_syntax.specs.declared.limits.TheConstants.{DEEPEST_TREE}
use Rattle.iv_parse_data.specs.Series.{Series, Maybe, InParentheses}

abbrev pub IsName : List Word → List ℕ → Type 0
IsName ws n = ws ≡ name n ∷ []

-- names with commas between them
abbrev pub Names : List Word → List (List ℕ) → Type 0
Names = Series IsName

-- an expression whose tree is no deeper than DEEPEST_TREE
abbrev pub IsShallow : List Word → Expression → Type 0
IsShallow ws e = IsExpression ws e × (depth e ≤ DEEPEST_TREE)

-- a condition whose tree is no deeper than DEEPEST_TREE
abbrev pub IsShallowCondition : List Word → Condition → Type 0
IsShallowCondition ws c = IsCondition ws c × (condition_depth c ≤ DEEPEST_TREE)

-- expression | DEFAULT
abbrev pub IsValue : List Word → ValueOrDefault → Type 0
IsValue ws (Value e) = IsShallow ws e
IsValue ws Default = ws ≡ plain kind.Default ∷ []

-- ( value {, value} )
abbrev pub IsTuple : List Word → List ValueOrDefault → Type 0
IsTuple = InParentheses (Series IsValue)

-- [ ( names ) ]
abbrev pub IsColumnList : List Word → Option (List (List ℕ)) → Type 0
IsColumnList ws None = ws ≡ []
IsColumnList ws (Some ns) = InParentheses Names ws ns

-- FROM, a table, its alias and WHERE with a condition no deeper than DEEPEST_TREE
abbrev pub IsShallowFrom : List Word → RangeName × Option Condition → Type 0
IsShallowFrom ws p = IsFrom ws p.0 p.1 × (where_depth p.1 ≤ DEEPEST_TREE)

-- * | expression {, expression}
abbrev pub IsSelectList : List Word → SelectList → Type 0
IsSelectList ws select_list.Star = ws ≡ plain kind.Asterisk ∷ []
IsSelectList ws (select_list.Values es) = Series IsShallow ws es

-- SELECT list from
abbrev pub IsQuery : List Word → SelectList → RangeName → Option Condition → Type 0
IsQuery ws l r c =
    (list : List Word) × (from : List Word) × IsSelectList list l × IsShallowFrom from (r, c) × (ws ≡ plain kind.Select ∷ (list ++ from))

-- VALUES tuple {, tuple} | SELECT list from
abbrev pub IsSource : List Word → InsertSource → Type 0
IsSource ws (source.Values ts) = (inner : List Word) × Series IsTuple inner ts × (ws ≡ plain kind.Values ∷ inner)
IsSource ws (source.Select l r c) = IsQuery ws l r c

-- INSERT INTO table, and then DEFAULT VALUES or columns and a source
abbrev pub IsInsert : List Word → Insert → Type 0
IsInsert ws (DefaultValues t) = ws ≡ plain kind.Insert ∷ plain kind.Into ∷ name t ∷ plain kind.Default ∷ plain kind.Values ∷ []
IsInsert ws (Rows t cs s) =
    (columns : List Word) × (rows : List Word) × IsColumnList columns cs × IsSource rows s
    × (ws ≡ plain kind.Insert ∷ plain kind.Into ∷ name t ∷ (columns ++ rows))

-- column = value
abbrev pub IsAssignment : List Word → Assignment → Type 0
IsAssignment ws a = (value : List Word) × IsValue value a.value × (ws ≡ name a.column ∷ plain kind.Equals ∷ value)

-- WHERE condition
abbrev pub IsWhere : List Word → Condition → Type 0
IsWhere ws c = (inner : List Word) × IsShallowCondition inner c × (ws ≡ plain kind.Where ∷ inner)

-- UPDATE table SET assignment {, assignment} [ WHERE condition ]
abbrev pub IsUpdate : List Word → Update → Type 0
IsUpdate ws u =
    (list : List Word) × (filter : List Word) × Series IsAssignment list u.assignments × Maybe IsWhere filter u.filter
    × (ws ≡ plain kind.Update ∷ name u.table ∷ plain kind.Set ∷ (list ++ filter))

-- DELETE FROM table [ WHERE condition ]
abbrev pub IsDelete : List Word → Delete → Type 0
IsDelete ws d = (filter : List Word) × Maybe IsWhere filter d.filter × (ws ≡ plain kind.Delete ∷ plain kind.From ∷ name d.table ∷ filter)

-- SELECT < COUNT ( * ) | list > from
abbrev pub IsSelect : List Word → Select → Type 0
IsSelect ws (select.Count r c) =
    (from : List Word) × IsShallowFrom from (r, c)
    × (ws ≡ plain kind.Select ∷ plain kind.Count ∷ plain kind.LeftParenthesis ∷ plain kind.Asterisk ∷ plain kind.RightParenthesis ∷ from)
IsSelect ws (select.Rows l r c) = IsQuery ws l r c
