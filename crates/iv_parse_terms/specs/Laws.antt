-- What is read of expressions, conditions and FROM, against the grammar.
use Rattle.std.specs.Prelude.{◌≡◌, ◌≤◌, Option, Some, List, ◌++◌}
use Rattle.iv_lex.specs.Words.{Word}
use Rattle.iv_parse_terms.specs.Types.{Expression, RangeName, Condition}
use Rattle.iv_syntax.specs.declared.limits.TheConstants.{DEEPEST_TREE}
use Rattle.iv_parse_terms.specs.ItemDepth.{where_depth}
use Rattle.iv_parse_terms.specs.Expressions.{IsExpression, EndsExpression}
use Rattle.iv_syntax.specs.Trees.{depth, condition_depth}
use Rattle.iv_parse_terms.specs.readers.Expressions.{read_expression}
use Rattle.iv_parse_terms.specs.Conditions.{IsCondition, IsFrom, EndsCondition, EndsFrom}
use Rattle.iv_parse_terms.specs.readers.Conditions.{read_condition, read_from}

-- what is read is at the front, is an expression of the grammar, and is no deeper than DEEPEST_TREE
abbrev pub ExpressionsSound : Type 0
ExpressionsSound =
    (words rest : List Word) (e : Expression) → read_expression DEEPEST_TREE words ≡ Some (e, rest)
    → (front : List Word) × IsExpression front e × (depth e ≤ DEEPEST_TREE) × (words ≡ front ++ rest)

-- an expression no deeper than DEEPEST_TREE is read whole, whatever follows that cannot go on with it
abbrev pub ExpressionsComplete : Type 0
ExpressionsComplete =
    (words rest : List Word) (e : Expression) → IsExpression words e → depth e ≤ DEEPEST_TREE
    → EndsExpression rest → read_expression DEEPEST_TREE (words ++ rest) ≡ Some (e, rest)

-- words are at most one expression
abbrev pub OneExpression : Type 0
OneExpression = (words : List Word) (a b : Expression) → IsExpression words a → IsExpression words b → a ≡ b

-- what is read is at the front, is a condition of the grammar, and is no deeper than DEEPEST_TREE
abbrev pub ConditionsSound : Type 0
ConditionsSound =
    (words rest : List Word) (c : Condition) → read_condition DEEPEST_TREE words ≡ Some (c, rest)
    → (front : List Word) × IsCondition front c × (condition_depth c ≤ DEEPEST_TREE)
    × (words ≡ front ++ rest)

-- a condition no deeper than DEEPEST_TREE is read whole, whatever follows that cannot go on with it
abbrev pub ConditionsComplete : Type 0
ConditionsComplete =
    (words rest : List Word) (c : Condition) → IsCondition words c → condition_depth c ≤ DEEPEST_TREE
    → EndsCondition rest → read_condition DEEPEST_TREE (words ++ rest) ≡ Some (c, rest)

-- words are at most one condition
abbrev pub OneCondition : Type 0
OneCondition = (words : List Word) (a b : Condition) → IsCondition words a → IsCondition words b → a ≡ b

-- what is read is at the front, is a FROM of the grammar, and its condition is no deeper than
-- DEEPEST_TREE
abbrev pub FromSound : Type 0
FromSound =
    (words rest : List Word) (r : RangeName) (o : Option Condition)
    → read_from DEEPEST_TREE words ≡ Some ((r, o), rest)
    → (front : List Word) × IsFrom front r o × (where_depth o ≤ DEEPEST_TREE) × (words ≡ front ++ rest)

-- a FROM whose condition is no deeper than DEEPEST_TREE is read whole, whatever follows that cannot go on
-- with it
abbrev pub FromComplete : Type 0
FromComplete =
    (words rest : List Word) (r : RangeName) (o : Option Condition) → IsFrom words r o
    → where_depth o ≤ DEEPEST_TREE → EndsFrom rest → read_from DEEPEST_TREE (words ++ rest) ≡ Some ((r, o), rest)
