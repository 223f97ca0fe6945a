-- The condition at the front of words, read with one word of look-ahead and no deeper than a limit. What parentheses hold is read once, into
-- an item: a value or a condition that is whole.
use Rattle.std.specs.Prelude.{ℕ, zero, suc, nat_le, if◌then◌else◌, Option, Some, None, List, ◌∷◌}
use Rattle.iv_parse_terms.specs.Types.{Comparison, RangeName, Expression, Condition}
use Rattle.iv_parse_terms.specs.Types.comparison
use Rattle.iv_parse_terms.specs.Types.condition.{Compare, IsNull, IsNotNull, Exists}
use Rattle.iv_lex.specs.declared.kind.TokenKind.{TokenKind}
use Rattle.iv_lex.specs.declared.kind.TokenKind.TheVariants as kind
use Rattle.iv_lex.specs.Words.{Word, plain}
use Rattle.iv_parse_terms.specs.Items.{Item, Value, Truth}
use Rattle.iv_parse_terms.specs.declared.item.Connective.{Connective}
use Rattle.iv_parse_terms.specs.declared.item.Connective.TheVariants.{And, Or}
use Rattle.iv_syntax.specs.Trees.{group, enclosed, negated, both, either, exists_where, condition_depth}
use Rattle.iv_parse_terms.specs.After.{after, after_name, if_some, then_read}
use Rattle.iv_parse_terms.specs.readers.Expressions.{FoundExpression, fits, after_sign, simple, more_factors, more_terms, read_factor, read_term, read_expression}

-- an item and the words that are left, or none
abbrev pub FoundItem : Type 0
FoundItem = Option (Item × List Word)

abbrev pub as_item : FoundExpression → FoundItem
as_item None = None
as_item (Some p) = Some (Value p.0, p.1)

-- the condition, where it is not too deep
abbrev pub condition_fits : ℕ → Condition → List Word → FoundItem
condition_fits limit c ws = if nat_le (condition_depth c) limit then Some (Truth c, ws) else None

-- a value goes on; a condition stays as it is
abbrev pub on_value : (Expression → List Word → FoundItem) → Item → List Word → FoundItem
on_value f (Value e) ws = f e ws
on_value f (Truth c) ws = Some (Truth c, ws)

-- the item in parentheses
abbrev pub enclose : ℕ → Item → List Word → FoundItem
enclose limit (Value e) ws = as_item (fits limit (group e) ws)
enclose limit (Truth c) ws = condition_fits limit (enclosed c) ws

abbrev pub close_item : ℕ → Item → List Word → FoundItem
close_item limit i ws = if_some (after kind.RightParenthesis ws) (enclose limit i) None

-- a comparison at the front, and the words after it
abbrev pub after_comparison : List Word → Option (Comparison × List Word)
after_comparison (plain kind.Equals ∷ ws) = Some (comparison.Equal, ws)
after_comparison (plain kind.NotEquals ∷ ws) = Some (comparison.NotEqual, ws)
after_comparison (plain kind.Less ∷ ws) = Some (comparison.Less, ws)
after_comparison (plain kind.LessEquals ∷ ws) = Some (comparison.LessEqual, ws)
after_comparison (plain kind.Greater ∷ ws) = Some (comparison.Greater, ws)
after_comparison (plain kind.GreaterEquals ∷ ws) = Some (comparison.GreaterEqual, ws)
after_comparison _ = None

-- after IS: [NOT] NULL
abbrev pub null_test : ℕ → Expression → List Word → FoundItem
null_test limit a ws =
    if_some (after kind.Not ws) (λ b. if_some (after kind.Null b) (condition_fits limit (IsNotNull a)) None)
    (if_some (after kind.Null ws) (condition_fits limit (IsNull a)) None)

abbrev pub comparison_from : ℕ → Comparison → Expression → List Word → FoundItem
comparison_from limit o a ws =
    then_read (read_expression limit ws) (λ b. condition_fits limit (Compare o a b))

-- the predicate that begins with this value, or the value alone
abbrev pub predicate_from : ℕ → Expression → List Word → FoundItem
predicate_from limit a ws =
    if_some (after_comparison ws) (λ p. comparison_from limit p.0 a p.1)
    (if_some (after kind.Is ws) (null_test limit a) (Some (Value a, ws)))

-- an alias, with AS or without, where there is one
abbrev pub alias_from : List Word → Option (Option (List ℕ) × List Word)
alias_from ws =
    if_some (after kind.As ws) (λ rest. then_read (after_name rest) (λ n more. Some (Some n, more)))
    (if_some (after_name ws) (λ p. Some (Some p.0, p.1)) (Some (None, ws)))

-- a table and its alias
abbrev pub range_from : List Word → Option (RangeName × List Word)
range_from ws =
    then_read (after_name ws) (λ t rest. then_read (alias_from rest) (λ a more. Some (record { table = t; alias = a }, more)))

abbrev pub with_condition : RangeName → Item → List Word → Option ((RangeName × Option Condition) × List Word)
with_condition r (Value e) ws = None
with_condition r (Truth c) ws = Some ((r, Some c), ws)

abbrev pub where_from : (List Word → FoundItem) → RangeName → List Word → Option ((RangeName × Option Condition) × List Word)
where_from conditions r ws = if_some (after kind.Where ws) (λ rest. then_read (conditions rest) (with_condition r)) (Some ((r, None), ws))

-- FROM, a table, its alias and WHERE with a condition
abbrev pub from_by : (List Word → FoundItem) → List Word → Option ((RangeName × Option Condition) × List Word)
from_by conditions ws = if_some (after kind.From ws) (λ rest. then_read (range_from rest) (where_from conditions)) None

abbrev pub exists_over : RangeName × Option Condition → Condition
exists_over (r, None) = Exists r
exists_over (r, Some c) = exists_where r c

-- after SELECT *
abbrev pub after_star : List Word → Option (List Word)
after_star ws = if_some (after kind.Select ws) (after kind.Asterisk) None

-- after ( SELECT *
abbrev pub after_select : List Word → Option (List Word)
after_select ws = if_some (after kind.LeftParenthesis ws) after_star None

abbrev pub close_exists : ℕ → RangeName × Option Condition → List Word → FoundItem
close_exists limit p ws = if_some (after kind.RightParenthesis ws) (condition_fits limit (exists_over p)) None

-- after EXISTS
abbrev pub exists_by : ℕ → (List Word → FoundItem) → List Word → FoundItem
exists_by limit conditions ws = if_some (after_select ws) (λ rest. then_read (from_by conditions rest) (close_exists limit)) None

abbrev pub lead_by : ℕ → (List Word → FoundItem) → List Word → FoundItem
lead_by limit conditions ws =
    if_some (after kind.LeftParenthesis ws) (λ rest. then_read (conditions rest) (close_item limit))
    (if_some (after kind.Exists ws) (exists_by limit conditions) (as_item (simple ws)))

abbrev pub lead_factor_by : ℕ → (List Word → FoundItem) → List Word → FoundItem
lead_factor_by limit leads ws = if_some (after_sign ws) (λ p. as_item (read_factor limit ws)) (leads ws)

-- the test that begins with this factor, or the value alone
unfoldable pub value_test : ℕ → Expression → List Word → FoundItem
value_test d e ws =
    then_read (more_factors d (read_factor d) d e ws) (λ a rest. then_read (more_terms d (read_term d) d a rest) (predicate_from d))

abbrev pub test_by : ℕ → (List Word → FoundItem) → List Word → FoundItem
test_by limit factors ws = then_read (factors ws) (on_value (value_test limit))

abbrev pub negate : ℕ → Item → List Word → FoundItem
negate limit (Value e) ws = None
negate limit (Truth c) ws = condition_fits limit (negated c) ws

abbrev pub negation_by : ℕ → (List Word → FoundItem) → List Word → FoundItem
negation_by limit tests ws = if_some (after kind.Not ws) (λ rest. then_read (tests rest) (negate limit)) (tests ws)

abbrev pub connective_kind : Connective → TokenKind
connective_kind And = kind.And
connective_kind Or = kind.Or

abbrev pub connection : Connective → Condition → Condition → Condition
connection And a b = both a b
connection Or a b = either a b

-- the connective after a condition; a value has none after it
abbrev pub after_truth : Connective → Item → List Word → Option (List Word)
after_truth k (Value e) ws = None
after_truth k (Truth c) ws = after (connective_kind k) ws

abbrev pub connection_from : Connective → ℕ → Item → Item → List Word → FoundItem
connection_from k limit (Truth a) (Truth b) ws = condition_fits limit (connection k a b) ws
connection_from k limit (Truth a) (Value e) ws = None
connection_from k limit (Value e) j ws = None

-- the operands that follow, of which there are at most so many
abbrev pub more_by : Connective → ℕ → (List Word → FoundItem) → ℕ → Item → List Word → FoundItem
more_by k limit operands zero i ws = if_some (after_truth k i ws) (λ rest. None) (Some (i, ws))
more_by k limit operands (suc n) i ws =
    if_some (after_truth k i ws)
    (λ rest. then_read (operands rest) (λ j more.
    then_read (connection_from k limit i j more) (more_by k limit operands n)))
    (Some (i, ws))

abbrev pub chain_by : Connective → ℕ → (List Word → FoundItem) → List Word → FoundItem
chain_by k limit operands ws = then_read (operands ws) (more_by k limit operands limit)

abbrev pub test_over : ℕ → (List Word → FoundItem) → List Word → FoundItem
test_over limit leads = test_by limit (lead_factor_by limit leads)

abbrev pub item_over : ℕ → (List Word → FoundItem) → List Word → FoundItem
item_over limit leads = chain_by Or limit (chain_by And limit (negation_by limit (test_over limit leads)))

-- what comes first in a test: a primary, EXISTS, or a condition in parentheses
unfoldable pub read_lead : ℕ → List Word → FoundItem
read_lead zero ws = None
read_lead (suc d) ws = lead_by (suc d) (item_over d (read_lead d)) ws

unfoldable pub lead_factor : ℕ → List Word → FoundItem
lead_factor d = lead_factor_by d (read_lead d)

unfoldable pub read_test : ℕ → List Word → FoundItem
read_test d = test_by d (lead_factor d)

unfoldable pub read_negation : ℕ → List Word → FoundItem
read_negation d = negation_by d (read_test d)

unfoldable pub read_conjunction : ℕ → List Word → FoundItem
read_conjunction d = chain_by And d (read_negation d)

-- what AND or OR stands between
abbrev pub read_operand : Connective → ℕ → List Word → FoundItem
read_operand And d = read_negation d
read_operand Or d = read_conjunction d

-- operands with AND or with OR between them
abbrev pub read_chain : Connective → ℕ → List Word → FoundItem
read_chain k d = chain_by k d (read_operand k d)

-- a value or a condition
unfoldable pub read_item : ℕ → List Word → FoundItem
read_item d = chain_by Or d (read_conjunction d)

abbrev pub truth_alone : Item → List Word → Option (Condition × List Word)
truth_alone (Value e) ws = None
truth_alone (Truth c) ws = Some (c, ws)

-- the condition at the front, no deeper than the limit
abbrev pub read_condition : ℕ → List Word → Option (Condition × List Word)
read_condition limit ws = then_read (read_item limit ws) truth_alone

-- FROM, a table, its alias and WHERE with a condition no deeper than the limit
abbrev pub read_from : ℕ → List Word → Option ((RangeName × Option Condition) × List Word)
read_from limit = from_by (read_item limit)
