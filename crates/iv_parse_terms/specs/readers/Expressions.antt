-- The expression at the front of words, read with one word of look-ahead and no deeper than a limit.
use Rattle.std.specs.Prelude.{ℕ, zero, suc, nat_le, if◌then◌else◌, Option, Some, None, List, [], ◌∷◌}
use Rattle.iv_lex.specs.declared.kind.TokenKind.TheVariants as kind
use Rattle.iv_lex.specs.Words.{Word, name, number, quoted, plain}
use Rattle.iv_parse_terms.specs.Types.{Sign, Expression}
use Rattle.iv_parse_terms.specs.Types.sign
use Rattle.iv_parse_terms.specs.Types.expression.{Number, Text, Null, Column}
use Rattle.iv_syntax.specs.Trees.{group, signed, product, sum, depth}
use Rattle.iv_parse_terms.specs.After.{after, after_name, same, if_some, then_read}

-- an expression and the words that are left, or none
abbrev pub FoundExpression : Type 0
FoundExpression = Option (Expression × List Word)

-- the expression, where it is not too deep
abbrev pub fits : ℕ → Expression → List Word → FoundExpression
fits limit e ws = if nat_le (depth e) limit then Some (e, ws) else None

-- the product of two expressions, or their sum or difference where there is a sign
abbrev pub joined : Option Sign → Expression → Expression → Expression
joined None a b = product a b
joined (Some s) a b = sum s a b

-- a sign at the front, and the words after it
abbrev pub after_sign : List Word → Option (Sign × List Word)
after_sign ws =
    if_some (after kind.Plus ws) (λ rest. Some (sign.Plus, rest))
    (if_some (after kind.Minus ws) (λ rest. Some (sign.Minus, rest)) None)

abbrev pub column_tree : Option (List ℕ) → List ℕ → Expression
column_tree q n = Column (record { qualifier = q; name = n })

-- the column that begins with this name
abbrev pub column_from : List ℕ → List Word → FoundExpression
column_from n ws =
    if_some (after kind.Period ws)
    (λ rest. then_read (after_name rest) (λ m more. Some (column_tree (Some n) m, more)))
    (Some (column_tree None n, ws))

-- a number, a text, NULL or a column
abbrev pub simple : List Word → FoundExpression
simple [] = None
simple (number n ∷ ws) = Some (Number n, ws)
simple (quoted t ∷ ws) = Some (Text t, ws)
simple (name n ∷ ws) = column_from n ws
simple (plain k ∷ ws) = if same k kind.Null then Some (Null, ws) else None

-- NULL or a column
abbrev pub null_or_column : List Word → FoundExpression
null_or_column ws = if_some (after kind.Null ws) (λ rest. Some (Null, rest)) (then_read (after_name ws) column_from)

-- the expression in parentheses, where one closes
abbrev pub close_group : ℕ → Expression → List Word → FoundExpression
close_group limit e ws = if_some (after kind.RightParenthesis ws) (fits limit (group e)) None

abbrev pub primary_by : ℕ → (List Word → FoundExpression) → List Word → FoundExpression
primary_by limit inner ws =
    if_some (after kind.LeftParenthesis ws)
    (λ rest. then_read (inner rest) (close_group limit))
    (simple ws)

-- after a sign
abbrev pub signed_from : ℕ → (List Word → FoundExpression) → Sign → List Word → FoundExpression
signed_from limit primaries s ws = then_read (primaries ws) (λ e. fits limit (signed s e))

abbrev pub factor_by : ℕ → (List Word → FoundExpression) → List Word → FoundExpression
factor_by limit primaries ws =
    if_some (after_sign ws) (λ p. then_read (primaries p.1) (λ e. fits limit (signed p.0 e))) (primaries ws)

-- the factors that follow, of which there are at most so many
abbrev pub more_factors : ℕ → (List Word → FoundExpression) → ℕ → Expression → List Word → FoundExpression
more_factors limit factors zero a ws = if_some (after kind.Asterisk ws) (λ rest. None) (Some (a, ws))
more_factors limit factors (suc n) a ws =
    if_some (after kind.Asterisk ws)
    (λ rest. then_read (factors rest) (λ b more. then_read (fits limit (product a b) more) (more_factors limit factors n)))
    (Some (a, ws))

abbrev pub term_by : ℕ → (List Word → FoundExpression) → List Word → FoundExpression
term_by limit factors ws = then_read (factors ws) (more_factors limit factors limit)

-- the terms that follow, of which there are at most so many
abbrev pub more_terms : ℕ → (List Word → FoundExpression) → ℕ → Expression → List Word → FoundExpression
more_terms limit terms zero a ws = if_some (after_sign ws) (λ p. None) (Some (a, ws))
more_terms limit terms (suc n) a ws =
    if_some (after_sign ws)
    (λ p. then_read (terms p.1) (λ b more. then_read (fits limit (sum p.0 a b) more) (more_terms limit terms n)))
    (Some (a, ws))

abbrev pub expression_by : ℕ → (List Word → FoundExpression) → List Word → FoundExpression
expression_by limit terms ws = then_read (terms ws) (more_terms limit terms limit)

abbrev pub expression_over : ℕ → (List Word → FoundExpression) → List Word → FoundExpression
expression_over limit primaries = expression_by limit (term_by limit (factor_by limit primaries))

unfoldable pub read_primary : ℕ → List Word → FoundExpression
read_primary zero ws = None
read_primary (suc d) ws = primary_by (suc d) (expression_over d (read_primary d)) ws

abbrev pub read_factor : ℕ → List Word → FoundExpression
read_factor d = factor_by d (read_primary d)

abbrev pub read_term : ℕ → List Word → FoundExpression
read_term d = term_by d (read_factor d)

-- the expression at the front, no deeper than the limit
abbrev pub read_expression : ℕ → List Word → FoundExpression
read_expression d = expression_by d (read_term d)
