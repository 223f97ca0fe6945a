-- Data statements as they are found at the front of words.
use Rattle.std.specs.Prelude.{ℕ, Option, Some, None, List}
use Rattle.iv_lex.specs.declared.kind.TokenKind.{TokenKind}
use Rattle.iv_lex.specs.declared.kind.TokenKind.TheVariants as kind
use Rattle.iv_lex.specs.Words.{Word}
use Rattle.iv_parse_data.specs.Types.{Expression, ValueOrDefault, InsertSource, Insert, RangeName, SelectList, Assignment, Update, Delete, Select, Condition}
use Rattle.iv_parse_data.specs.Types.given.{Value, Default}
use Rattle.iv_parse_data.specs.Types.source
use Rattle.iv_parse_data.specs.Types.insert.{DefaultValues, Rows}
use Rattle.iv_parse_data.specs.Types.select_list
use Rattle.iv_parse_data.specs.Types.select
use Rattle.iv_syntax.specs.declared.limits.TheConstants.{DEEPEST_TREE}
use Rattle.iv_parse_terms.specs.After.{after, after_name, if_some, then_read}
use Rattle.iv_parse_terms.specs.readers.Expressions.{read_expression}
use Rattle.iv_parse_terms.specs.readers.Conditions.{read_condition, read_from}
use Rattle.iv_parse_data.specs.readers.Series.{give, read_as, read_optional, read_series, read_closed, read_enclosed}

-- what was found, and the words after it
abbrev pub FoundPart : Type 0 → Type 0
FoundPart A = Option (A × List Word)

-- this word, and then what the function finds
abbrev pub then_word : {A : Type 0} → TokenKind → List Word → (List Word → FoundPart A) → FoundPart A
then_word k ws f = if_some (after k ws) f None

abbrev pub read_name : List Word → FoundPart (List ℕ)
read_name = after_name

unfoldable pub read_shallow : List Word → FoundPart Expression
read_shallow = read_expression DEEPEST_TREE

unfoldable pub read_shallow_condition : List Word → FoundPart Condition
read_shallow_condition = read_condition DEEPEST_TREE

abbrev pub read_check : List Word → FoundPart Condition
read_check = read_enclosed read_shallow_condition

unfoldable pub read_value : List Word → FoundPart ValueOrDefault
read_value ws = if_some (after kind.Default ws) (give Default) (read_as Value read_shallow ws)

abbrev pub read_tuple : List Word → FoundPart (List ValueOrDefault)
read_tuple = read_enclosed (read_series read_value)

unfoldable pub read_column_list : List Word → FoundPart (Option (List (List ℕ)))
read_column_list ws = if_some (after kind.LeftParenthesis ws) (read_as Some (read_closed (read_series read_name))) (Some (None, ws))

unfoldable pub read_shallow_from : List Word → FoundPart (RangeName × Option Condition)
read_shallow_from = read_from DEEPEST_TREE

unfoldable pub read_select_list : List Word → FoundPart SelectList
read_select_list ws = if_some (after kind.Asterisk ws) (give select_list.Star) (read_as select_list.Values (read_series read_shallow) ws)

-- VALUES and tuples, or a SELECT
unfoldable pub read_source : List Word → FoundPart InsertSource
read_source ws =
    if_some (after kind.Values ws) (read_as source.Values (read_series read_tuple))
    (then_word kind.Select ws (λ a. then_read (read_select_list a) (λ l. read_as (λ p. source.Select l p.0 p.1) read_shallow_from)))

-- INSERT, from INTO on
unfoldable pub read_insert : List Word → FoundPart Insert
read_insert ws =
    then_word kind.Into ws (λ a. then_read (read_name a) (λ t b.
    if_some (after kind.Default b) (λ c. then_word kind.Values c (give (DefaultValues t)))
    (then_read (read_column_list b) (λ cs. read_as (Rows t cs) read_source))))

unfoldable pub read_assignment : List Word → FoundPart Assignment
read_assignment ws =
    then_read (read_name ws) (λ n a. then_word kind.Equals a (read_as (λ v. record { column = n; value = v }) read_value))

abbrev pub read_where : List Word → FoundPart (Option Condition)
read_where = read_optional kind.Where read_shallow_condition

-- UPDATE, from the table on
unfoldable pub read_update : List Word → FoundPart Update
read_update ws =
    then_read (read_name ws) (λ t a. then_word kind.Set a (λ b. then_read (read_series read_assignment b) (λ list.
    read_as (λ c. record { table = t; assignments = list; filter = c }) read_where)))

-- DELETE, from FROM on
unfoldable pub read_delete : List Word → FoundPart Delete
read_delete ws = then_word kind.From ws (λ a. then_read (read_name a) (λ t. read_as (λ c. record { table = t; filter = c }) read_where))

-- after SELECT
unfoldable pub read_select : List Word → FoundPart Select
read_select ws =
    if_some (after kind.Count ws)
    (λ a. then_word kind.LeftParenthesis a (λ b. then_word kind.Asterisk b (λ c. then_word kind.RightParenthesis c
    (read_as (λ p. select.Count p.0 p.1) read_shallow_from))))
    (then_read (read_select_list ws) (λ l. read_as (λ p. select.Rows l p.0 p.1) read_shallow_from))
