-- What is in the grammar of data statements is read.
use Rattle.std.proofs.Common.{subst, sym, ◌≡◌, ℕ, false, Option, Some, None, List, [], ◌∷◌, ◌++◌, refl, ◌∙◌, ap, append_assoc}
use Rattle.std.specs.Prelude.{if◌then◌else◌}
use Rattle.iv_lex.specs.declared.kind.TokenKind.{TokenKind}
use Rattle.iv_lex.specs.declared.kind.TokenKind.TheVariants as kind
use Rattle.iv_lex.specs.Words.{Word, name, plain}
use Rattle.iv_parse_data.specs.Types.{Expression, ValueOrDefault, InsertSource, Insert, Condition, RangeName, SelectList, Update, Delete, Select}
use Rattle.iv_parse_data.specs.Types.given.{Value, Default}
use Rattle.iv_parse_data.specs.Types.source
use Rattle.iv_parse_data.specs.Types.insert.{DefaultValues, Rows}
use Rattle.iv_parse_data.specs.Types.select_list
use Rattle.iv_parse_data.specs.Types.select
use Rattle.iv_parse_terms.specs.After.{after, if_some, then_read, same}
use Rattle.iv_parse_terms.specs.Expressions.{EndsExpression, spelling, qualifier_spelling, sign_kind}
use Rattle.iv_syntax.specs.Trees.{group, signed, product, sum}
use Rattle.iv_syntax.specs.declared.tree.Sign.{Sign}
use Rattle.iv_syntax.specs.declared.tree.Sign.TheVariants as sign
use Rattle.iv_syntax.specs.declared.tree.Expression.TheVariants.{Number, Text, Null, Column}
use Rattle.iv_parse_terms.proofs.Theorems.{expression_complete, condition_complete, from_complete}
use Rattle.iv_parse_terms.specs.Conditions.{EndsCondition, EndsFrom, IsFrom, RangeSpelled}
use Rattle.iv_parse_data.specs.Series.{Series, Maybe, InParentheses}
use Rattle.iv_parse_data.specs.readers.Series.{read_optional, read_series, close, read_closed}
use Rattle.iv_parse_data.specs.Data.{IsName, Names, IsShallow, IsShallowCondition, IsValue, IsTuple, IsColumnList, IsShallowFrom, IsSelectList, IsSource, IsInsert, IsAssignment, IsWhere, IsUpdate, IsDelete, IsSelect}
use Rattle.iv_parse_data.specs.readers.Data.{then_word, read_name, read_shallow, read_shallow_condition, read_check, read_value, read_tuple, read_column_list, read_shallow_from, read_select_list, read_source, read_insert, read_assignment, read_where, read_update, read_delete, read_select}
use Rattle.iv_parse_data.proofs.Complete.{Reads_all, Anything, series_complete, enclosed_complete}
use Rattle.iv_parse_data.proofs.Readers.{read_select_source, read_insert_rows, read_insert_into, read_assignments, read_count, read_query}

pub name_complete : Reads_all IsName Anything read_name
name_complete = record { reads = λ n front rest p e. ap (λ z. read_name (z ++ rest)) p }

pub names_complete : Reads_all Names (λ rest. Anything rest × (after kind.Comma rest ≡ None)) (read_series read_name)
names_complete = series_complete IsName Anything read_name name_complete (λ ws. tt)

pub shallow_complete : Reads_all IsShallow EndsExpression read_shallow
unfolding read_shallow
shallow_complete = record { reads = λ e front rest p ends. expression_complete front rest e p.0 p.1 ends }

-- no expression begins with this word
pub record Apart (k : TokenKind) : Type 0 where
  pub null : same kind.Null k ≡ false
  pub parenthesis : same kind.LeftParenthesis k ≡ false
  pub plus : same kind.Plus k ≡ false
  pub minus : same kind.Minus k ≡ false

pub other_word : (k j : TokenKind) (ws : List Word) → same j k ≡ false → after k (plain j ∷ ws) ≡ None
other_word k j ws h = ap (λ b. if b then Some ws else None) h

column_begins : (k : TokenKind) (q : Option (List ℕ)) (n : List ℕ) (rest : List Word) → after k ((qualifier_spelling q ++ name n ∷ []) ++ rest) ≡ None
column_begins k None n rest = refl
column_begins k (Some q) n rest = refl

sign_begins : (k : TokenKind) → Apart k → (s : Sign) (ws : List Word) → after k (plain (sign_kind s) ∷ ws) ≡ None
sign_begins k a sign.Plus ws = other_word k kind.Plus ws a.plus
sign_begins k a sign.Minus ws = other_word k kind.Minus ws a.minus

spelling_begins : (k : TokenKind) → Apart k → (e : Expression) (rest : List Word) → after k (spelling e ++ rest) ≡ None
spelling_begins k a (Number n) rest = refl
spelling_begins k a (Text t) rest = refl
spelling_begins k a Null rest = other_word k kind.Null rest a.null
spelling_begins k a (Column c) rest = column_begins k c.qualifier c.name rest
spelling_begins k a (group e) rest = other_word k kind.LeftParenthesis _ a.parenthesis
spelling_begins k a (signed s e) rest = sign_begins k a s _
spelling_begins k a (product e f) rest = ap (after k) (append_assoc (spelling e) (plain kind.Asterisk ∷ spelling f) rest) ∙ spelling_begins k a e ((plain kind.Asterisk ∷ spelling f) ++ rest)
spelling_begins k a (sum s e f) rest = ap (after k) (append_assoc (spelling e) (plain (sign_kind s) ∷ spelling f) rest) ∙ spelling_begins k a e ((plain (sign_kind s) ∷ spelling f) ++ rest)

pub expression_begins : (k : TokenKind) → Apart k → (e : Expression) (front rest : List Word) → IsShallow front e → after k (front ++ rest) ≡ None
expression_begins k a e front rest p = ap (λ z. after k (z ++ rest)) p.0.spelled ∙ spelling_begins k a e rest

condition_reads : Reads_all IsShallowCondition EndsCondition read_shallow_condition
unfolding read_shallow_condition
condition_reads = record { reads = λ c front rest p ends. condition_complete front rest c p.0 p.1 ends }

pub check_complete : Reads_all (InParentheses IsShallowCondition) Anything read_check
check_complete = enclosed_complete IsShallowCondition EndsCondition read_shallow_condition condition_reads (λ ws. (((((refl, refl), refl, refl), refl), refl)))

value_reads : (v : ValueOrDefault) (front rest : List Word) → IsValue front v → EndsExpression rest → read_value (front ++ rest) ≡ Some (v, rest)
unfolding read_value
value_reads (Value e) front rest p ends =
    ap (λ o. if_some o (λ more. Some (Default, more)) (then_read (read_shallow (front ++ rest)) (λ x more. Some (Value x, more))))
    (expression_begins kind.Default (record { null = refl; parenthesis = refl; plus = refl; minus = refl }) e front rest p)
    ∙ ap (λ o. then_read o (λ x more. Some (Value x, more))) (shallow_complete.reads e front rest p ends)
value_reads Default front rest p ends = ap (λ z. read_value (z ++ rest)) p

pub value_complete : Reads_all IsValue EndsExpression read_value
value_complete = record { reads = λ v front rest p e. value_reads v front rest p e }

comma_ends : (ws : List Word) → EndsExpression (plain kind.Comma ∷ ws)
comma_ends ws = ((refl, refl), refl, refl)

close_ends : (ws : List Word) → EndsExpression (plain kind.RightParenthesis ∷ ws)
close_ends ws = ((refl, refl), refl, refl)

pub tuple_complete : Reads_all IsTuple Anything read_tuple
tuple_complete =
    enclosed_complete (Series IsValue) (λ rest. EndsExpression rest × (after kind.Comma rest ≡ None)) (read_series read_value)
    (series_complete IsValue EndsExpression read_value value_complete comma_ends) (λ ws. (close_ends ws, refl))

pub column_list_reads : (cs : Option (List (List ℕ))) (front rest : List Word) → IsColumnList front cs → after kind.LeftParenthesis rest ≡ None → read_column_list (front ++ rest) ≡ Some (cs, rest)
unfolding read_column_list
column_list_reads None front rest p e =
    ap (λ z. read_column_list (z ++ rest)) p
    ∙ ap (λ o. if_some o (λ more. then_read (read_closed (read_series read_name) more) (λ ns left. Some (Some ns, left))) (Some (None, rest))) e
column_list_reads (Some ns) front rest (inner, p, w) e =
    ap (λ z. read_column_list (z ++ rest)) w
    ∙ ap (λ o. then_read o (λ ns left. Some (Some ns, left)))
    (ap (λ z. read_closed (read_series read_name) z) (append_assoc inner (plain kind.RightParenthesis ∷ []) rest)
    ∙ ap (λ o. then_read o close) (names_complete.reads ns inner (plain kind.RightParenthesis ∷ rest) p (tt, refl)))

pub column_list_complete : Reads_all IsColumnList (λ rest. after kind.LeftParenthesis rest ≡ None) read_column_list
column_list_complete = record { reads = λ cs front rest p e. column_list_reads cs front rest p e }

-- what follows a statement
pub data EndsStatement : List Word → Type 0 where
  semicolon : (ws : List Word) → EndsStatement (plain kind.Semicolon ∷ ws)

statement_ends : (ws : List Word) → EndsStatement ws → EndsFrom ws
statement_ends _ (semicolon ws) = (((((refl, refl), refl, refl), refl), refl), refl, refl, refl)

no_comma : (ws : List Word) → EndsStatement ws → after kind.Comma ws ≡ None
no_comma _ (semicolon ws) = refl

pub statement_expression : (ws : List Word) → EndsStatement ws → EndsExpression ws
statement_expression ws e = (statement_ends ws e).0.0.0

from_reads : (r : RangeName) (c : Option Condition) (front rest : List Word) → IsShallowFrom front (r, c) → EndsStatement rest → read_shallow_from (front ++ rest) ≡ Some ((r, c), rest)
unfolding read_shallow_from
from_reads r c front rest p e = from_complete front rest r c p.0 p.1 (statement_ends rest e)

range_begins : (r : RangeName) (front : List Word) → RangeSpelled r front → (back : List Word) × (front ≡ plain kind.From ∷ back)
range_begins r front (alias, p, w) = (name r.table ∷ alias, w)

from_begins : (r : RangeName) (c : Option Condition) (front : List Word) → IsFrom front r c → (back : List Word) × (front ≡ plain kind.From ∷ back)
from_begins r None front p = range_begins r front p
from_begins r (Some c) front (from, inner, p, q, w) =
    let (back, v) = range_begins r from p in
    (back ++ plain kind.Where ∷ inner, w ∙ ap (λ z. z ++ plain kind.Where ∷ inner) v)

-- what follows the list of a SELECT cannot go on with it
list_ends : (r : RangeName) (c : Option Condition) (front rest : List Word) → IsShallowFrom front (r, c) → EndsExpression (front ++ rest) × (after kind.Comma (front ++ rest) ≡ None)
list_ends r c front rest p =
    let (back, w) = from_begins r c front p.0 in
    subst (λ z. EndsExpression (z ++ rest) × (after kind.Comma (z ++ rest) ≡ None)) (sym w) (((refl, refl), refl, refl), refl)

values_begin : (k : TokenKind) → Apart k → (es : List Expression) (front rest : List Word) → Series IsShallow front es → after k (front ++ rest) ≡ None
values_begin k a [] front rest p = absurd p
values_begin k a (e ∷ es) front rest (f, g, p, m, w) =
    ap (λ z. after k (z ++ rest)) w ∙ ap (after k) (append_assoc f g rest) ∙ expression_begins k a e f (g ++ rest) p

select_list_reads : (l : SelectList) (front rest : List Word) → IsSelectList front l → EndsExpression rest × (after kind.Comma rest ≡ None) → read_select_list (front ++ rest) ≡ Some (l, rest)
unfolding read_select_list
select_list_reads select_list.Star front rest p e = ap (λ z. read_select_list (z ++ rest)) p
select_list_reads (select_list.Values es) front rest p e =
    ap (λ o. if_some o (λ more. Some (select_list.Star, more)) (then_read (read_series read_shallow (front ++ rest)) (λ es more. Some (select_list.Values es, more))))
    (values_begin kind.Asterisk (record { null = refl; parenthesis = refl; plus = refl; minus = refl }) es front rest p)
    ∙ ap (λ o. then_read o (λ es more. Some (select_list.Values es, more)))
    ((series_complete IsShallow EndsExpression read_shallow shallow_complete comma_ends).reads es front rest p e)

source_reads : (s : InsertSource) (front rest : List Word) → IsSource front s → EndsStatement rest → read_source (front ++ rest) ≡ Some (s, rest)
unfolding read_source
source_reads (source.Values ts) front rest (inner, p, w) e =
    ap (λ z. read_source (z ++ rest)) w
    ∙ ap (λ o. then_read o (λ ts more. Some (source.Values ts, more))) ((series_complete IsTuple Anything read_tuple tuple_complete (λ ws. tt)).reads ts inner rest p (tt, no_comma rest e))
source_reads (source.Select l r c) front rest (list, from, p, q, w) e =
    ap (λ z. read_source (z ++ rest)) w
    ∙ ap (λ z. then_read (read_select_list z) (λ l more. then_read (read_shallow_from more) (λ p left. Some (source.Select l p.0 p.1, left)))) (append_assoc list from rest)
    ∙ ap (λ o. then_read o (λ l more. then_read (read_shallow_from more) (λ p left. Some (source.Select l p.0 p.1, left)))) (select_list_reads l list (from ++ rest) p (list_ends r c from rest q))
    ∙ ap (λ o. then_read o (λ p left. Some (source.Select l p.0 p.1, left))) (from_reads r c from rest q e)

-- a source of rows begins with neither DEFAULT nor a parenthesis
source_begins : (k : TokenKind) → same kind.Values k ≡ false → same kind.Select k ≡ false → (s : InsertSource) (front rest : List Word) → IsSource front s → after k (front ++ rest) ≡ None
source_begins k h i (source.Values ts) front rest (inner, p, w) = ap (λ z. after k (z ++ rest)) w ∙ other_word k kind.Values _ h
source_begins k h i (source.Select l r c) front rest (list, from, p, q, w) = ap (λ z. after k (z ++ rest)) w ∙ other_word k kind.Select _ i

rows_begin : (cs : Option (List (List ℕ))) (s : InsertSource) (columns rows rest : List Word) → IsColumnList columns cs → IsSource rows s → after kind.Default (columns ++ (rows ++ rest)) ≡ None
rows_begin None s columns rows rest p q = ap (λ z. after kind.Default (z ++ (rows ++ rest))) p ∙ source_begins kind.Default refl refl s rows rest q
rows_begin (Some ns) s columns rows rest (inner, p, w) q = ap (λ z. after kind.Default (z ++ (rows ++ rest))) w

pub insert_reads : (i : Insert) (front rest : List Word) → IsInsert front i → EndsStatement rest
    → (back : List Word) × (front ++ rest ≡ plain kind.Insert ∷ back) × (read_insert back ≡ Some (i, rest))
unfolding read_insert
insert_reads (DefaultValues t) front rest p e =
    (plain kind.Into ∷ name t ∷ plain kind.Default ∷ plain kind.Values ∷ rest, ap (λ z. z ++ rest) p, refl)
insert_reads (Rows t cs s) front rest (columns, rows, p, q, w) e = (
  plain kind.Into ∷ name t ∷ (columns ++ (rows ++ rest)),
  ap (λ z. z ++ rest) w ∙ ap (λ z. plain kind.Insert ∷ plain kind.Into ∷ name t ∷ z) (append_assoc columns rows rest),
  ap (λ o. if_some o (λ more. then_word kind.Values more (λ left. Some (DefaultValues t, left))) (read_insert_rows t (columns ++ (rows ++ rest)))) (rows_begin cs s columns rows rest p q)
      ∙ ap (λ o. then_read o (λ cs more. then_read (read_source more) (λ s left. Some (Rows t cs s, left)))) (column_list_reads cs columns (rows ++ rest) p (source_begins kind.LeftParenthesis refl refl s rows rest q))
      ∙ ap (λ o. then_read o (λ s left. Some (Rows t cs s, left))) (source_reads s rows rest q e),
)

assignment_complete : Reads_all IsAssignment EndsExpression read_assignment
unfolding read_assignment
assignment_complete = record {
  reads = λ a front rest (value, p, w) e.
      ap (λ z. read_assignment (z ++ rest)) w ∙ ap (λ o. then_read o (λ v more. Some (record { column = a.column; value = v }, more))) (value_reads a.value value rest p e);
}

where_reads : (c : Option Condition) (front rest : List Word) → Maybe IsWhere front c → EndsStatement rest → read_where (front ++ rest) ≡ Some (c, rest)
unfolding read_optional
where_reads None front rest p e =
    ap (λ z. read_where (z ++ rest)) p
    ∙ ap (λ o. if_some o (λ more. then_read (read_shallow_condition more) (λ c left. Some (Some c, left))) (Some (None, rest))) ((statement_ends rest e).3)
where_reads (Some c) front rest (inner, p, w) e =
    ap (λ z. read_where (z ++ rest)) w
    ∙ ap (λ o. then_read o (λ c left. Some (Some c, left))) (condition_reads.reads c inner rest p ((statement_ends rest e).0))

-- WHERE and the end of a statement cannot go on with an assignment
where_ends : (c : Option Condition) (front rest : List Word) → Maybe IsWhere front c → EndsStatement rest → EndsExpression (front ++ rest) × (after kind.Comma (front ++ rest) ≡ None)
where_ends None front rest p e = subst (λ z. EndsExpression (z ++ rest) × (after kind.Comma (z ++ rest) ≡ None)) (sym p) ((statement_ends rest e).0.0.0, no_comma rest e)
where_ends (Some c) front rest (inner, p, w) e = subst (λ z. EndsExpression (z ++ rest) × (after kind.Comma (z ++ rest) ≡ None)) (sym w) (((refl, refl), refl, refl), refl)

pub update_reads : (u : Update) (front rest : List Word) → IsUpdate front u → EndsStatement rest
    → (back : List Word) × (front ++ rest ≡ plain kind.Update ∷ back) × (read_update back ≡ Some (u, rest))
unfolding read_update
update_reads u front rest (list, filter, p, q, w) e = (
  name u.table ∷ plain kind.Set ∷ (list ++ (filter ++ rest)),
  ap (λ z. z ++ rest) w ∙ ap (λ z. plain kind.Update ∷ name u.table ∷ plain kind.Set ∷ z) (append_assoc list filter rest),
  ap (λ o. then_read o (λ xs more. then_read (read_where more) (λ c left. Some (record { table = u.table; assignments = xs; filter = c }, left))))
      ((series_complete IsAssignment EndsExpression read_assignment assignment_complete comma_ends).reads u.assignments list (filter ++ rest) p (where_ends u.filter filter rest q e))
      ∙ ap (λ o. then_read o (λ c left. Some (record { table = u.table; assignments = u.assignments; filter = c }, left))) (where_reads u.filter filter rest q e),
)

pub delete_reads : (d : Delete) (front rest : List Word) → IsDelete front d → EndsStatement rest
    → (back : List Word) × (front ++ rest ≡ plain kind.Delete ∷ back) × (read_delete back ≡ Some (d, rest))
unfolding read_delete
delete_reads d front rest (filter, q, w) e = (
  plain kind.From ∷ name d.table ∷ (filter ++ rest),
  ap (λ z. z ++ rest) w,
  ap (λ o. then_read o (λ c left. Some (record { table = d.table; filter = c }, left))) (where_reads d.filter filter rest q e),
)

list_begins : (l : SelectList) (front rest : List Word) → IsSelectList front l → after kind.Count (front ++ rest) ≡ None
list_begins select_list.Star front rest p = ap (λ z. after kind.Count (z ++ rest)) p
list_begins (select_list.Values es) front rest p = values_begin kind.Count (record { null = refl; parenthesis = refl; plus = refl; minus = refl }) es front rest p

pub select_reads : (s : Select) (front rest : List Word) → IsSelect front s → EndsStatement rest
    → (back : List Word) × (front ++ rest ≡ plain kind.Select ∷ back) × (read_select back ≡ Some (s, rest))
unfolding read_select
select_reads (select.Count r c) front rest (from, q, w) e = (
  plain kind.Count ∷ plain kind.LeftParenthesis ∷ plain kind.Asterisk ∷ plain kind.RightParenthesis ∷ (from ++ rest),
  ap (λ z. z ++ rest) w,
  ap (λ o. then_read o (λ p left. Some (select.Count p.0 p.1, left))) (from_reads r c from rest q e),
)
select_reads (select.Rows l r c) front rest (list, from, p, q, w) e = (
  list ++ (from ++ rest),
  ap (λ z. z ++ rest) w ∙ ap (λ z. plain kind.Select ∷ z) (append_assoc list from rest),
  ap (λ o. if_some o read_count (read_query (list ++ (from ++ rest)))) (list_begins l list (from ++ rest) p)
      ∙ ap (λ o. then_read o (λ l more. then_read (read_shallow_from more) (λ p left. Some (select.Rows l p.0 p.1, left)))) (select_list_reads l list (from ++ rest) p (list_ends r c from rest q))
      ∙ ap (λ o. then_read o (λ p left. Some (select.Rows l p.0 p.1, left))) (from_reads r c from rest q e),
)
