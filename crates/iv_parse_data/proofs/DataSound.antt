-- What is read of data statements is in the grammar.
use Rattle.std.proofs.Common.{ℕ, Some, None, List, [], ◌∷◌, refl}
use Rattle.iv_lex.specs.declared.kind.TokenKind.TheVariants as kind
use Rattle.iv_lex.specs.Words.{Word, name, plain}
use Rattle.iv_parse_data.specs.Types.given.{Value, Default}
use Rattle.iv_parse_data.specs.Types.source
use Rattle.iv_parse_data.specs.Types.select_list
use Rattle.iv_parse_data.specs.Types.select
use Rattle.iv_parse_data.specs.Types.insert.{DefaultValues, Rows}
use Rattle.iv_parse_terms.proofs.Theorems.{expression_front, condition_front, from_front}
use Rattle.iv_parse_data.specs.Series.{Series, Maybe, InParentheses}
use Rattle.iv_parse_data.specs.readers.Series.{read_optional, read_series, read_closed}
use Rattle.iv_parse_data.specs.Data.{IsName, Names, IsShallow, IsShallowCondition, IsValue, IsTuple, IsColumnList, IsShallowFrom, IsSelectList, IsSource, IsInsert, IsAssignment, IsWhere, IsUpdate, IsDelete, IsSelect}
use Rattle.iv_parse_data.specs.readers.Data.{read_name, read_shallow, read_shallow_condition, read_check, read_value, read_tuple, read_column_list, read_shallow_from, read_select_list, read_source, read_insert, read_assignment, read_where, read_update, read_delete, read_select}
use Rattle.iv_parse_data.proofs.Fronts.{Good, nothing_good, done_good, after_good, name_good, then_good, series_good, closed_good, enclosed_good, made_good, name_is}
use Rattle.iv_parse_data.proofs.Readers.{read_select_source, read_insert_rows, read_insert_into, read_assignments, read_count, read_query}

pub one_name_good : (ws : List Word) → Good IsName ws (read_name ws)
one_name_good ws = record { holds = λ n rest h. record { front = name n ∷ []; part = refl; whole = name_is ws n rest h } }

pub names_good : (ws : List Word) → Good Names ws (read_series read_name ws)
names_good ws = series_good IsName read_name one_name_good ws

pub shallow_good : (ws : List Word) → Good IsShallow ws (read_shallow ws)
unfolding read_shallow
shallow_good ws = record {
  holds = λ e rest h. let (front, is, low, whole) = expression_front ws rest e h in record { front = front; part = (is, low); whole = whole };
}

condition_good : (ws : List Word) → Good IsShallowCondition ws (read_shallow_condition ws)
unfolding read_shallow_condition
condition_good ws = record {
  holds = λ c rest h. let (front, is, low, whole) = condition_front ws rest c h in record { front = front; part = (is, low); whole = whole };
}

pub check_good : (ws : List Word) → Good (InParentheses IsShallowCondition) ws (read_check ws)
check_good ws = enclosed_good IsShallowCondition read_shallow_condition condition_good ws

pub value_good : (ws : List Word) → Good IsValue ws (read_value ws)
unfolding read_value
value_good ws =
    after_good IsValue kind.Default ws _ _
    (λ rest. done_good _ rest Default refl)
    (made_good IsShallow IsValue ws (read_shallow ws) Value (shallow_good ws) (λ e front p. p))

pub tuple_good : (ws : List Word) → Good IsTuple ws (read_tuple ws)
tuple_good ws = enclosed_good (Series IsValue) (read_series read_value) (λ vs. series_good IsValue read_value value_good vs) ws

pub column_list_good : (ws : List Word) → Good IsColumnList ws (read_column_list ws)
unfolding read_column_list
column_list_good ws =
    after_good IsColumnList kind.LeftParenthesis ws _ _
    (λ rest. made_good (λ back ns. InParentheses Names (plain kind.LeftParenthesis ∷ back) ns) (λ back cs. IsColumnList (plain kind.LeftParenthesis ∷ back) cs) rest (read_closed (read_series read_name) rest) Some
    (closed_good Names (read_series read_name) names_good rest) (λ ns front p. p))
    (done_good IsColumnList ws None refl)

from_good : (ws : List Word) → Good IsShallowFrom ws (read_shallow_from ws)
unfolding read_shallow_from
from_good ws = record {
  holds = λ p rest h. let (front, is, low, whole) = from_front ws rest p.0 p.1 h in record { front = front; part = (is, low); whole = whole };
}

select_list_good : (ws : List Word) → Good IsSelectList ws (read_select_list ws)
unfolding read_select_list
select_list_good ws =
    after_good IsSelectList kind.Asterisk ws _ _ (λ rest. done_good _ rest select_list.Star refl)
    (made_good (Series IsShallow) IsSelectList ws (read_series read_shallow ws) select_list.Values (series_good IsShallow read_shallow shallow_good ws) (λ es front p. p))

select_source_good : (ws : List Word) → Good (λ back s. IsSource (plain kind.Select ∷ back) s) ws (read_select_source ws)
select_source_good ws =
    then_good IsSelectList _ ws (read_select_list ws) _ (select_list_good ws)
    (λ l list rest p. made_good IsShallowFrom _ rest (read_shallow_from rest) (λ p. source.Select l p.0 p.1) (from_good rest) (λ q from r. (list, from, p, r, refl)))

source_good : (ws : List Word) → Good IsSource ws (read_source ws)
unfolding read_source
source_good ws =
    after_good IsSource kind.Values ws _ _
    (λ rest. made_good (Series IsTuple) _ rest (read_series read_tuple rest) source.Values (series_good IsTuple read_tuple tuple_good rest) (λ ts front p. (front, p, refl)))
    (after_good IsSource kind.Select ws read_select_source None select_source_good (nothing_good IsSource ws))

insert_rows_good : (t : List ℕ) (ws : List Word) → Good (λ back i. IsInsert (plain kind.Insert ∷ plain kind.Into ∷ name t ∷ back) i) ws (read_insert_rows t ws)
insert_rows_good t ws =
    then_good IsColumnList _ ws (read_column_list ws) _ (column_list_good ws)
    (λ cs front rest p. made_good IsSource _ rest (read_source rest) (Rows t cs) (source_good rest) (λ s back q. (front, back, p, q, refl)))

insert_into_good : (t : List ℕ) (ws : List Word) → Good (λ back i. IsInsert (plain kind.Insert ∷ plain kind.Into ∷ name t ∷ back) i) ws (read_insert_into t ws)
insert_into_good t ws =
    after_good _ kind.Default ws _ _
    (λ rest. after_good _ kind.Values rest _ None (λ more. done_good _ more (DefaultValues t) refl) (nothing_good _ rest))
    (insert_rows_good t ws)

pub insert_good : (ws : List Word) → Good (λ back i. IsInsert (plain kind.Insert ∷ back) i) ws (read_insert ws)
unfolding read_insert
insert_good ws =
    after_good _ kind.Into ws _ None
    (λ rest. name_good _ rest read_insert_into (λ t more. insert_into_good t more))
    (nothing_good _ ws)

assignment_good : (ws : List Word) → Good IsAssignment ws (read_assignment ws)
unfolding read_assignment
assignment_good ws =
    name_good IsAssignment ws _
    (λ n rest. after_good _ kind.Equals rest _ None
    (λ more. made_good IsValue _ more (read_value more) (λ v. record { column = n; value = v }) (value_good more) (λ v front p. (front, p, refl)))
    (nothing_good _ rest))

where_good : (ws : List Word) → Good (Maybe IsWhere) ws (read_where ws)
unfolding read_optional
where_good ws =
    after_good (Maybe IsWhere) kind.Where ws _ _
    (λ rest. made_good IsShallowCondition _ rest (read_shallow_condition rest) Some (condition_good rest) (λ c front p. (front, p, refl)))
    (done_good (Maybe IsWhere) ws None refl)

pub update_good : (ws : List Word) → Good (λ back u. IsUpdate (plain kind.Update ∷ back) u) ws (read_update ws)
unfolding read_update
update_good ws =
    name_good _ ws _
    (λ t rest. after_good _ kind.Set rest (read_assignments t) None
    (λ more. then_good (Series IsAssignment) _ more (read_series read_assignment more) _ (series_good IsAssignment read_assignment assignment_good more)
    (λ xs list left p. made_good (Maybe IsWhere) _ left (read_where left) (λ c. record { table = t; assignments = xs; filter = c }) (where_good left) (λ c filter q. (list, filter, p, q, refl))))
    (nothing_good _ rest))

pub delete_good : (ws : List Word) → Good (λ back d. IsDelete (plain kind.Delete ∷ back) d) ws (read_delete ws)
unfolding read_delete
delete_good ws =
    after_good _ kind.From ws _ None
    (λ rest. name_good _ rest _
    (λ t more. made_good (Maybe IsWhere) _ more (read_where more) (λ c. record { table = t; filter = c }) (where_good more) (λ c filter q. (filter, q, refl))))
    (nothing_good _ ws)

count_good : (ws : List Word) → Good (λ back s. IsSelect (plain kind.Select ∷ plain kind.Count ∷ back) s) ws (read_count ws)
count_good ws =
    after_good _ kind.LeftParenthesis ws _ None
    (λ a. after_good _ kind.Asterisk a _ None
    (λ b. after_good _ kind.RightParenthesis b _ None
    (λ rest. made_good IsShallowFrom _ rest (read_shallow_from rest) (λ p. select.Count p.0 p.1) (from_good rest) (λ p from q. (from, q, refl)))
    (nothing_good _ b))
    (nothing_good _ a))
    (nothing_good _ ws)

query_good : (ws : List Word) → Good (λ back s. IsSelect (plain kind.Select ∷ back) s) ws (read_query ws)
query_good ws =
    then_good IsSelectList _ ws (read_select_list ws) _ (select_list_good ws)
    (λ l list rest p. made_good IsShallowFrom _ rest (read_shallow_from rest) (λ p. select.Rows l p.0 p.1) (from_good rest) (λ q from r. (list, from, p, r, refl)))

pub select_good : (ws : List Word) → Good (λ back s. IsSelect (plain kind.Select ∷ back) s) ws (read_select ws)
unfolding read_select
select_good ws = after_good _ kind.Count ws read_count _ count_good (query_good ws)
