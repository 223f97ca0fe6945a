-- INSERT, UPDATE, DELETE and SELECT whose words can be written are writable.
use Rattle.std.proofs.Common.{◌≡◌, true, ◌&&◌, Option, List, ◌∷◌, ◌++◌, refl, subst}
use Rattle.iv_lex.specs.declared.kind.TokenKind.TheVariants as kind
use Rattle.iv_lex.specs.Words.{Word, name, plain}
use Rattle.iv_parse_data.specs.Types.{Condition, RangeName, SelectList}
use Rattle.iv_parse_data.specs.Types.given.{Value, Default}
use Rattle.iv_parse_data.specs.Types.source
use Rattle.iv_parse_data.specs.Types.insert.{DefaultValues, Rows}
use Rattle.iv_parse_data.specs.Types.select_list
use Rattle.iv_parse_data.specs.Types.select
use Rattle.iv_parse_data.specs.Series.{Series}
use Rattle.iv_parse_data.specs.Data.{IsShallow, IsValue, IsTuple, IsSelectList, IsQuery, IsSource, IsInsert, IsAssignment, IsUpdate, IsDelete, IsSelect}
use Rattle.iv_resolution.specs.Writable.{is_name, is_name_list_or_none, is_expression, is_range, is_filter, is_value, is_tuple, is_list, is_insert_source, is_insert, is_assignment, is_update, is_delete, is_select}
use Rattle.iv_laws_answers.proofs.Names.{Written, front, back, join}
use Rattle.iv_laws_answers.proofs.Parts.{Passes, some_pass, some_parts, series_pass, inner_passes, column_list_passes}
use Rattle.iv_laws_answers.proofs.Terms.{shallow_passes, from_passes, filter_passes}

-- ---- values and lists

value_passes : Passes IsValue is_value
value_passes ws (Value e) p w = shallow_passes ws e p w
value_passes ws Default p w = refl

tuple_passes : Passes IsTuple is_tuple
tuple_passes ws vs p w = inner_passes (Series IsValue) (some_pass is_value) (series_pass IsValue is_value value_passes) ws vs p w

list_passes : Passes IsSelectList is_list
list_passes ws select_list.Star p w = refl
list_passes ws (select_list.Values es) p w = series_pass IsShallow is_expression shallow_passes ws es p w

query_passes : (ws : List Word) (l : SelectList) (r : RangeName) (o : Option Condition) → IsQuery ws l r o → Written ws
    → (is_list l && (is_range r && is_filter o)) ≡ true
query_passes ws l r o (list, from, p, q, e) w =
    let v : Written (list ++ from) = (subst Written e w).1 in
    join (is_list l) _ (list_passes list l p (front list from v)) (from_passes from r o q (back list from v))

-- ---- statements

source_passes : Passes IsSource is_insert_source
source_passes ws (source.Values ts) (inner, p, e) w = series_pass IsTuple is_tuple tuple_passes inner ts p (subst Written e w).1
source_passes ws (source.Select l r o) p w = query_passes ws l r o p w

pub insert_passes : Passes IsInsert is_insert
insert_passes ws (DefaultValues t) e w = (subst Written e w).1.1.0
insert_passes ws (Rows t cs s) (columns, rows, p, q, e) w =
    let v : Written (plain kind.Insert ∷ plain kind.Into ∷ name t ∷ (columns ++ rows)) = subst Written e w in
    join (is_name t) _ v.1.1.0
    (join (is_name_list_or_none cs) _ (column_list_passes columns cs p (front columns rows v.1.1.1))
    (source_passes rows s q (back columns rows v.1.1.1)))

assignment_passes : Passes IsAssignment is_assignment
assignment_passes ws a (value, p, e) w =
    let v : Written (name a.column ∷ plain kind.Equals ∷ value) = subst Written e w in
    join (is_name a.column) _ v.0 (value_passes value a.value p v.1.1)

pub update_passes : Passes IsUpdate is_update
update_passes ws u (list, filter, p, q, e) w =
    let v : Written (plain kind.Update ∷ name u.table ∷ plain kind.Set ∷ (list ++ filter)) = subst Written e w in
    let set : some_pass is_assignment u.assignments ≡ true =
    series_pass IsAssignment is_assignment assignment_passes list u.assignments p (front list filter v.1.1.1) in
    let set_parts = some_parts is_assignment u.assignments set in
    join (is_name u.table) _ v.1.0 (join _ _ set_parts.0 (join _ _ set_parts.1 (filter_passes filter u.filter q (back list filter v.1.1.1))))

pub delete_passes : Passes IsDelete is_delete
delete_passes ws d (filter, p, e) w =
    let v : Written (plain kind.Delete ∷ plain kind.From ∷ name d.table ∷ filter) = subst Written e w in
    join (is_name d.table) _ v.1.1.0 (filter_passes filter d.filter p v.1.1.1)

pub select_passes : Passes IsSelect is_select
select_passes ws (select.Count r o) (from, p, e) w = from_passes from r o p (subst Written e w).1.1.1.1.1
select_passes ws (select.Rows l r o) p w = query_passes ws l r o p w
