-- INSERT, UPDATE, DELETE and SELECT in the words that they are written with.
use Rattle.std.proofs.Common.{Option, Some, None, List, [], ◌∷◌, ◌++◌, refl, sym, subst, append-nil}
use Rattle.iv_lex.specs.declared.kind.TokenKind.TheVariants as kind
use Rattle.iv_lex.specs.Words.{Word, name, plain}
use Rattle.iv_parse_terms.specs.Expressions.{spelling}
use Rattle.iv_parse_terms.specs.Conditions.{RangeSpelled}
use Rattle.iv_parse_data.specs.Series.{Series, Maybe}
use Rattle.iv_parse_data.specs.Data.{IsName, Names, IsShallow, IsShallowCondition, IsShallowFrom, IsValue, IsTuple, IsColumnList, IsSelectList, IsQuery, IsSource, IsInsert, IsAssignment, IsWhere, IsUpdate, IsDelete, IsSelect}
use Rattle.iv_write.specs.Types.{Condition, RangeName, SelectList}
use Rattle.iv_write.specs.Types.given.{Value, Default}
use Rattle.iv_write.specs.Types.source
use Rattle.iv_write.specs.Types.insert.{DefaultValues, Rows}
use Rattle.iv_write.specs.Types.select_list
use Rattle.iv_write.specs.Types.select
use Rattle.iv_write.specs.Spelling.{AreWritten}
use Rattle.iv_write.specs.Terms.{range_words, condition_words, where_words, from_words}
use Rattle.iv_write.specs.Parts.{series_words}
use Rattle.iv_write.specs.Data.{name_words, names_words, value_words, tuple_words, column_list_words, list_words, query_words, source_words, insert_words, assignment_words, update_words, delete_words, select_words}
use Rattle.iv_write.proofs.Canonical.{joined, parts, Canonical, range_canonical, expression_canonical, condition_canonical}
use Rattle.iv_write.proofs.CanonicalParts.{series_canonical, enclosed_canonical}

-- ---- names, expressions and conditions

name_canonical : Canonical IsName name_words
name_canonical ws n e w = (refl, subst AreWritten e w)

pub names_canonical : Canonical Names names_words
names_canonical = series_canonical IsName name_words name_canonical

pub shallow_canonical : Canonical IsShallow spelling
shallow_canonical ws e (i, d) w = let x = expression_canonical ws e i w in ((x.0, d), x.1)

pub shallow_condition_canonical : Canonical IsShallowCondition condition_words
shallow_condition_canonical ws c (i, d) w = let x = condition_canonical ws c i w in ((x.0, d), x.1)

pub where_canonical : Canonical (Maybe IsWhere) where_words
where_canonical ws None e w = (refl, tt {0})
where_canonical ws (Some c) (inner, p, e) w =
    let u : AreWritten (plain kind.Where ∷ inner) = subst AreWritten e w in
    let x = shallow_condition_canonical inner c p u.1 in
    ((condition_words c, x.0, refl), (refl, x.1))

from_canonical : Canonical IsShallowFrom (λ p. from_words p.0 p.1)
from_canonical ws (r, None) (p, d) w =
    let x = range_canonical ws r p w in
    ((subst (RangeSpelled r) (sym (append-nil (range_words r))) x.0, d), joined (range_words r) [] x.1 (tt {0}))
from_canonical ws (r, Some c) ((from, inner, p, q, e), d) w =
    let v = parts from (plain kind.Where ∷ inner) (subst AreWritten e w) in
    let x = range_canonical from r p v.0 in
    let y = condition_canonical inner c q v.1.1 in
    (((range_words r, condition_words c, x.0, y.0, refl), d), joined (range_words r) (plain kind.Where ∷ condition_words c) x.1 (refl, y.1))

pub column_list_canonical : Canonical IsColumnList column_list_words
column_list_canonical ws None e w = (refl, tt {0})
column_list_canonical ws (Some ns) p w = enclosed_canonical Names names_words names_canonical ws ns p w

-- ---- values

value_canonical : Canonical IsValue value_words
value_canonical ws (Value e) p w = shallow_canonical ws e p w
value_canonical ws Default e w = (refl, subst AreWritten e w)

tuple_canonical : Canonical IsTuple tuple_words
tuple_canonical = enclosed_canonical (Series IsValue) (series_words value_words) (series_canonical IsValue value_words value_canonical)

list_canonical : Canonical IsSelectList list_words
list_canonical ws select_list.Star e w = (refl, subst AreWritten e w)
list_canonical ws (select_list.Values es) p w = series_canonical IsShallow spelling shallow_canonical ws es p w

query_canonical : (ws : List Word) (l : SelectList) (r : RangeName) (o : Option Condition) → IsQuery ws l r o → AreWritten ws
    → IsQuery (query_words l r o) l r o × AreWritten (query_words l r o)
query_canonical ws l r o (list, from, p, q, e) w =
    let u : AreWritten (plain kind.Select ∷ (list ++ from)) = subst AreWritten e w in
    let v = parts list from u.1 in
    let x = list_canonical list l p v.0 in
    let y = from_canonical from (r, o) q v.1 in
    ((list_words l, from_words r o, x.0, y.0, refl), (refl, joined (list_words l) (from_words r o) x.1 y.1))

-- ---- statements

source_canonical : Canonical IsSource source_words
source_canonical ws (source.Values ts) (inner, p, e) w =
    let u : AreWritten (plain kind.Values ∷ inner) = subst AreWritten e w in
    let x = series_canonical IsTuple tuple_words tuple_canonical inner ts p u.1 in
    ((series_words tuple_words ts, x.0, refl), (refl, x.1))
source_canonical ws (source.Select l r o) p w = query_canonical ws l r o p w

pub insert_canonical : Canonical IsInsert insert_words
insert_canonical ws (DefaultValues t) e w = (refl, subst AreWritten e w)
insert_canonical ws (Rows t cs s) (columns, rows, p, q, e) w =
    let u : AreWritten (plain kind.Insert ∷ plain kind.Into ∷ name t ∷ (columns ++ rows)) = subst AreWritten e w in
    let v = parts columns rows u.1.1.1 in
    let x = column_list_canonical columns cs p v.0 in
    let y = source_canonical rows s q v.1 in
    ((column_list_words cs, source_words s, x.0, y.0, refl), (refl, (refl, (u.1.1.0, joined (column_list_words cs) (source_words s) x.1 y.1))))

assignment_canonical : Canonical IsAssignment assignment_words
assignment_canonical ws a (value, p, e) w =
    let u : AreWritten (name a.column ∷ plain kind.Equals ∷ value) = subst AreWritten e w in
    let x = value_canonical value a.value p u.1.1 in
    ((value_words a.value, x.0, refl), (u.0, (refl, x.1)))

pub update_canonical : Canonical IsUpdate update_words
update_canonical ws u (list, filter, p, q, e) w =
    let r : AreWritten (plain kind.Update ∷ name u.table ∷ plain kind.Set ∷ (list ++ filter)) = subst AreWritten e w in
    let v = parts list filter r.1.1.1 in
    let x = series_canonical IsAssignment assignment_words assignment_canonical list u.assignments p v.0 in
    let y = where_canonical filter u.filter q v.1 in (
      (series_words assignment_words u.assignments, where_words u.filter, x.0, y.0, refl),
      (refl, (r.1.0, (refl, joined (series_words assignment_words u.assignments) (where_words u.filter) x.1 y.1))),
    )

pub delete_canonical : Canonical IsDelete delete_words
delete_canonical ws d (filter, p, e) w =
    let u : AreWritten (plain kind.Delete ∷ plain kind.From ∷ name d.table ∷ filter) = subst AreWritten e w in
    let x = where_canonical filter d.filter p u.1.1.1 in
    ((where_words d.filter, x.0, refl), (refl, (refl, (u.1.1.0, x.1))))

pub select_canonical : Canonical IsSelect select_words
select_canonical ws (select.Count r o) (from, p, e) w =
    let u : AreWritten (plain kind.Select ∷ plain kind.Count ∷ plain kind.LeftParenthesis ∷ plain kind.Asterisk ∷ plain kind.RightParenthesis ∷ from) = subst AreWritten e w in
    let x = from_canonical from (r, o) p u.1.1.1.1.1 in
    ((from_words r o, x.0, refl), (refl, (refl, (refl, (refl, (refl, x.1))))))
select_canonical ws (select.Rows l r o) p w = query_canonical ws l r o p w
