-- A filled data statement is that of the template with the values' expressions at its holes.
use Rattle.std.proofs.Common.{◌≡◌, Option, Some, None, List, [], ◌∷◌, ◌++◌, length, take, drop, refl, sym, ◌∙◌, ap, subst, arith, append-nil, length-drop}
use Rattle.std.proofs.lemmas.List.{take-append-drop}
use Rattle.iv_value.specs.declared.value.Value.{Value}
use Rattle.iv_lex.specs.declared.kind.TokenKind.TheVariants as kind
use Rattle.iv_lex.specs.Words.{Word, name, plain}
use Rattle.iv_parse_terms.specs.Conditions.{RangeSpelled}
use Rattle.iv_parse_data.specs.Types.{RangeName}
use Rattle.iv_parse_data.specs.Series.{Maybe, More, Series}
use Rattle.iv_parse_data.specs.Data.{IsAssignment, IsQuery, IsSelectList, IsShallow, IsShallowFrom, IsSource, IsTuple, IsValue, IsWhere}
use Rattle.iv_template.specs.Templates.{Part, word, filled, holes}
use Rattle.iv_template.specs.Shapes.{Shape, parts_of, with_values}
use Rattle.iv_template.specs.ConditionShapes.{ConditionShape, condition_parts}
use Rattle.iv_template.specs.DataShapes.{more_parts, series_parts, each_with, EachFormed, SeriesFormed, ShapeFormed, ValueShape, expressed, defaulted, value_parts, value_with, ValueFormed, tuple_parts, tuple_with, TupleFormed, where_parts, where_with, WhereFormed, ListShape, star, listed, list_parts, list_with, ListFormed, QueryShape, from_parts, query_parts, QueryFormed, SourceShape, tuples, query, source_parts, source_with, SourceFormed, AssignmentShape, assignment_parts, assignment_with, AssignmentFormed, set_parts, count, rows, ValuesStandInInserts, ValuesStandInUpdates, ValuesStandInDeletes, ValuesStandInSelects}
use Rattle.iv_template.proofs.ByHoles.{filled_after, filled_append, holes_after, holes_append}
use Rattle.iv_template.proofs.ShapeProofs.{in_group, take_length, values_stand_at_holes}
use Rattle.iv_template.proofs.ConditionShapeProofs.{values_stand_in_conditions}

-- ---- two parts, each with the values of its own holes

front_holes : (ps qs : List Part) (vs : List Value) → holes (ps ++ qs) ≡ length vs → holes ps ≡ length (take (holes ps) vs)
front_holes ps qs vs h = sym (take_length (holes ps) vs (omega (arith, holes_append ps qs, h)))

back_holes : (ps qs : List Part) (vs : List Value) → holes (ps ++ qs) ≡ length vs → holes qs ≡ length (drop (holes ps) vs)
back_holes ps qs vs h = omega (arith, holes_append ps qs, h, length-drop (holes ps) vs)

filled_in_two : (ps qs : List Part) (vs : List Value) → holes (ps ++ qs) ≡ length vs
    → filled (ps ++ qs) vs ≡ filled ps (take (holes ps) vs) ++ filled qs (drop (holes ps) vs)
filled_in_two ps qs vs h =
    ap (filled (ps ++ qs)) (sym (take-append-drop (holes ps) vs))
    ∙ filled_append ps qs (take (holes ps) vs) (drop (holes ps) vs) (front_holes ps qs vs h)

-- ---- several with commas between them

module _ {A B : Type 0} (parts : A → List Part) (tree : A → List Value → B) (IsFormed : A → List Value → Type 0) (Stands : List Word → B → Type 0)
    (each : (x : A) (vs : List Value) → IsFormed x vs → holes (parts x) ≡ length vs → Stands (filled (parts x) vs) (tree x vs)) where
  more_stand : (xs : List A) (vs : List Value) → EachFormed parts IsFormed xs vs → holes (more_parts parts xs) ≡ length vs
      → More Stands (filled (more_parts parts xs) vs) (each_with parts tree xs vs)
  more_stand [] vs f h = refl
  more_stand (x ∷ xs) vs (f, g) h =
      let n = holes (parts x) in (
        filled (parts x) (take n vs),
        filled (more_parts parts xs) (drop n vs),
        each x (take n vs) f (front_holes (parts x) (more_parts parts xs) vs h),
        more_stand xs (drop n vs) g (back_holes (parts x) (more_parts parts xs) vs h),
        ap (λ z. plain kind.Comma ∷ z) (filled_in_two (parts x) (more_parts parts xs) vs h),
      )

  series_stands : (xs : List A) (vs : List Value) → SeriesFormed parts IsFormed xs vs → holes (series_parts parts xs) ≡ length vs
      → Series Stands (filled (series_parts parts xs) vs) (each_with parts tree xs vs)
  series_stands [] vs f h = absurd f
  series_stands (x ∷ xs) vs (f, g) h =
      let n = holes (parts x) in (
        filled (parts x) (take n vs),
        filled (more_parts parts xs) (drop n vs),
        each x (take n vs) f (front_holes (parts x) (more_parts parts xs) vs h),
        more_stand xs (drop n vs) g (back_holes (parts x) (more_parts parts xs) vs h),
        filled_in_two (parts x) (more_parts parts xs) vs h,
      )

-- ---- values, tuples and WHERE

shape_stands : (s : Shape) (vs : List Value) → ShapeFormed s vs → holes (parts_of s) ≡ length vs → IsShallow (filled (parts_of s) vs) (with_values s vs)
shape_stands s vs (f, d) h = (values_stand_at_holes s vs f h, d)

value_stands : (s : ValueShape) (vs : List Value) → ValueFormed s vs → holes (value_parts s) ≡ length vs → IsValue (filled (value_parts s) vs) (value_with s vs)
value_stands (expressed s) vs f h = shape_stands s vs f h
value_stands defaulted vs f h = refl

tuple_stands : (s : List ValueShape) (vs : List Value) → TupleFormed s vs → holes (tuple_parts s) ≡ length vs → IsTuple (filled (tuple_parts s) vs) (tuple_with s vs)
tuple_stands s vs f h =
    let ps = series_parts value_parts s in
    let n : holes ps ≡ length vs = omega (arith, holes_append ps (word (plain kind.RightParenthesis) ∷ []), h) in (
      filled ps vs,
      series_stands value_parts value_with ValueFormed IsValue value_stands s vs f n,
      ap (λ z. plain kind.LeftParenthesis ∷ z) (in_group ps vs (filled ps vs) h (λ k. refl)),
    )

where_stands : (s : Option ConditionShape) (vs : List Value) → WhereFormed s vs → holes (where_parts s) ≡ length vs
    → Maybe IsWhere (filled (where_parts s) vs) (where_with s vs)
where_stands None vs f h = refl
where_stands (Some c) vs (f, d) h = (filled (condition_parts c) vs, (values_stand_in_conditions c vs f h, d), refl)

-- ---- queries

from_stands : (range : RangeName) (from : List Word) (s : Option ConditionShape) (vs : List Value) → RangeSpelled range from → WhereFormed s vs
    → holes (from_parts from s) ≡ length vs → IsShallowFrom (filled (from_parts from s) vs) (range, where_with s vs)
from_stands range from None vs r f h = (subst (RangeSpelled range) (sym (filled_after from [] vs ∙ append-nil from)) r, omega arith)
from_stands range from (Some c) vs r (f, d) h =
    let n : holes (condition_parts c) ≡ length vs = sym (holes_after from (word (plain kind.Where) ∷ condition_parts c)) ∙ h in
    ((from, filled (condition_parts c) vs, r, values_stand_in_conditions c vs f n, filled_after from (word (plain kind.Where) ∷ condition_parts c) vs), d)

list_stands : (s : ListShape) (vs : List Value) → ListFormed s vs → holes (list_parts s) ≡ length vs → IsSelectList (filled (list_parts s) vs) (list_with s vs)
list_stands star vs f h = refl
list_stands (listed es) vs f h = series_stands parts_of with_values ShapeFormed IsShallow shape_stands es vs f h

query_stands : (q : QueryShape) (vs : List Value) → QueryFormed q vs → holes (query_parts q) ≡ length vs
    → IsQuery (filled (query_parts q) vs) (list_with q.list (take (holes (list_parts q.list)) vs)) q.range (where_with q.filter (drop (holes (list_parts q.list)) vs))
query_stands q vs (f, r, g) h =
    let n = holes (list_parts q.list) in
    let qs = from_parts q.from q.filter in (
      filled (list_parts q.list) (take n vs),
      filled qs (drop n vs),
      list_stands q.list (take n vs) f (front_holes (list_parts q.list) qs vs h),
      from_stands q.range q.from q.filter (drop n vs) r g (back_holes (list_parts q.list) qs vs h),
      ap (λ z. plain kind.Select ∷ z) (filled_in_two (list_parts q.list) qs vs h),
    )

-- ---- the statements

source_stands : (s : SourceShape) (vs : List Value) → SourceFormed s vs → holes (source_parts s) ≡ length vs → IsSource (filled (source_parts s) vs) (source_with s vs)
source_stands (tuples ts) vs f h =
    (filled (series_parts tuple_parts ts) vs, series_stands tuple_parts tuple_with TupleFormed IsTuple tuple_stands ts vs f h, refl)
source_stands (query q) vs f h = query_stands q vs f h

pub values_stand_in_inserts : ValuesStandInInserts
values_stand_in_inserts s vs (c, f) h =
    let n : holes (source_parts s.rows) ≡ length vs = sym (holes_after s.column_words (source_parts s.rows)) ∙ h in (
      s.column_words,
      filled (source_parts s.rows) vs,
      c,
      source_stands s.rows vs f n,
      ap (λ z. plain kind.Insert ∷ plain kind.Into ∷ name s.table ∷ z) (filled_after s.column_words (source_parts s.rows) vs),
    )

assignment_stands : (s : AssignmentShape) (vs : List Value) → AssignmentFormed s vs → holes (assignment_parts s) ≡ length vs
    → IsAssignment (filled (assignment_parts s) vs) (assignment_with s vs)
assignment_stands s vs f h = (filled (value_parts s.value) vs, value_stands s.value vs f h, refl)

pub values_stand_in_updates : ValuesStandInUpdates
values_stand_in_updates s vs (f, g) h =
    let n = holes (set_parts s) in
    let qs = where_parts s.filter in (
      filled (set_parts s) (take n vs),
      filled qs (drop n vs),
      series_stands assignment_parts assignment_with AssignmentFormed IsAssignment assignment_stands s.assignments (take n vs) f (front_holes (set_parts s) qs vs h),
      where_stands s.filter (drop n vs) g (back_holes (set_parts s) qs vs h),
      ap (λ z. plain kind.Update ∷ name s.table ∷ plain kind.Set ∷ z) (filled_in_two (set_parts s) qs vs h),
    )

pub values_stand_in_deletes : ValuesStandInDeletes
values_stand_in_deletes s vs f h = (filled (where_parts s.filter) vs, where_stands s.filter vs f h, refl)

pub values_stand_in_selects : ValuesStandInSelects
values_stand_in_selects (count range from filter) vs (r, f) h =
    (filled (from_parts from filter) vs, from_stands range from filter vs r f h, refl)
values_stand_in_selects (rows q) vs f h = query_stands q vs f h
