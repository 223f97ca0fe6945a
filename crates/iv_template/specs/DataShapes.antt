-- Data statements with holes, and what they are with values at the holes. INSERT .. DEFAULT VALUES has no place for a hole.
use Rattle.std.specs.Prelude.{◌≡◌, ◌≤◌, ℕ, Option, Some, None, List, [], ◌∷◌, ◌++◌, map, length, take, drop}
use Rattle.iv_value.specs.declared.value.Value.{Value}
use Rattle.iv_lex.specs.declared.kind.TokenKind.TheVariants as kind
use Rattle.iv_lex.specs.Words.{Word, name, plain}
use Rattle.iv_syntax.specs.declared.limits.TheConstants.{DEEPEST_TREE}
use Rattle.iv_syntax.specs.Trees.{depth, condition_depth}
use Rattle.iv_parse_terms.specs.Expressions.{expression}
use Rattle.iv_parse_terms.specs.Conditions.{RangeSpelled, condition}
use Rattle.iv_parse_data.specs.Types.{Assignment, Condition, Delete, Insert, InsertSource, RangeName, Select, SelectList, Update, ValueOrDefault}
use Rattle.iv_parse_data.specs.Types.given as value_or
use Rattle.iv_parse_data.specs.Types.insert as insert_tree
use Rattle.iv_parse_data.specs.Types.source
use Rattle.iv_parse_data.specs.Types.select as select_tree
use Rattle.iv_parse_data.specs.Types.select_list
use Rattle.iv_parse_data.specs.Data.{IsColumnList, IsInsert, IsUpdate, IsDelete, IsSelect}
use Rattle.iv_template.specs.Templates.{Part, word, filled, holes}
use Rattle.iv_template.specs.Shapes.{FormedWithHoles, Shape, parts_of, with_values}
use Rattle.iv_template.specs.ConditionShapes.{ConditionFormedWithHoles, ConditionShape, condition_parts, condition_with}

-- ---- several with commas between them: each has the values of its own holes

module _ {A : Type 0} where
  -- further ones, each after a comma
  abbrev pub more_parts : (A → List Part) → List A → List Part
  more_parts parts [] = []
  more_parts parts (x ∷ xs) = word (plain kind.Comma) ∷ (parts x ++ more_parts parts xs)

  abbrev pub series_parts : (A → List Part) → List A → List Part
  series_parts parts [] = []
  series_parts parts (x ∷ xs) = parts x ++ more_parts parts xs

  abbrev pub each_with : {B : Type 0} → (A → List Part) → (A → List Value → B) → List A → List Value → List B
  each_with parts tree [] vs = []
  each_with parts tree (x ∷ xs) vs = tree x (take (holes (parts x)) vs) ∷ each_with parts tree xs (drop (holes (parts x)) vs)

  abbrev pub EachFormed : (A → List Part) → (A → List Value → Type 0) → List A → List Value → Type 0
  EachFormed parts IsFormed [] vs = Unit {0}
  EachFormed parts IsFormed (x ∷ xs) vs =
      IsFormed x (take (holes (parts x)) vs) × EachFormed parts IsFormed xs (drop (holes (parts x)) vs)

  -- one at least
  abbrev pub SeriesFormed : (A → List Part) → (A → List Value → Type 0) → List A → List Value → Type 0
  SeriesFormed parts IsFormed [] vs = ⊥
  SeriesFormed parts IsFormed (x ∷ xs) vs = EachFormed parts IsFormed (x ∷ xs) vs

-- ---- values, tuples and WHERE

-- the value expression is formed, and with these values it is no deeper than DEEPEST_TREE
abbrev pub ShapeFormed : Shape → List Value → Type 0
ShapeFormed s vs = FormedWithHoles expression s × (depth (with_values s vs) ≤ DEEPEST_TREE)

pub data ValueShape : Type 0 where
  expressed : Shape → ValueShape
  defaulted : ValueShape

abbrev pub value_parts : ValueShape → List Part
value_parts (expressed s) = parts_of s
value_parts defaulted = word (plain kind.Default) ∷ []

abbrev pub value_with : ValueShape → List Value → ValueOrDefault
value_with (expressed s) vs = value_or.Value (with_values s vs)
value_with defaulted vs = value_or.Default

abbrev pub ValueFormed : ValueShape → List Value → Type 0
ValueFormed (expressed s) vs = ShapeFormed s vs
ValueFormed defaulted vs = Unit {0}

abbrev pub tuple_parts : List ValueShape → List Part
tuple_parts values = word (plain kind.LeftParenthesis) ∷ (series_parts value_parts values ++ word (plain kind.RightParenthesis) ∷ [])

abbrev pub tuple_with : List ValueShape → List Value → List ValueOrDefault
tuple_with values vs = each_with value_parts value_with values vs

abbrev pub TupleFormed : List ValueShape → List Value → Type 0
TupleFormed values vs = SeriesFormed value_parts ValueFormed values vs

abbrev pub FilterFormed : ConditionShape → List Value → Type 0
FilterFormed c vs = ConditionFormedWithHoles condition c × (condition_depth (condition_with c vs) ≤ DEEPEST_TREE)

abbrev pub where_parts : Option ConditionShape → List Part
where_parts None = []
where_parts (Some c) = word (plain kind.Where) ∷ condition_parts c

abbrev pub where_with : Option ConditionShape → List Value → Option Condition
where_with None vs = None
where_with (Some c) vs = Some (condition_with c vs)

abbrev pub WhereFormed : Option ConditionShape → List Value → Type 0
WhereFormed None vs = Unit {0}
WhereFormed (Some c) vs = FilterFormed c vs

-- ---- queries: the words of a FROM are those of its range, up to its WHERE

pub data ListShape : Type 0 where
  star : ListShape
  listed : List Shape → ListShape

pub record QueryShape : Type 0 where
  pub list : ListShape
  pub range : RangeName
  pub from : List Word
  pub filter : Option ConditionShape

abbrev pub list_parts : ListShape → List Part
list_parts star = word (plain kind.Asterisk) ∷ []
list_parts (listed es) = series_parts parts_of es

abbrev pub list_with : ListShape → List Value → SelectList
list_with star vs = select_list.Star
list_with (listed es) vs = select_list.Values (each_with parts_of with_values es vs)

abbrev pub ListFormed : ListShape → List Value → Type 0
ListFormed star vs = Unit {0}
ListFormed (listed es) vs = SeriesFormed parts_of ShapeFormed es vs

abbrev pub from_parts : List Word → Option ConditionShape → List Part
from_parts from filter = map word from ++ where_parts filter

abbrev pub query_parts : QueryShape → List Part
query_parts q = word (plain kind.Select) ∷ (list_parts q.list ++ from_parts q.from q.filter)

abbrev pub QueryFormed : QueryShape → List Value → Type 0
QueryFormed q vs =
    ListFormed q.list (take (holes (list_parts q.list)) vs)
    × RangeSpelled q.range q.from × WhereFormed q.filter (drop (holes (list_parts q.list)) vs)

-- ---- INSERT

pub data SourceShape : Type 0 where
  tuples : List (List ValueShape) → SourceShape
  query : QueryShape → SourceShape

-- the words of the column list are those of its columns
pub record InsertShape : Type 0 where
  pub table : List ℕ
  pub columns : Option (List (List ℕ))
  pub column_words : List Word
  pub rows : SourceShape

abbrev pub source_parts : SourceShape → List Part
source_parts (tuples ts) = word (plain kind.Values) ∷ series_parts tuple_parts ts
source_parts (query q) = query_parts q

abbrev pub source_with : SourceShape → List Value → InsertSource
source_with (tuples ts) vs = source.Values (each_with tuple_parts tuple_with ts vs)
source_with (query q) vs =
    source.Select (list_with q.list (take (holes (list_parts q.list)) vs)) q.range (where_with q.filter (drop (holes (list_parts q.list)) vs))

abbrev pub SourceFormed : SourceShape → List Value → Type 0
SourceFormed (tuples ts) vs = SeriesFormed tuple_parts TupleFormed ts vs
SourceFormed (query q) vs = QueryFormed q vs

abbrev pub insert_parts : InsertShape → List Part
insert_parts i = word (plain kind.Insert) ∷ word (plain kind.Into) ∷ word (name i.table) ∷ (map word i.column_words ++ source_parts i.rows)

abbrev pub insert_with : InsertShape → List Value → Insert
insert_with i vs = insert_tree.Rows i.table i.columns (source_with i.rows vs)

abbrev pub InsertFormed : InsertShape → List Value → Type 0
InsertFormed i vs = IsColumnList i.column_words i.columns × SourceFormed i.rows vs

-- ---- UPDATE, DELETE and SELECT

pub record AssignmentShape : Type 0 where
  pub column : List ℕ
  pub value : ValueShape

abbrev pub assignment_parts : AssignmentShape → List Part
assignment_parts a = word (name a.column) ∷ word (plain kind.Equals) ∷ value_parts a.value

abbrev pub assignment_with : AssignmentShape → List Value → Assignment
assignment_with a vs = record { column = a.column; value = value_with a.value vs }

abbrev pub AssignmentFormed : AssignmentShape → List Value → Type 0
AssignmentFormed a vs = ValueFormed a.value vs

pub record UpdateShape : Type 0 where
  pub table : List ℕ
  pub assignments : List AssignmentShape
  pub filter : Option ConditionShape

abbrev pub set_parts : UpdateShape → List Part
set_parts u = series_parts assignment_parts u.assignments

abbrev pub update_parts : UpdateShape → List Part
update_parts u = word (plain kind.Update) ∷ word (name u.table) ∷ word (plain kind.Set) ∷ (set_parts u ++ where_parts u.filter)

abbrev pub update_with : UpdateShape → List Value → Update
update_with u vs = record {
  table = u.table;
  assignments = each_with assignment_parts assignment_with u.assignments (take (holes (set_parts u)) vs);
  filter = where_with u.filter (drop (holes (set_parts u)) vs);
}

abbrev pub UpdateFormed : UpdateShape → List Value → Type 0
UpdateFormed u vs =
    SeriesFormed assignment_parts AssignmentFormed u.assignments (take (holes (set_parts u)) vs)
    × WhereFormed u.filter (drop (holes (set_parts u)) vs)

pub record DeleteShape : Type 0 where
  pub table : List ℕ
  pub filter : Option ConditionShape

abbrev pub delete_parts : DeleteShape → List Part
delete_parts d = word (plain kind.Delete) ∷ word (plain kind.From) ∷ word (name d.table) ∷ where_parts d.filter

abbrev pub delete_with : DeleteShape → List Value → Delete
delete_with d vs = record { table = d.table; filter = where_with d.filter vs }

pub data SelectShape : Type 0 where
  count : RangeName → List Word → Option ConditionShape → SelectShape
  rows : QueryShape → SelectShape

abbrev pub count_parts : List Part → List Part
count_parts ps =
    word (plain kind.Select) ∷ word (plain kind.Count) ∷ word (plain kind.LeftParenthesis) ∷ word (plain kind.Asterisk)
    ∷ word (plain kind.RightParenthesis) ∷ ps

abbrev pub select_parts : SelectShape → List Part
select_parts (count range from filter) = count_parts (from_parts from filter)
select_parts (rows q) = query_parts q

abbrev pub select_with : SelectShape → List Value → Select
select_with (count range from filter) vs = select_tree.Count range (where_with filter vs)
select_with (rows q) vs =
    select_tree.Rows (list_with q.list (take (holes (list_parts q.list)) vs)) q.range (where_with q.filter (drop (holes (list_parts q.list)) vs))

abbrev pub SelectFormed : SelectShape → List Value → Type 0
SelectFormed (count range from filter) vs = RangeSpelled range from × WhereFormed filter vs
SelectFormed (rows q) vs = QueryFormed q vs

-- ---- The words of a filled statement are a statement of the grammar, and its tree is that of the template with the values' expressions
-- at its holes.

abbrev pub ValuesStandInInserts : Type 0
ValuesStandInInserts = (s : InsertShape) (vs : List Value) → InsertFormed s vs → holes (insert_parts s) ≡ length vs
    → IsInsert (filled (insert_parts s) vs) (insert_with s vs)

abbrev pub ValuesStandInUpdates : Type 0
ValuesStandInUpdates = (s : UpdateShape) (vs : List Value) → UpdateFormed s vs → holes (update_parts s) ≡ length vs
    → IsUpdate (filled (update_parts s) vs) (update_with s vs)

abbrev pub ValuesStandInDeletes : Type 0
ValuesStandInDeletes = (s : DeleteShape) (vs : List Value) → WhereFormed s.filter vs → holes (delete_parts s) ≡ length vs
    → IsDelete (filled (delete_parts s) vs) (delete_with s vs)

abbrev pub ValuesStandInSelects : Type 0
ValuesStandInSelects = (s : SelectShape) (vs : List Value) → SelectFormed s vs → holes (select_parts s) ≡ length vs
    → IsSelect (filled (select_parts s) vs) (select_with s vs)
