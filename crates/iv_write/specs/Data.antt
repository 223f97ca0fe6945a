-- The words of INSERT, UPDATE, DELETE and SELECT.
use Rattle.std.specs.Prelude.{ℕ, Option, Some, None, List, [], ◌∷◌, ◌++◌}
use Rattle.iv_lex.specs.declared.kind.TokenKind.TheVariants as kind
use Rattle.iv_lex.specs.Words.{Word, name, plain}
use Rattle.iv_parse_terms.specs.Expressions.{spelling}
use Rattle.iv_write.specs.Types.{ValueOrDefault, InsertSource, Insert, Condition, RangeName, SelectList, Assignment, Update, Delete, Select}
use Rattle.iv_write.specs.Types.given.{Value, Default}
use Rattle.iv_write.specs.Types.source
use Rattle.iv_write.specs.Types.insert.{DefaultValues, Rows}
use Rattle.iv_write.specs.Types.select_list
use Rattle.iv_write.specs.Types.select
use Rattle.iv_write.specs.Parts.{series_words, enclosed_words}
use Rattle.iv_write.specs.Terms.{where_words, from_words}

abbrev pub name_words : List ℕ → List Word
name_words n = name n ∷ []

-- names with commas between them
abbrev pub names_words : List (List ℕ) → List Word
names_words = series_words name_words

abbrev pub value_words : ValueOrDefault → List Word
value_words (Value e) = spelling e
value_words Default = plain kind.Default ∷ []

-- a row of VALUES
abbrev pub tuple_words : List ValueOrDefault → List Word
tuple_words vs = enclosed_words (series_words value_words vs)

abbrev pub column_list_words : Option (List (List ℕ)) → List Word
column_list_words None = []
column_list_words (Some ns) = enclosed_words (names_words ns)

abbrev pub list_words : SelectList → List Word
list_words select_list.Star = plain kind.Asterisk ∷ []
list_words (select_list.Values es) = series_words spelling es

abbrev pub query_words : SelectList → RangeName → Option Condition → List Word
query_words l r c = plain kind.Select ∷ (list_words l ++ from_words r c)

abbrev pub source_words : InsertSource → List Word
source_words (source.Values ts) = plain kind.Values ∷ series_words tuple_words ts
source_words (source.Select l r c) = query_words l r c

abbrev pub insert_words : Insert → List Word
insert_words (DefaultValues t) = plain kind.Insert ∷ plain kind.Into ∷ name t ∷ plain kind.Default ∷ plain kind.Values ∷ []
insert_words (Rows t cs s) = plain kind.Insert ∷ plain kind.Into ∷ name t ∷ (column_list_words cs ++ source_words s)

abbrev pub assignment_words : Assignment → List Word
assignment_words a = name a.column ∷ plain kind.Equals ∷ value_words a.value

abbrev pub update_words : Update → List Word
update_words u = plain kind.Update ∷ name u.table ∷ plain kind.Set ∷ (series_words assignment_words u.assignments ++ where_words u.filter)

abbrev pub delete_words : Delete → List Word
delete_words d = plain kind.Delete ∷ plain kind.From ∷ name d.table ∷ where_words d.filter

abbrev pub select_words : Select → List Word
select_words (select.Count r c) =
    plain kind.Select ∷ plain kind.Count ∷ plain kind.LeftParenthesis ∷ plain kind.Asterisk ∷ plain kind.RightParenthesis ∷ from_words r c
select_words (select.Rows l r c) = query_words l r c
