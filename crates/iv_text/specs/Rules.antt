-- What a constraint asks, in the words of its definition, and which constraints are told with these words.
use Rattle.std.specs.Prelude.{ℕ, Bool, true, false, if◌then◌else◌, List, [], ◌∷◌, ◌++◌, codes, drop, length, slice_get, take, Option, Some, None}
use Rattle.std.specs.Char.{is_ascii_digit}
use Rattle.std.specs.List.{flat_map}
use Rattle.std.specs.Str.{bytes_eq}
use Rattle.iv_syntax.specs.declared.table.MatchType.{MatchType}
use Rattle.iv_syntax.specs.declared.table.MatchType.TheVariants.{Simple, Full}
use Rattle.iv_syntax.specs.declared.table.NullTreatment.{NullTreatment}
use Rattle.iv_syntax.specs.declared.table.NullTreatment.TheVariants.{Distinct, NotDistinct}
use Rattle.iv_catalogue.specs.Catalogues.{Schema}
use Rattle.iv_catalogue.specs.declared.catalogue.Column.{Column}
use Rattle.iv_catalogue.specs.declared.catalogue.Table.{Table}
use Rattle.iv_catalogue.specs.declared.constraint.Constraint.{Constraint}
use Rattle.iv_catalogue.specs.declared.constraint.ForeignKey.{ForeignKey}
use Rattle.iv_catalogue.specs.declared.constraint.Rule.{Rule}
use Rattle.iv_catalogue.specs.declared.constraint.Rule.TheVariants as rule
use Rattle.iv_text.specs.Lines.{column_name, table_name}

-- the columns of a table that is there
abbrev pub columns_of : Option Table → List Column
columns_of (Some t) = t.columns
columns_of None = []

-- the name of the column at this place
abbrev pub name_at : List Column → ℕ → List ℕ
name_at columns place = column_name (slice_get columns place)

-- a name after another
abbrev pub further_name : List Column → ℕ → List ℕ
further_name columns place = codes ", " ++ name_at columns place

unfoldable pub names_text : List Column → List ℕ → List ℕ
names_text columns [] = []
names_text columns (place ∷ places) = name_at columns place ++ flat_map (further_name columns) places

-- the names of the columns at these places, in parentheses
unfoldable pub names_listed : List Column → List ℕ → List ℕ
names_listed columns places = codes " (" ++ (names_text columns places ++ codes ")")

abbrev pub nulls_words : NullTreatment → List ℕ
nulls_words Distinct = []
nulls_words NotDistinct = codes " NULLS NOT DISTINCT"

abbrev pub match_words : MatchType → List ℕ
match_words Simple = []
match_words Full = codes " MATCH FULL"

-- the table and the columns that a foreign key refers to
unfoldable pub references_words : Schema → ForeignKey → List ℕ
references_words s k =
    codes " REFERENCES "
    ++ (table_name (slice_get s.tables k.referenced)
    ++ (names_listed (columns_of (slice_get s.tables k.referenced)) k.key ++ match_words k.matching))

-- What a rule asks of a row of a table with these columns. A CHECK is told without its condition, a foreign key without its actions.
abbrev pub rule_words : Schema → List Column → Rule → List ℕ
rule_words s columns (rule.NotNull column) = codes "NOT NULL " ++ name_at columns column
rule_words s columns (rule.Check condition) = codes "CHECK"
rule_words s columns (rule.Unique nulls places) = codes "UNIQUE" ++ (nulls_words nulls ++ names_listed columns places)
rule_words s columns (rule.PrimaryKey places) = codes "PRIMARY KEY" ++ names_listed columns places
rule_words s columns (rule.ForeignKey k) = codes "FOREIGN KEY" ++ (names_listed columns k.columns ++ references_words s k)

-- so of a constraint, by its table
abbrev pub constraint_words : Schema → Constraint → List ℕ
constraint_words s k = rule_words s (columns_of (slice_get s.tables k.table)) k.rule

-- ---- which names say nothing

-- what a text has after this front, if it begins with it
abbrev pub after_front : List ℕ → List ℕ → Option (List ℕ)
after_front front text = if bytes_eq (take (length front) text) front then Some (drop (length front) text) else None

abbrev pub begins_with_digit : List ℕ → Bool
begins_with_digit [] = false
begins_with_digit (c ∷ cs) = is_ascii_digit c

-- after the name of the table comes _C, and then a digit
abbrev pub has_number : Option (List ℕ) → Bool
has_number (Some rest) = elim (after_front (codes "_C") rest) [ Some digits ↦ begins_with_digit digits | None ↦ false ]
has_number None = false

-- The name begins as one that was generated: T_C1, T_C2 ..
abbrev pub is_generated : Option Table → List ℕ → Bool
is_generated t name = has_number (after_front (table_name t) name)

-- these words in parentheses, if they are asked for
abbrev pub words_if : Bool → List ℕ → List ℕ
words_if true words = codes " (" ++ (words ++ codes ")")
words_if false words = []

-- A constraint by its name, and what it asks, if its name was generated.
abbrev pub described_text : Schema → Option Constraint → List ℕ
described_text s (Some k) = k.name ++ words_if (is_generated (slice_get s.tables k.table) k.name) (constraint_words s k)
described_text s None = []
