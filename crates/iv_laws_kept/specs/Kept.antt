-- Kept violations: the rows of each key, by their numbers, and which keys violate a constraint as a whole.
use Rattle.std.specs.Prelude.{◌≡◌, ℕ, Bool, true, false, ◌&&◌, ◌||◌, not, if◌then◌else◌, ◌==◌, nat_lt, List, [], ◌∷◌, length, map, filter, filter_map, flat_map, find, slice_get, Option, Some, None}
use Rattle.std.specs.List.{list_any, list_all, enumerate_from}
use Rattle.iv_laws_kept.specs.Types.{Value, StoredRow, MatchType, NullTreatment, Constraint, Rule, ForeignKey, Fault}
use Rattle.iv_laws_kept.specs.Types.value.{Null}
use Rattle.iv_laws_kept.specs.Types.matching.{Simple, Full}
use Rattle.iv_laws_kept.specs.Types.nulls.{Distinct, NotDistinct}
use Rattle.iv_laws_kept.specs.Types.rule
use Rattle.iv_value.specs.Values.{is_null, all_same}
use Rattle.iv_value.specs.Truths.{is_false}
use Rattle.iv_expr.specs.Evaluation.{check_truth}
use Rattle.iv_key.specs.Keys.{key_of, value_at, none_null, all_null}
use Rattle.iv_machine.specs.Databases.{first}
use Rattle.iv_store.specs.Stores.{unique_columns, is_named_key, has_key, numbers_of}
use Rattle.iv_machine.specs.ReferentialActions.{foreign_key}
use Rattle.iv_laws_kept.specs.Numbers.{in_rising_order}

-- ---- the key under which a row is kept

-- the key of one null: under it are the rows that violate a constraint by themselves. No row has it as a key, since a constraint
-- that has such rows keeps no key with a null.
abbrev pub null_key : List Value
null_key = Null ∷ []

abbrev pub null_key_where : Bool → Option (List Value)
null_key_where true = Some null_key
null_key_where false = None

-- a key without nulls; with one, this in its place
abbrev pub key_or : List Value → Option (List Value) → Option (List Value)
key_or key other = if none_null key then Some key else other

-- a key that refers to no row and needs none: with a null under MATCH SIMPLE, every value null under MATCH FULL
abbrev pub is_free : MatchType → List Value → Bool
is_free Simple key = not (none_null key)
is_free Full key = all_null key

-- the key under which a UNIQUE keeps a row that has this key: if nulls are not distinct, keys with nulls are kept too
abbrev pub unique_key : NullTreatment → List Value → Option (List Value)
unique_key Distinct key = key_or key None
unique_key NotDistinct key = Some key

-- The key under which a rule keeps a row, if it keeps it.
abbrev pub kept_key : Rule → List Value → Option (List Value)
kept_key (rule.NotNull column) row = null_key_where (is_null (value_at row column))
kept_key (rule.Check condition) row = null_key_where (is_false (check_truth condition row))
kept_key (rule.Unique nulls columns) row = unique_key nulls (key_of columns row)
kept_key (rule.PrimaryKey columns) row = key_or (key_of columns row) (Some null_key)
kept_key (rule.ForeignKey fk) row = key_or (key_of fk.columns row) (null_key_where (not (is_free fk.matching (key_of fk.columns row))))

-- ---- groups

-- A group: the numbers of the rows that a constraint keeps under a key.
pub record Group : Type 0 where
  pub key : List Value
  pub rows : List ℕ

-- the rows under a key among the groups of a constraint
abbrev pub rows_in : List Group → List Value → List ℕ
rows_in groups key = elim (find (λ g. all_same g.key key) groups) [ Some g ↦ g.rows | None ↦ [] ]

-- The groups of all constraints, by the constraint's number.
abbrev pub Groups : Type 0
Groups = List (List Group)

abbrev pub groups_of : Groups → ℕ → List Group
groups_of groups id = elim (slice_get groups id) [ Some own ↦ own | None ↦ [] ]

-- the rows that the constraint of this number keeps under a key
abbrev pub rows_under : Groups → ℕ → List Value → List ℕ
rows_under groups id key = rows_in (groups_of groups id) key

-- no two groups have one key
abbrev pub OneEach : List Group → Type 0
OneEach [] = Unit {0}
OneEach (g ∷ groups) = (list_any (λ other. all_same other.key g.key) groups ≡ false) × OneEach groups

-- no two groups of a constraint have one key, for each constraint
abbrev pub KeysOnce : Groups → Type 0
KeysOnce groups = (id : ℕ) → OneEach (groups_of groups id)

-- a constraint keeps a row under this key
abbrev pub is_kept_under : Constraint → List Value → StoredRow → Bool
is_kept_under c key r = (r.table == c.table) && elim (kept_key c.rule r.values) [ Some k ↦ all_same k key | None ↦ false ]

-- The groups show these rows: under each key of each constraint are the numbers of the rows that it keeps there.
abbrev pub Show : List StoredRow → List Constraint → Groups → Type 0
Show rows constraints groups =
    (id : ℕ) (c : Constraint) (key : List Value)
    → slice_get constraints id ≡ Some c → rows_under groups id key ≡ numbers_of (filter (is_kept_under c key) rows)

-- ---- referenced keys

-- the value of a column in a key of these columns
abbrev pub value_in : List ℕ → List Value → ℕ → Value
value_in [] key column = Null
value_in (c ∷ columns) [] column = Null
value_in (c ∷ columns) (v ∷ key) column = if c == column then v else value_in columns key column

-- a key of some columns in the order of others
abbrev pub in_order_of : List ℕ → List ℕ → List Value → List Value
in_order_of others columns key = map (value_in columns key) others

-- some row can have this key in these columns: there is a value for each column, and one value if a column is named twice
abbrev pub can_be_key : List ℕ → List Value → Bool
can_be_key columns key = all_same (in_order_of columns columns key) key

-- A UNIQUE or a PRIMARY KEY, with its number among the constraints.
pub record KeyConstraint : Type 0 where
  pub id : ℕ
  pub columns : List ℕ

-- the constraint with its number, if it is the key that a foreign key names
abbrev pub named_by : ForeignKey → ℕ × Constraint → Option KeyConstraint
named_by fk k = elim (unique_columns k.1.rule) [
  | Some columns ↦ if is_named_key fk k.1 then Some (record { id = k.0; columns = columns }) else None
  | None ↦ None
]

-- The first key that a foreign key names.
abbrev pub named_key : List Constraint → ForeignKey → Option KeyConstraint
named_key constraints fk = first (filter_map (named_by fk) (enumerate_from 0 constraints))

abbrev pub is_empty : List ℕ → Bool
is_empty [] = true
is_empty (n ∷ numbers) = false

-- Whether some row has the key that is referenced.
abbrev pub is_referenced : List Constraint → Groups → ForeignKey → List Value → Bool
is_referenced constraints groups fk key = elim (named_key constraints fk) [
  | Some k ↦ can_be_key fk.key key && not (is_empty (rows_under groups k.id (in_order_of k.columns fk.key key)))
  | None ↦ false
]

-- ---- violations

-- a rule that keeps keys with nulls like others
abbrev pub keeps_nulls : Rule → Bool
keeps_nulls (rule.Unique NotDistinct columns) = true
keeps_nulls _ = false

-- each row under this key violates the rule by itself: the key has a null, and the rule doesn't keep such keys like others
abbrev pub violates_alone : Rule → List Value → Bool
violates_alone rule key = not (keeps_nulls rule) && not (none_null key)

-- whether rows that have this key violate the rule: more than one of a UNIQUE or PRIMARY KEY, any that refer to no row
abbrev pub break_rule : List Constraint → Groups → Rule → List Value → List ℕ → Bool
break_rule constraints groups (rule.NotNull column) key rows = false
break_rule constraints groups (rule.Check condition) key rows = false
break_rule constraints groups (rule.Unique nulls columns) key rows = nat_lt 1 (length rows)
break_rule constraints groups (rule.PrimaryKey columns) key rows = nat_lt 1 (length rows)
break_rule constraints groups (rule.ForeignKey fk) key rows = not (is_free fk.matching key || is_referenced constraints groups fk key)

-- Whether the rows of a group, all of them, violate the rule of its constraint.
abbrev pub violate : List Constraint → Groups → Rule → List Value → List ℕ → Bool
violate constraints groups rule key rows = not (is_empty rows) && (violates_alone rule key || break_rule constraints groups rule key rows)

-- Whether a group violates the rule of its constraint.
abbrev pub is_violating : List Constraint → Groups → Constraint → Group → Bool
is_violating constraints groups c g = violate constraints groups c.rule g.key g.rows

-- the rows of the violating groups of a constraint
abbrev pub kept_rows : List Constraint → Groups → ℕ → Constraint → List ℕ
kept_rows constraints groups id c = in_rising_order (flat_map (λ g. g.rows) (filter (is_violating constraints groups c) (groups_of groups id)))

abbrev pub fault_of : ℕ → ℕ → Fault
fault_of id row = record { constraint = id; row = row }

abbrev pub chosen_rows : List Constraint → Groups → (ℕ → Bool) → ℕ → Constraint → List Fault
chosen_rows constraints groups chosen id c = if chosen id then map (fault_of id) (kept_rows constraints groups id c) else []

-- The kept violations: all pairs of a chosen constraint and a row of one of its violating groups, in creation order of the constraints,
-- then by row.
abbrev pub kept : List Constraint → Groups → (ℕ → Bool) → List Fault
kept constraints groups chosen = flat_map (λ k. chosen_rows constraints groups chosen k.0 k.1) (enumerate_from 0 constraints)

-- the key that each foreign key names is among the constraints
abbrev pub AllNamed : List Constraint → Type 0
AllNamed constraints = list_all (λ c. has_key constraints (foreign_key c.rule)) constraints ≡ true
