-- The sides of a change, as a constraint keeps them.
use Rattle.std.specs.Prelude.{◌≡◌, ℕ, Bool, true, false, ◌&&◌, if◌then◌else◌, ◌==◌, List, slice_get, Option, Some, None}
use Rattle.iv_store_following.specs.Types.{Value, Change, Constraint, ForeignKey}
use Rattle.iv_value.specs.Values.{all_same}
use Rattle.iv_key.specs.Keys.{key_of, none_null}
use Rattle.iv_laws_kept.specs.Kept.{Groups, kept_key, rows_under}
use Rattle.iv_laws_kept.specs.Numbers.{has, with_number}

-- the key under which a constraint keeps one side of a change in a table, if it keeps it
abbrev pub side_key : Constraint → ℕ → Option (List Value) → Option (List Value)
side_key c table None = None
side_key c table (Some values) = if table == c.table then kept_key c.rule values else None

-- a key that may be missing is this one
abbrev pub is_key : Option (List Value) → List Value → Bool
is_key None key = false
is_key (Some k) key = all_same k key

-- both keys are missing, or they are the same
abbrev pub is_one_key : Option (List Value) → Option (List Value) → Bool
is_one_key None None = true
is_one_key (Some a) (Some b) = all_same a b
is_one_key _ _ = false

-- a constraint keeps the two sides of a change under one key, or keeps neither
abbrev pub stays_put : Constraint → Change → Bool
stays_put c change = is_one_key (side_key c change.table change.old) (side_key c change.table change.new)

-- these numbers with one more, if it comes to them
abbrev pub come : Bool → ℕ → List ℕ → List ℕ
come is n numbers = if is then with_number n numbers else numbers

-- the key of one side of a change that rows refer to by a foreign key, if it is a row of the referenced table and has no null
abbrev pub referenced_key : ForeignKey → ℕ → Option (List Value) → Option (List Value)
referenced_key fk table None = None
referenced_key fk table (Some values) = if (table == fk.referenced) && none_null (key_of fk.key values) then Some (key_of fk.key values) else None

-- The groups hold the changed row where each constraint keeps its old side.
abbrev pub IsPresent : List Constraint → Groups → Change → Type 0
IsPresent constraints groups change =
    (id : ℕ) (c : Constraint) (key : List Value)
    → slice_get constraints id ≡ Some c → side_key c change.table change.old ≡ Some key → has change.row (rows_under groups id key) ≡ true
