-- Keys: the values of some columns of a row, and when a row holds one.
use Rattle.std.specs.Prelude.{ℕ, Bool, ◌&&◌, not, List, map, slice_get, Some, None}
use Rattle.std.specs.List.{list_all}
use Rattle.iv_value.specs.declared.value.Value.{Value}
use Rattle.iv_value.specs.declared.value.Value.TheVariants.{Null}
use Rattle.iv_value.specs.Values.{is_null, all_same}

-- the value of a column by its place
abbrev pub value_at : List Value → ℕ → Value
value_at row column = elim (slice_get row column) [ Some v ↦ v | None ↦ Null ]

-- the values of some columns of a row
abbrev pub key_of : List ℕ → List Value → List Value
key_of columns row = map (value_at row) columns

abbrev pub none_null : List Value → Bool
none_null key = list_all (λ v. not (is_null v)) key

abbrev pub all_null : List Value → Bool
all_null key = list_all is_null key

-- a row holds a key if its columns are all non-null and equal the key
abbrev pub holds_key : List ℕ → List Value → List Value → Bool
holds_key columns key row = none_null (key_of columns row) && all_same (key_of columns row) key
