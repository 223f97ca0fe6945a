-- The groups of one constraint: what calls do to them, and which violate its rule.
use Rattle.std.specs.Prelude.{◌≡◌, ℕ, zero, suc, Bool, false, ◌&&◌, ◌||◌, not, if◌then◌else◌, nat_lt, List, [], ◌∷◌, length, map, Option, Some, None, option_map}
use Rattle.iv_store_following.specs.Types.{Value, Rule}
use Rattle.iv_store_following.specs.Types.rule
use Rattle.iv_value.specs.Values.{all_same}
use Rattle.iv_store_violating.specs.Flagging.{flag}
use Rattle.iv_laws_kept.specs.Numbers.{with_number, without}
use Rattle.iv_laws_kept.specs.GroupFlags.{rows_at}
use Rattle.iv_laws_kept.specs.Kept.{Group, is_free, violates_alone}

-- the place of a key's group
abbrev pub place_of : List Group → List Value → Option ℕ
place_of [] key = None
place_of (g ∷ groups) key = if all_same g.key key then Some 0 else option_map (λ place. suc place) (place_of groups key)

-- the groups with other rows in the group at a place
abbrev pub with_rows : List Group → ℕ → List ℕ → List Group
with_rows [] place rows = []
with_rows (g ∷ groups) zero rows = record g { rows = rows } ∷ groups
with_rows (g ∷ groups) (suc place) rows = g ∷ with_rows groups place rows

-- a group of no row
abbrev pub empty_group : List Value → Group
empty_group key = record { key = key; rows = [] }

-- whether rows that have this key violate the rule, if it is known which keys are referenced
abbrev pub break_by : (List Value → Bool) → Rule → List Value → ℕ → Bool
break_by referenced (rule.NotNull column) key count = false
break_by referenced (rule.Check condition) key count = false
break_by referenced (rule.Unique nulls columns) key count = nat_lt 1 count
break_by referenced (rule.PrimaryKey columns) key count = nat_lt 1 count
break_by referenced (rule.ForeignKey fk) key count = not (is_free fk.matching key || referenced key)

-- Whether so many rows under a key violate the rule.
abbrev pub violate_by : (List Value → Bool) → Rule → List Value → ℕ → Bool
violate_by referenced rule key count = nat_lt 0 count && (violates_alone rule key || break_by referenced rule key count)

abbrev pub group_violates : (List Value → Bool) → Rule → Group → Bool
group_violates referenced rule g = violate_by referenced rule g.key (length g.rows)

-- The flagged groups are the violating ones; a place with no group isn't flagged.
abbrev pub Flagged : (List Value → Bool) → Rule → List Group → List Bool → Type 0
Flagged referenced rule groups violating = (place : ℕ) → flag violating place ≡ flag (map (group_violates referenced rule) groups) place

-- the groups with one of no row behind them, if the key had none
abbrev pub with_group : List Value → List Group → List Group
with_group key [] = empty_group key ∷ []
with_group key (g ∷ groups) = if all_same g.key key then g ∷ groups else g ∷ with_group key groups

-- the groups with a row more in the group at a place, and with a row less
abbrev pub rows_put : List Group → ℕ → ℕ → List Group
rows_put groups place row = with_rows groups place (with_number row (rows_at groups place))

abbrev pub rows_taken : List Group → ℕ → ℕ → List Group
rows_taken groups place row = with_rows groups place (without row (rows_at groups place))
