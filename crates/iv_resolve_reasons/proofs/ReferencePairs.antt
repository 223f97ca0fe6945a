-- The referencing columns with those that they refer to, from a place on.
use Rattle.std.proofs.Common.{◌≡◌, refl, ℕ, ◌+◌, ◌<◌, ◌≤◌, List, length, drop, get_or, slice_get, Some, None, zip}
use Rattle.std.specs.Option.{option_or}
use Rattle.iv_resolution.specs.Scopes.{NamedColumn, type_named}
use Rattle.iv_resolve_scope.proofs.Places.{next_of, none_left, next_got, none_at, no_pair}
use Rattle.iv_resolve_reasons.specs.SchemaFaults.{fault_of_types, types_told}

pub types_step : (columns others : List NamedColumn) (names referenced : List (List ℕ)) (i : ℕ) (n m : List ℕ)
    → i < length names → n ≡ get_or names i n → slice_get referenced i ≡ Some m
    → fault_of_types columns others (zip (drop i names) (drop i referenced))
    ≡ option_or (types_told n (type_named columns n) m (type_named others m)) (fault_of_types columns others (zip (drop (i + 1) names) (drop (i + 1) referenced)))
unfolding fault_of_types
types_step columns others names referenced i n m h e g = rw (next_of names i n h e, next_got referenced i m g) refl

pub types_past : (columns others : List NamedColumn) (names referenced : List (List ℕ)) (i : ℕ)
    → slice_get referenced i ≡ None → fault_of_types columns others (zip (drop i names) (drop i referenced)) ≡ None
unfolding fault_of_types
types_past columns others names referenced i g = rw (no_pair (drop i names) (drop i referenced) (none_at referenced i g)) refl

pub types_end : (columns others : List NamedColumn) (names referenced : List (List ℕ)) (i : ℕ)
    → length names ≤ i → fault_of_types columns others (zip (drop i names) (drop i referenced)) ≡ None
unfolding fault_of_types
types_end columns others names referenced i h = rw (none_left names i h) refl
