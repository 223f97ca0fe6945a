-- The referencing columns with those that they refer to, from a place on.
use Rattle.std.proofs.Common.{◌≡◌, refl, ℕ, ◌+◌, ◌<◌, ◌≤◌, false, ◌||◌, List, length, drop, get_or, slice_get, Some, None, zip}
use Rattle.iv_resolution.specs.Constraints.{types_differ}
use Rattle.iv_resolution.specs.Scopes.{NamedColumn, type_named}
use Rattle.iv_resolve_scope.proofs.Places.{next_of, none_left, next_got, none_at, no_pair}
use Rattle.iv_resolve_tables.specs.Pairs.{some_pair_differs}

pub pair_step : (columns others : List NamedColumn) (names referenced : List (List ℕ)) (i : ℕ) (n m : List ℕ)
    → i < length names → n ≡ get_or names i n → slice_get referenced i ≡ Some m
    → some_pair_differs columns others (zip (drop i names) (drop i referenced))
    ≡ (types_differ (type_named columns n) (type_named others m) || some_pair_differs columns others (zip (drop (i + 1) names) (drop (i + 1) referenced)))
unfolding some_pair_differs
pair_step columns others names referenced i n m h e g = rw (next_of names i n h e, next_got referenced i m g) refl

pub pair_past : (columns others : List NamedColumn) (names referenced : List (List ℕ)) (i : ℕ)
    → slice_get referenced i ≡ None → some_pair_differs columns others (zip (drop i names) (drop i referenced)) ≡ false
unfolding some_pair_differs
pair_past columns others names referenced i g = rw (no_pair (drop i names) (drop i referenced) (none_at referenced i g)) refl

pub pair_end : (columns others : List NamedColumn) (names referenced : List (List ℕ)) (i : ℕ)
    → length names ≤ i → some_pair_differs columns others (zip (drop i names) (drop i referenced)) ≡ false
unfolding some_pair_differs
pair_end columns others names referenced i h = rw (none_left names i h) refl
