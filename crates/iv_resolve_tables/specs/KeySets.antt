-- Sets of names as the code holds them, and the sets of columns that are looked for among them.
use Rattle.std.specs.Prelude.{◌≡◌, ℕ, Bool, ◌||◌, List, String}
use Rattle.std.specs.List.{list_any}
use Rattle.std.specs.declared.cmp.Ordering.{Ordering}
use Rattle.std.specs.Cmp.Lexicographic.{slice_cmp}
use Rattle.std.specs.String.{string_cmp}
use Rattle.std.specs.BTreeSet.{BTreeSet, IsOrdered, contains, contains_text}
use Rattle.iv_catalogue.specs.Names.{is_among}
use Rattle.iv_resolution.specs.Scopes.{NamedColumn}
use Rattle.iv_resolution.specs.Constraints.{WrittenConstraint, is_reliable, written_keys}

abbrev pub set_cmp : {Y : Type 0} → BTreeSet (String Y) → BTreeSet (String Y) → Ordering
set_cmp s t = slice_cmp string_cmp s.keys t.keys

-- the set has these names and no other
unfoldable pub HasNames : {Y : Type 0} → BTreeSet (String Y) → List (List ℕ) → Type 0
HasNames set names = IsOrdered string_cmp set × ((name : List ℕ) → contains_text set name ≡ is_among names name)

-- a set of names is among the sets if p says so
unfoldable pub Finds : {Y : Type 0} → BTreeSet (BTreeSet (String Y)) → (List (List ℕ) → Bool) → Type 0
Finds {Y} sets p = (set : BTreeSet (String Y)) (names : List (List ℕ)) → HasNames set names → contains set_cmp sets set ≡ p names

-- those among new are those among old, and those for which p
unfoldable pub Gains : {Y : Type 0} → BTreeSet (BTreeSet (String Y)) → BTreeSet (BTreeSet (String Y)) → (List (List ℕ) → Bool) → Type 0
Gains {Y} old new p =
    (set : BTreeSet (String Y)) (names : List (List ℕ)) → HasNames set names → contains set_cmp new set ≡ (contains set_cmp old set || p names)

-- the sets are on the way from old to those that gain all by p: what is still to come is q
unfoldable pub GainsOf : {Y : Type 0} → BTreeSet (BTreeSet (String Y)) → BTreeSet (BTreeSet (String Y)) → (List (List ℕ) → Bool) → (List (List ℕ) → Bool) → Type 0
GainsOf {Y} old now p q =
    (set : BTreeSet (String Y)) (names : List (List ℕ)) → HasNames set names
    → (contains set_cmp now set || q names) ≡ (contains set_cmp old set || p names)

-- one of the constraints is a key of this set of columns that is NOT DEFERRABLE
unfoldable pub some_reliable : List NamedColumn → List WrittenConstraint → List (List ℕ) → Bool
some_reliable columns constraints names = list_any (is_reliable names) (written_keys columns constraints)
