-- When nothing is told.
use Rattle.std.proofs.Common.{◌≡◌, refl, ℕ, zero, suc, Bool, true, false, not, List, [], ◌∷◌, Option, Some, None, is_some, option_map, slice_get}
use Rattle.std.specs.Option.{option_or}
use Rattle.iv_resolution.specs.Scopes.{NamedColumn, has_column}
use Rattle.iv_resolution.specs.Items.{column_item, told_if, first_of}
use Rattle.iv_resolution.specs.NameFaults.{unknown_in_columns}

-- what is told, if anything is
pub some_of : {A : Type 0} (o : Option A) → is_some o ≡ true → (x : A) × (o ≡ Some x)
some_of None h = cc
some_of (Some x) h = (x, refl)

pub none_of : {A : Type 0} (o : Option A) → is_some o ≡ false → o ≡ None
none_of None h = refl
none_of (Some x) h = cc

pub none_parts : {A : Type 0} (a b : Option A) → option_or a b ≡ None → (a ≡ None) × (b ≡ None)
none_parts None b h = (refl, h)
none_parts (Some x) b h = cc

pub none_both : {A : Type 0} (a b : Option A) → a ≡ None → b ≡ None → option_or a b ≡ None
none_both None b h g = g
none_both (Some x) b h g = h

-- the test doesn't say so
pub untold : {A : Type 0} (b : Bool) (x : A) → told_if b x ≡ None → b ≡ false
untold true x h = cc
untold false x h = refl

pub none_mapped : {A B : Type 0} (f : A → B) (o : Option A) → option_map f o ≡ None → o ≡ None
none_mapped f None h = refl
none_mapped f (Some x) h = cc

-- nothing is told of the element at a place
pub none_told : {A B : Type 0} (f : A → Option B) (xs : List A) → first_of f xs ≡ None → (place : ℕ) (x : A) → slice_get xs place ≡ Some x → f x ≡ None
none_told f [] h place x g = cc
none_told f (y ∷ ys) h zero x g = by (none_parts (f y) (first_of f ys) h).0 g
  where
    by : f y ≡ None → Some y ≡ Some x → f x ≡ None
    by e s = cc
none_told f (y ∷ ys) h (suc n) x g = none_told f ys (none_parts (f y) (first_of f ys) h).1 n x g

-- each name of a list of columns names a column
pub known_column : (columns : List NamedColumn) (names : List (List ℕ)) → unknown_in_columns columns names ≡ None → (place : ℕ) (name : List ℕ) → slice_get names place ≡ Some name
    → not (has_column columns name) ≡ false
known_column columns names h place name g =
    untold (not (has_column columns name)) (column_item None name) (none_told (λ n. told_if (not (has_column columns n)) (column_item None n)) names h place name g)
