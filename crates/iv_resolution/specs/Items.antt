-- What a statement names, what is wrong with a name, and the first of a list.
use Rattle.std.specs.Prelude.{ℕ, Bool, if◌then◌else◌, List, [], ◌∷◌, ◌++◌, Option, Some, None}
use Rattle.std.specs.Option.{option_or}
use Rattle.iv_catalogue.specs.Names.{is_among}

-- What a statement names: a table, a transition table or what a FROM names; a column, with the range or row variable that is written
-- before it; a row variable of SET; a trigger; a constraint, by its name or by the table and the place that its name is made of; a name
-- that REFERENCING gives.
pub data Item : Type 0 where
  table_item : List ℕ → Item
  column_item : Option (List ℕ) → List ℕ → Item
  variable_item : List ℕ → Item
  trigger_item : List ℕ → Item
  constraint_item : List ℕ → Item
  generated_item : List ℕ → ℕ → Item
  transition_item : List ℕ → Item

-- what is wrong with a name: it names nothing, it is in use, or it comes twice
pub data Fault : Type 0 where
  unknown_fault : Item → Fault
  in_use_fault : Item → Fault
  twice_fault : Item → Fault

-- what is told if the test says so
abbrev pub told_if : {A : Type 0} → Bool → A → Option A
told_if b x = if b then Some x else None

-- the first that is told of an element of the list
abbrev pub first_of : {A B : Type 0} → (A → Option B) → List A → Option B
first_of f [] = None
first_of f (x ∷ xs) = option_or (f x) (first_of f xs)

-- the first element whose name is among those before it: the names before the list, and those of its elements before this one
abbrev pub first_again : {A : Type 0} → (A → List ℕ) → List (List ℕ) → List A → Option A
first_again name before [] = None
first_again name before (x ∷ xs) = if is_among before (name x) then Some x else first_again name (before ++ name x ∷ []) xs
