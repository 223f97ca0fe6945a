-- What is known of a store beside its state.
use Rattle.std.specs.Prelude.{◌≡◌, ℕ, List, length}
use Rattle.iv_tests_stores.specs.Types.{Table, Constraint}
use Rattle.iv_store.specs.Stores.{StoreState}

-- A store has these tables and constraints, and so many marks.
pub record IsKnown (s : StoreState) (own : List Table) (rules : List Constraint) (count : ℕ) : Type 0 where
  pub tables : s.tables ≡ own
  pub constraints : s.constraints ≡ rules
  pub marks : length s.marks ≡ count
