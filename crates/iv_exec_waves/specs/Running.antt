-- What running a part of a data statement leaves of the store that it runs over.
use Rattle.std.specs.Prelude.{◌≡◌, ℕ, Result, OnOk}
use Rattle.iv_catalogue.specs.Catalogues.{Schema}
use Rattle.iv_catalogue.specs.declared.cause.Refusal.{Refusal}
use Rattle.iv_store.specs.Lookups.{LooksUp}
use Rattle.iv_store.specs.Stores.{StoreState}
use Rattle.iv_laws_rows.specs.Changing.{StoreFits, UnlessMemory, with_database}

-- From the store before, with its count of look-ups, to the store after: the tables, constraints and marks stay, even if the part is
-- refused; few keys were looked up, unless an allocation failed; and the rows fit, if it isn't refused.
pub record LeavesStore {A : Type 0} (schema : Schema) (result : Result A Refusal) (old : StoreState) (before : ℕ) (new : StoreState) (after : ℕ) : Type 0 where
  pub kept : new ≡ with_database old new.base
  pub looked_up : UnlessMemory result (LooksUp old before new after)
  pub fits : OnOk result (StoreFits schema new)
