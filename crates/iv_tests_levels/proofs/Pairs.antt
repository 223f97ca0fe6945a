-- The store of pairs fits their schema.
use Rattle.std.proofs.Common.{◌≡◌, true, [], ◌∷◌, refl}
use Rattle.iv_catalogue.specs.Names.{has_repeated}
use Rattle.iv_laws_fitting.specs.PlanShapes.{table_suits}
use Rattle.iv_store.specs.Stores.{empty_store, store_with_table}
use Rattle.iv_laws_rows.specs.Changing.{StoreFits}
use Rattle.iv_tests_levels.specs.Pairs.{pair_keys, pair_table}

-- no name comes twice
pair_table_suits : table_suits pair_table ≡ true
unfolding has_repeated
pair_table_suits = refl

-- both have the table and its constraints
pub pairs_fit : StoreFits (record { tables = pair_table ∷ []; constraints = pair_keys; triggers = []; created = 0 }) (store_with_table empty_store pair_table pair_keys)
pairs_fit = record {
  tables = refl;
  constraints = refl;
  suits = record { tables = rw pair_table_suits refl; constraints = refl; triggers = refl };
  rows = refl;
}
