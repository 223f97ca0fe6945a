-- Rows still fit if there are more tables.
use Rattle.std.proofs.Common.{◌≡◌, ℕ, zero, suc, true, List, [], ◌∷◌, ◌++◌, ◌∙◌, Option, Some, None, refl, ap, slice_get}
use Rattle.std.proofs.lemmas.Bool.{and_from, and_parts}
use Rattle.iv_laws_rows.specs.Types.{Value, Table}
use Rattle.iv_store.specs.Stores.{fits_table}
use Rattle.iv_laws_rows.specs.RowFits.{row_fits, rows_fit}
use Rattle.iv_laws_rows.specs.Laws.{RowsFitMoreTables}
use Rattle.iv_laws_rows.proofs.FittingValues.{table_fits}

still_there : (tables more : List Table) (place : ℕ) (t : Table) → slice_get tables place ≡ Some t → slice_get (tables ++ more) place ≡ Some t
still_there [] more place t h = cc
still_there (x ∷ xs) more zero t h = h
still_there (x ∷ xs) more (suc n) t h = still_there xs more n t h

values_still_fit : (tables more : List Table) (table : ℕ) (values : List Value) → fits_table tables table values ≡ true → fits_table (tables ++ more) table values ≡ true
values_still_fit tables more table values h = by (slice_get tables table) refl h
  where
    by : (o : Option Table) → slice_get tables table ≡ o → table_fits o values ≡ true → fits_table (tables ++ more) table values ≡ true
    by None e g = cc
    by (Some t) e g = ap (λ (o : Option Table). table_fits o values) (still_there tables more table t e) ∙ g

pub rows_fit_more_tables : RowsFitMoreTables
rows_fit_more_tables tables more [] h = refl
rows_fit_more_tables tables more (r ∷ rows) h =
    let parts = and_parts (row_fits tables r) (rows_fit tables rows) h in
    and_from _ _ (values_still_fit tables more r.table r.values parts.0) (rows_fit_more_tables tables more rows parts.1)
