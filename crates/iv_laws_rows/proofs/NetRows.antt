-- The net changes of a chain of waves fit.
use Rattle.std.proofs.Common.{◌≡◌, Bool, true, ◌&&◌, List, [], ◌∷◌, ◌∙◌, Option, Some, None, is_none, inl, inr, refl, sym, ap, map, filter}
use Rattle.std.proofs.lemmas.Bool.{and_from}
use Rattle.std.proofs.lemmas.List.Folds.{list_all-append}
use Rattle.iv_laws_rows.specs.Types.{Value, StoredRow, Change, Table, Database}
use Rattle.iv_expr.specs.Changes.{Wave}
use Rattle.iv_machine.specs.Databases.{row_at}
use Rattle.iv_machine.specs.Waves.{in_waves, net_change, net_insertion, net_wave}
use Rattle.iv_store.specs.Stores.{fits_table}
use Rattle.iv_laws_levels.specs.RisingRows.{InOrder}
use Rattle.iv_laws_levels.specs.FittingWaves.{Numbered, Chain}
use Rattle.iv_laws_levels.proofs.NumberedRows.{parts_of as numbers_of}
use Rattle.iv_laws_levels.proofs.Members.{In, all_in, in_rows, rows_in, of_filter}
use Rattle.iv_laws_rows.specs.RowFits.{side_fits, change_fits, changes_fit, wave_fits, row_fits, rows_fit}
use Rattle.iv_laws_rows.specs.Laws.{NetChangesFit}
use Rattle.iv_laws_rows.proofs.FittingValues.{fits_there}
use Rattle.iv_laws_rows.proofs.StayingTables.{TablesStay, tables_stay_chain}

net_change_fits : (tables : List Table) (rows later : List StoredRow) (r : StoredRow) → InOrder rows → TablesStay rows later
    → rows_fit tables rows ≡ true → rows_fit tables later ≡ true → In r rows → change_fits tables (net_change later r) ≡ true
net_change_fits tables rows later r order stay h g i =
    let fit = all_in (row_fits tables) r rows h i in
    and_from _ _ (fits_there tables r.table r.values fit) (and_from _ _ fit (by (row_at later r.number) refl))
  where
    by : (o : Option StoredRow) → row_at later r.number ≡ o
        → side_fits tables r.table (elim o as (λ x. Option (List Value)) [ Some s ↦ Some s.values | None ↦ None ]) ≡ true
    by None e = refl
    by (Some s) e =
        ap (λ n. fits_table tables n s.values) (sym (stay r.number r s (rows_in rows r order i) e))
        ∙ all_in (row_fits tables) s later g (in_rows later r.number s e)

net_insertion_fits : (tables : List Table) (r : StoredRow) → row_fits tables r ≡ true → change_fits tables (net_insertion r) ≡ true
net_insertion_fits tables r h = and_from _ _ (fits_there tables r.table r.values h) h

-- what is made of each fits
all_made : {A : Type 0} (tables : List Table) (f : A → Change) (xs : List A) → ((x : A) → In x xs → change_fits tables (f x) ≡ true) → changes_fit tables (map f xs) ≡ true
all_made tables f [] h = refl
all_made tables f (x ∷ xs) h = and_from _ _ (h x (inl refl)) (all_made tables f xs (λ y i. h y (inr i)))

pub net_fits : (tables : List Table) (rows later : List StoredRow) (waves : List Wave) → InOrder rows → TablesStay rows later
    → rows_fit tables rows ≡ true → rows_fit tables later ≡ true → wave_fits tables (net_wave rows later waves) ≡ true
net_fits tables rows later waves order stay h g =
    let here : StoredRow → Bool = λ r. in_waves waves r.number in
    let new : StoredRow → Bool = λ r. in_waves waves r.number && is_none (row_at rows r.number) in
    list_all-append (change_fits tables) (map (net_change later) (filter here rows)) (map net_insertion (filter new later))
    ∙ and_from _ _
    (all_made tables (net_change later) (filter here rows) (λ r i. net_change_fits tables rows later r order stay h g (of_filter here r rows i).0))
    (all_made tables net_insertion (filter new later)
    (λ r i. net_insertion_fits tables r (all_in (row_fits tables) r later g (of_filter new r later i).0)))

-- the first database of a chain is numbered
pub first_numbered : (db last : Database) (waves : List Wave) → Chain db waves last → Numbered db
first_numbered db last [] h = h.0
first_numbered db last (wave ∷ waves) h = h.0

pub net_changes_fit : NetChangesFit
net_changes_fit tables db last waves chain h g =
    net_fits tables db.rows last.rows waves (numbers_of 0 db.rows db.next (first_numbered db last waves chain)).order (tables_stay_chain db last waves chain) h g
