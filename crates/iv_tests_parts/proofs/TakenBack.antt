-- A change that is taken back, and the room that it has.
use Rattle.std.proofs.Common.{◌≡◌, refl, ℕ, ◌+◌, ◌<◌, true, false, if◌then◌else◌, List, [], ◌∷◌, slice_get, Option, Some, Result, Ok, OnOk, sym, ap, subst, ◌∙◌, arith}
use Rattle.std.specs.Bool.{◌==◌}
use Rattle.std.proofs.lemmas.Bool.{eqb-true, eq-eqb, true≢false}
use Rattle.iv_value.specs.declared.value.Value.{Value}
use Rattle.iv_expr.specs.declared.row.StoredRow.{StoredRow}
use Rattle.iv_expr.specs.declared.row.Change.{Change}
use Rattle.iv_catalogue.specs.declared.constraint.Constraint.{Constraint}
use Rattle.iv_key.specs.Keys.{none_null}
use Rattle.iv_machine.specs.Databases.{row_at, rows_after}
use Rattle.iv_laws_levels.proofs.RowNumbers.{some_same}
use Rattle.iv_laws_levels.proofs.AppliedRows.{row_of, rows_after_in_order}
use Rattle.iv_laws_kept.specs.Moves.{Holds, taken_back}
use Rattle.iv_laws_kept.proofs.Moves.{back_again, row_after}

-- what a call ensures on an Ok holds if it was expected
pub expected : {A E P : Type 0} (r : Result A E) (x : A) → r ≡ Ok x → OnOk r P → P
expected {P = P} r x e = subst (λ r. OnOk r P) e

-- the rows that are left hold what the change found
pub held_before : (rows : List StoredRow) (change : Change) → Holds (rows_after rows (taken_back change ∷ [])) change
held_before rows change = (
  rows_after_in_order rows (taken_back change ∷ []),
  row_after rows (taken_back change) change.row ∙ ap (λ b. if b then row_of (taken_back change) change.old else row_at rows change.row) (eq-eqb change.row change.row refl),
)

-- with the change made once more they are the rows again
pub made_again : (rows : List StoredRow) (change : Change) → Holds rows (taken_back change) → rows_after (rows_after rows (taken_back change ∷ [])) (change ∷ []) ≡ rows
made_again rows change holds = back_again rows (taken_back change) holds

-- room under a key without nulls is room under the kept key
pub room_under : (room : List Value → ℕ) (k key : List Value) (other : Option (List Value)) → none_null k ≡ true → 0 < room k → (if none_null k then Some k else other) ≡ Some key → 0 < room key
room_under room k key other e some is = subst (λ (x : List Value). 0 < room x) (some_same k key (sym (ap (λ b. if b then Some k else other) e) ∙ is)) some

-- what holds of the constraints before a place and of the one there
pub next_place : (P : ℕ → Constraint → Type 0) (constraints : List Constraint) (place : ℕ) (d : Constraint) → slice_get constraints place ≡ Some d → P place d
    → ((k : ℕ) (c : Constraint) → k < place → slice_get constraints k ≡ Some c → P k c)
    → (k : ℕ) (c : Constraint) → k < place + 1 → slice_get constraints k ≡ Some c → P k c
next_place P constraints place d at is before k c less there =
    elim (k == place) as (λ b. (k == place) ≡ b → P k c) [
      | true ↦ λ e. here (eqb-true k place e)
      | false ↦ λ e. before k c (apart (λ same. true≢false (sym (eq-eqb k place same) ∙ e))) there
    ] refl
  where
    here : k ≡ place → P k c
    here e = subst (λ (n : ℕ). P n c) (sym e) (subst (λ (x : Constraint). P place x) (some_same d c (sym at ∙ ap (slice_get constraints) (sym e) ∙ there)) is)

    apart : (k ≡ place → ⊥) → k < place
    apart f = omega (arith, less, f)
