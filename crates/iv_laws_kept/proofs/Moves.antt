-- Groups that follow a change of a row.
use Rattle.std.proofs.Common.{◌≡◌, refl, ℕ, Bool, true, false, ◌&&◌, ◌||◌, not, if◌then◌else◌, List, [], ◌∷◌, filter, Option, Some, None, sym, ap, subst, ◌∙◌}
use mathlib.Core.Bool.{or-false}
use Rattle.std.specs.Bool.{◌==◌}
use Rattle.std.proofs.lemmas.Bool.{eqb-true, eq-eqb}
use Rattle.iv_laws_kept.specs.Types.{Value, StoredRow, Change, Constraint}
use Rattle.iv_machine.specs.Databases.{row_at, rows_after, scan}
use Rattle.iv_store.specs.Stores.{numbers_of}
use Rattle.iv_laws_kept.specs.Numbers.{has, Rise}
use Rattle.iv_laws_kept.specs.Kept.{Groups, KeysOnce, Show, AllNamed, is_kept_under, kept}
use Rattle.iv_laws_kept.specs.Moves.{side_under, left, moved, rows_moved, Follow, Holds, taken_back}
use Rattle.iv_laws_kept.proofs.RisingNumbers.{has_with, has_without, rise_with, rise_filter, same_numbers}
use Rattle.iv_laws_kept.proofs.Rows.{passes, has_filtered, filtered_rise}
use Rattle.iv_laws_levels.proofs.RowNumbers.{same_rows}
use Rattle.iv_laws_levels.proofs.AppliedRows.{row_of, side_here, news, row_at_rows_after, rows_after_in_order}
use Rattle.iv_laws_kept.proofs.KeptIsScan.{kept_is_the_scan}

-- the row at a number after a change
pub row_after : (rows : List StoredRow) (c : Change) (n : ℕ) → row_at (rows_after rows (c ∷ [])) n ≡ (if c.row == n then row_of c c.new else row_at rows n)
row_after rows c n =
    row_at_rows_after rows (c ∷ []) n
    ∙ ap (λ b. if b then row_at (news (c ∷ [])) n else row_at rows n) (or-false (c.row == n))
    ∙ elim (c.row == n) as (λ b. (c.row == n) ≡ b → (if b then row_at (news (c ∷ [])) n else row_at rows n) ≡ (if b then row_of c c.new else row_at rows n)) [
      | true ↦ λ e. side_here c c.new [] n e refl
      | false ↦ λ e. refl
    ] refl

-- ---- one key

moved_rises : (was is : Bool) (n : ℕ) (numbers : List ℕ) → Rise numbers → Rise (moved was is n numbers)
moved_rises was true n numbers h = rise_with n (left was n numbers) (left_rises was)
  where
    left_rises : (was : Bool) → Rise (left was n numbers)
    left_rises true = rise_filter (λ m. not (m == n)) numbers h
    left_rises false = h
moved_rises true false n numbers h = rise_filter (λ m. not (m == n)) numbers h
moved_rises false false n numbers h = h

has_left : (was : Bool) (k n : ℕ) (numbers : List ℕ) → has k (left was n numbers) ≡ (not (was && (n == k)) && has k numbers)
has_left true k n numbers = has_without k n numbers
has_left false k n numbers = refl

-- the changed row is among the numbers of its place now, if it was among those of its place before
has_moved_row : (was is : Bool) (k n : ℕ) (numbers : List ℕ) → (n == k) ≡ true → has k numbers ≡ was → has k (moved was is n numbers) ≡ is
has_moved_row was true k n numbers e h = has_with k n (left was n numbers) ∙ ap (λ b. b || has k (left was n numbers)) e
has_moved_row was false k n numbers e h = has_left was k n numbers ∙ (λ i. not (was && e i) && h i) ∙ never was
  where
    never : (b : Bool) → (not (b && true) && b) ≡ false
    never true = refl
    never false = refl

-- other rows stay
has_other_left : (was : Bool) (k n : ℕ) (numbers : List ℕ) → (n == k) ≡ false → has k (left was n numbers) ≡ has k numbers
has_other_left was k n numbers e = has_left was k n numbers ∙ ap (λ b. not (was && b) && has k numbers) e ∙ stays was
  where
    stays : (b : Bool) → (not (b && false) && has k numbers) ≡ has k numbers
    stays true = refl
    stays false = refl

has_other_row : (was is : Bool) (k n : ℕ) (numbers : List ℕ) → (n == k) ≡ false → has k (moved was is n numbers) ≡ has k numbers
has_other_row was true k n numbers e = has_with k n (left was n numbers) ∙ ap (λ b. b || has k (left was n numbers)) e ∙ has_other_left was k n numbers e
has_other_row was false k n numbers e = has_other_left was k n numbers e

pub moved_is : (rows : List StoredRow) (c : Constraint) (key : List Value) (change : Change) → Holds rows change
    → rows_moved c key change (numbers_of (filter (is_kept_under c key) rows)) ≡ numbers_of (filter (is_kept_under c key) (rows_after rows (change ∷ [])))
moved_is rows c key change h =
    same_numbers (rows_moved c key change numbers) (numbers_of (filter p later))
    (moved_rises was is change.row numbers (filtered_rise p rows h.0)) (filtered_rise p later (rows_after_in_order rows (change ∷ []))) (λ n.
    elim (change.row == n) as (λ b. (change.row == n) ≡ b → has n (rows_moved c key change numbers) ≡ passes p (if b then row_of change change.new else row_at rows n)) [
      | true ↦ λ e. has_moved_row was is n change.row numbers e
          (has_filtered p rows n h.0 ∙ ap (λ m. passes p (row_at rows m)) (sym (eqb-true change.row n e)) ∙ ap (passes p) h.1 ∙ side change.old) ∙ sym (side change.new)
      | false ↦ λ e. has_other_row was is n change.row numbers e ∙ has_filtered p rows n h.0
    ] refl
    ∙ ap (passes p) (sym (row_after rows change n)) ∙ sym (has_filtered p later n (rows_after_in_order rows (change ∷ []))))
  where
    p : StoredRow → Bool
    p = is_kept_under c key

    later : List StoredRow
    later = rows_after rows (change ∷ [])

    numbers : List ℕ
    numbers = numbers_of (filter (is_kept_under c key) rows)

    was : Bool
    was = side_under c key change change.old

    is : Bool
    is = side_under c key change change.new

    side : (o : Option (List Value)) → passes (is_kept_under c key) (row_of change o) ≡ side_under c key change o
    side None = refl
    side (Some values) = refl

-- ---- all keys

pub still_shown : (constraints : List Constraint) (change : Change) (groups after : Groups) (rows : List StoredRow)
    → Follow constraints change groups after → Holds rows change → Show rows constraints groups → Show (rows_after rows (change ∷ [])) constraints after
still_shown constraints change groups after rows follow h show = λ id c key at.
    follow id c key at ∙ ap (rows_moved c key change) (show id c key at) ∙ moved_is rows c key change h

pub changes_are_followed : (constraints : List Constraint) (change : Change) (groups after : Groups) (rows : List StoredRow)
    → AllNamed constraints → KeysOnce after → Follow constraints change groups after → Holds rows change → Show rows constraints groups
    → Show (rows_after rows (change ∷ [])) constraints after × ((chosen : ℕ → Bool) → kept constraints after chosen ≡ scan (rows_after rows (change ∷ [])) constraints chosen)
changes_are_followed constraints change groups after rows all one follow h show =
    let shown = still_shown constraints change groups after rows follow h show in
    (shown, λ chosen. kept_is_the_scan (rows_after rows (change ∷ [])) constraints after chosen (rows_after_in_order rows (change ∷ [])) all one shown)

-- ---- and back

pub back_again : (rows : List StoredRow) (change : Change) → Holds rows change → rows_after (rows_after rows (change ∷ [])) (taken_back change ∷ []) ≡ rows
back_again rows change h =
    same_rows (rows_after later (taken_back change ∷ [])) rows (rows_after_in_order later (taken_back change ∷ [])) h.0 (λ n.
    row_after later (taken_back change) n
    ∙ elim (change.row == n) as (λ b. (change.row == n) ≡ b → (if b then row_of change change.old else row_at later n) ≡ row_at rows n) [
      | true ↦ λ e. sym h.1 ∙ ap (row_at rows) (eqb-true change.row n e)
      | false ↦ λ e. row_after rows change n ∙ ap (λ b. if b then row_of change change.new else row_at rows n) e
    ] refl)
  where
    later : List StoredRow
    later = rows_after rows (change ∷ [])

-- what the change left is what its taking back finds
holds_later : (rows : List StoredRow) (change : Change) → Holds rows change → Holds (rows_after rows (change ∷ [])) (taken_back change)
holds_later rows change h = (
  rows_after_in_order rows (change ∷ []),
  row_after rows change change.row ∙ ap (λ b. if b then row_of change change.new else row_at rows change.row) (eq-eqb change.row change.row refl),
)

pub changes_are_taken_back : (constraints : List Constraint) (change : Change) (groups after : Groups) (rows : List StoredRow)
    → AllNamed constraints → KeysOnce after → Follow constraints (taken_back change) groups after → Holds rows change
    → Show (rows_after rows (change ∷ [])) constraints groups
    → Show rows constraints after × ((chosen : ℕ → Bool) → kept constraints after chosen ≡ scan rows constraints chosen)
changes_are_taken_back constraints change groups after rows all one follow h show =
    let done = changes_are_followed constraints (taken_back change) groups after (rows_after rows (change ∷ [])) all one follow (holds_later rows change h) show in
    let back = back_again rows change h in
    (subst (λ r. Show r constraints after) back done.0, λ chosen. done.1 chosen ∙ ap (λ r. scan r constraints chosen) back)
