-- Which rows the violating groups of a constraint have.
use Rattle.std.proofs.Common.{◌≡◌, refl, ℕ, Bool, true, false, ◌&&◌, ◌||◌, if◌then◌else◌, List, [], ◌∷◌, filter, flat_map, find, slice_get, Option, Some, None, sym, ap, ◌∙◌}
use mathlib.Core.Bool.{and-true, and-false}
use Rattle.std.specs.Bool.{◌==◌}
use Rattle.std.specs.List.{list_any}
use Rattle.std.proofs.lemmas.Bool.{or_parts}
use Rattle.iv_laws_kept.specs.Types.{Value, StoredRow, Constraint}
use Rattle.iv_value.specs.Values.{all_same}
use Rattle.iv_machine.specs.Databases.{row_at}
use Rattle.iv_laws_levels.specs.RisingRows.{InOrder}
use Rattle.iv_laws_kept.specs.Numbers.{has}
use Rattle.iv_laws_kept.specs.Kept.{Group, Groups, rows_in, groups_of, rows_under, OneEach, KeysOnce, Show, kept_key, is_kept_under, violate, is_violating, kept_rows}
use Rattle.iv_laws_kept.proofs.RisingNumbers.{has_in_rising_order}
use Rattle.iv_laws_levels.proofs.Keys.{all_same_itself, all_same_is, all_same_swap}
use Rattle.iv_laws_kept.proofs.Rows.{passes, has_filtered}
use Rattle.iv_laws_kept.proofs.Groups.{has_chosen, any_under}

-- ---- each group has the rows under its key

abbrev pub AllUnder : List Group → List Group → Type 0
AllUnder all [] = Unit {0}
AllUnder all (g ∷ groups) = (rows_in all g.key ≡ g.rows) × AllUnder all groups

-- with one more group, of another key
more_under : (h : Group) (all groups : List Group) → list_any (λ other. all_same other.key h.key) groups ≡ false → AllUnder all groups → AllUnder (h ∷ all) groups
more_under h all [] e a = tt
more_under h all (g ∷ groups) e a =
    let parts = or_parts (all_same g.key h.key) (list_any (λ other. all_same other.key h.key) groups) e in (
      ap (λ b. elim (if b then Some h else find (λ o. all_same o.key g.key) all) [ Some o ↦ o.rows | None ↦ [] ]) (all_same_swap h.key g.key ∙ parts.0) ∙ a.0,
      more_under h all groups parts.1 a.1,
    )

pub all_under : (groups : List Group) → OneEach groups → AllUnder groups groups
all_under [] one = tt
all_under (g ∷ groups) one = (
  ap (λ b. elim (if b then Some g else find (λ o. all_same o.key g.key) groups) [ Some o ↦ o.rows | None ↦ [] ]) (all_same_itself g.key),
  more_under g groups groups one.0 (all_under groups one.1),
)

-- two tests that agree on groups that have the rows under their keys
pub any_agree : (p q : Group → Bool) (all groups : List Group) → AllUnder all groups → ((g : Group) → rows_in all g.key ≡ g.rows → p g ≡ q g)
    → list_any p groups ≡ list_any q groups
any_agree p q all [] a h = refl
any_agree p q all (g ∷ groups) a h = λ i. h g a.0 i || any_agree p q all groups a.1 h i

none_passes : (groups : List Group) → list_any (λ _. false) groups ≡ false
none_passes [] = refl
none_passes (g ∷ groups) = none_passes groups

-- ---- the rows of the violating groups

-- the key under which the row of a number is kept
abbrev pub key_at : List StoredRow → Constraint → ℕ → Option (List Value)
key_at rows c n = elim (row_at rows n) [ Some r ↦ if r.table == c.table then kept_key c.rule r.values else None | None ↦ None ]

abbrev pub is_key : Option (List Value) → List Value → Bool
is_key None key = false
is_key (Some k) key = all_same k key

pub kept_at : (rows : List StoredRow) (c : Constraint) (n : ℕ) (key : List Value) → passes (is_kept_under c key) (row_at rows n) ≡ is_key (key_at rows c n) key
kept_at rows c n key = by_row (row_at rows n)
  where
    by_key : (b : Bool) (k : Option (List Value)) → (b && elim k [ Some k ↦ all_same k key | None ↦ false ]) ≡ is_key (if b then k else None) key
    by_key true None = refl
    by_key true (Some k) = refl
    by_key false k = refl

    by_row : (o : Option StoredRow) → passes (is_kept_under c key) o ≡ is_key (elim o [ Some r ↦ if r.table == c.table then kept_key c.rule r.values else None | None ↦ None ]) key
    by_row None = refl
    by_row (Some r) = by_key (r.table == c.table) (kept_key c.rule r.values)

-- the violating rows: those kept under a key whose rows violate the rule
abbrev pub violate_at : List Constraint → Groups → ℕ → Constraint → Option (List Value) → Bool
violate_at constraints groups id c None = false
violate_at constraints groups id c (Some k) = violate constraints groups c.rule k (rows_under groups id k)

pub has_kept : (rows : List StoredRow) (constraints : List Constraint) (groups : Groups) (id : ℕ) (c : Constraint) (n : ℕ)
    → InOrder rows → KeysOnce groups → Show rows constraints groups → slice_get constraints id ≡ Some c
    → has n (kept_rows constraints groups id c) ≡ violate_at constraints groups id c (key_at rows c n)
has_kept rows constraints groups id c n h one show at =
    has_in_rising_order n (flat_map (λ g. g.rows) (filter (is_violating constraints groups c) own))
    ∙ has_chosen (is_violating constraints groups c) own n
    ∙ by_key (key_at rows c n) refl
  where
    own : List Group
    own = groups_of groups id

    under : (key : List Value) → has n (rows_under groups id key) ≡ is_key (key_at rows c n) key
    under key = ap (has n) (show id c key at) ∙ has_filtered (is_kept_under c key) rows n h ∙ kept_at rows c n key

    -- the number in a group of the constraint
    inside : (g : Group) → rows_in (groups_of groups id) g.key ≡ g.rows → has n g.rows ≡ is_key (key_at rows c n) g.key
    inside g u = ap (has n) (sym u) ∙ under g.key

    v : List Value → List ℕ → Bool
    v key numbers = violate constraints groups c.rule key numbers

    by_key : (o : Option (List Value)) → key_at rows c n ≡ o → list_any (λ g. v g.key g.rows && has n g.rows) own ≡ violate_at constraints groups id c o
    by_key None e =
        any_agree (λ g. v g.key g.rows && has n g.rows) (λ _. false) own own (all_under own (one id))
        (λ g u. ap (λ b. v g.key g.rows && b) (inside g u ∙ ap (λ o. is_key o g.key) e) ∙ and-false (v g.key g.rows))
        ∙ none_passes own
    by_key (Some k) e =
        any_agree (λ g. v g.key g.rows && has n g.rows) (λ g. all_same g.key k && (v k g.rows && has n g.rows)) own own (all_under own (one id))
        (λ g u. by_same g (has n g.rows) (inside g u ∙ ap (λ o. is_key o g.key) e))
        ∙ any_under (λ numbers. v k numbers && has n numbers) k own (one id) (and-false (v k []))
        ∙ ap (λ b. v k (rows_under groups id k) && b) (under k ∙ ap (λ o. is_key o k) e ∙ all_same_itself k)
        ∙ and-true (v k (rows_under groups id k))
      where
        by_same : (g : Group) (b : Bool) → b ≡ all_same k g.key → (v g.key g.rows && b) ≡ (all_same g.key k && (v k g.rows && b))
        by_same g b f = elim (all_same k g.key) as (λ t. all_same k g.key ≡ t → (v g.key g.rows && b) ≡ (all_same g.key k && (v k g.rows && b))) [
          | true ↦ λ i. let is = all_same_is k g.key i in
              ap (λ x. v x g.rows && b) (sym is) ∙ ap (λ t. t && (v k g.rows && b)) (sym (ap (λ x. all_same x k) (sym is) ∙ all_same_itself k))
          | false ↦ λ i. ap (λ t. v g.key g.rows && t) (f ∙ i) ∙ and-false (v g.key g.rows)
              ∙ sym (ap (λ t. all_same g.key k && (v k g.rows && t)) (f ∙ i) ∙ ap (λ t. all_same g.key k && t) (and-false (v k g.rows)) ∙ and-false (all_same g.key k))
        ] refl
