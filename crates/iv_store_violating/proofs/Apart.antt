-- Groups that show rows are apart.
use Rattle.std.proofs.Common.{◌≡◌, refl, ℕ, zero, suc, true, false, List, [], ◌∷◌, slice_get, Option, Some, None, sym, ap, subst, ◌∙◌}
use Rattle.std.specs.List.{list_any}
use Rattle.std.proofs.lemmas.Bool.{true≢false, or_parts}
use Rattle.iv_value.specs.declared.value.Value.{Value}
use Rattle.iv_value.specs.Values.{all_same}
use Rattle.iv_expr.specs.declared.row.StoredRow.{StoredRow}
use Rattle.iv_catalogue.specs.declared.constraint.Constraint.{Constraint}
use Rattle.iv_laws_levels.specs.RisingRows.{InOrder}
use Rattle.iv_laws_levels.proofs.Keys.{false_true, all_same_is, all_same_itself}
use Rattle.iv_laws_levels.proofs.RowNumbers.{some_none, some_same}
use Rattle.iv_laws_kept.specs.Numbers.{has, Rise}
use Rattle.iv_laws_kept.specs.Kept.{Group, Groups, groups_of, rows_in, OneEach, KeysOnce, Show, is_kept_under}
use Rattle.iv_laws_kept.proofs.Rows.{has_filtered, filtered_rise}
use Rattle.iv_laws_kept.proofs.Holding.{AllUnder, all_under, key_at, is_key, kept_at}
use Rattle.iv_store_violating.specs.Apart.{IsApart, AreApart}

-- ---- a group at a place

-- its rows are those under its key
under_at : (all own : List Group) (place : ℕ) (g : Group) → AllUnder all own → slice_get own place ≡ Some g → rows_in all g.key ≡ g.rows
under_at all [] place g a e = absurd (some_none g (sym e))
under_at all (o ∷ own) zero g a e = subst (λ x. rows_in all x.key ≡ x.rows) (some_same o g e) a.0
under_at all (o ∷ own) (suc place) g a e = under_at all own place g a.1 e

-- it hasn't a key that no group has
no_group : (key : List Value) (own : List Group) (place : ℕ) (g : Group) → list_any (λ o. all_same o.key key) own ≡ false → slice_get own place ≡ Some g → g.key ≡ key → ⊥
no_group key [] place g e at is = some_none g (sym at)
no_group key (o ∷ own) zero g e at is =
    let same : all_same o.key key ≡ true = ap (λ k. all_same k key) (ap (λ x. x.key) (some_same o g at) ∙ is) ∙ all_same_itself key in
    true≢false (sym same ∙ (or_parts (all_same o.key key) (list_any (λ o. all_same o.key key) own) e).0)
no_group key (o ∷ own) (suc place) g e at is = no_group key own place g (or_parts (all_same o.key key) (list_any (λ o. all_same o.key key) own) e).1 at is

-- two groups of one key are at one place
one_place : (own : List Group) (p q : ℕ) (g o : Group) → OneEach own → slice_get own p ≡ Some g → slice_get own q ≡ Some o → g.key ≡ o.key → p ≡ q
one_place [] p q g o one a b is = absurd (some_none g (sym a))
one_place (x ∷ own) zero zero g o one a b is = refl
one_place (x ∷ own) zero (suc q) g o one a b is = absurd (no_group x.key own q o one.0 b (sym is ∙ ap (λ y. y.key) (sym (some_same x g a))))
one_place (x ∷ own) (suc p) zero g o one a b is = absurd (no_group x.key own p g one.0 a (is ∙ ap (λ y. y.key) (sym (some_same x o b))))
one_place (x ∷ own) (suc p) (suc q) g o one a b is = ap suc (one_place own p q g o one.1 a b is)

same_key : (o : Option (List Value)) (k l : List Value) → is_key o k ≡ true → is_key o l ≡ true → k ≡ l
same_key None k l a b = absurd (false_true a)
same_key (Some x) k l a b = sym (all_same_is x k a) ∙ all_same_is x l b

-- ---- the groups of a constraint

module _ (rows : List StoredRow) (constraints : List Constraint) (groups : Groups) (id : ℕ) (c : Constraint) (order : InOrder rows) (once : KeysOnce groups) (show : Show rows constraints groups) (at : slice_get constraints id ≡ Some c) where
  rows_are : (place : ℕ) (g : Group) → slice_get (groups_of groups id) place ≡ Some g → rows_in (groups_of groups id) g.key ≡ g.rows
  rows_are place g e = under_at (groups_of groups id) (groups_of groups id) place g (all_under (groups_of groups id) (once id)) e

  rises : (place : ℕ) (o : Option Group) → slice_get (groups_of groups id) place ≡ o → Rise (elim o [ Some g ↦ g.rows | None ↦ [] ])
  rises place None e = tt
  rises place (Some g) e = subst Rise (sym (show id c g.key at) ∙ rows_are place g e) (filtered_rise (is_kept_under c g.key) rows order)

  -- a row of a group is kept under its key
  keyed : (place n : ℕ) (g : Group) → slice_get (groups_of groups id) place ≡ Some g → has n g.rows ≡ true → is_key (key_at rows c n) g.key ≡ true
  keyed place n g e f = sym (kept_at rows c n g.key) ∙ sym (has_filtered (is_kept_under c g.key) rows n order) ∙ ap (has n) (sym (show id c g.key at) ∙ rows_are place g e) ∙ f

  meets : (p q n : ℕ) (u v : Option Group) → slice_get (groups_of groups id) p ≡ u → slice_get (groups_of groups id) q ≡ v
      → has n (elim u [ Some g ↦ g.rows | None ↦ [] ]) ≡ true → has n (elim v [ Some g ↦ g.rows | None ↦ [] ]) ≡ true → p ≡ q
  meets p q n None v a b e f = absurd (false_true e)
  meets p q n (Some g) None a b e f = absurd (false_true f)
  meets p q n (Some g) (Some o) a b e f = one_place (groups_of groups id) p q g o (once id) a b (same_key (key_at rows c n) g.key o.key (keyed p n g a e) (keyed q n o b f))

  is_apart : IsApart (groups_of groups id)
  is_apart = record {
    rise = λ place. rises place (slice_get (groups_of groups id) place) refl;
    apart = λ p q n a b. meets p q n (slice_get (groups_of groups id) p) (slice_get (groups_of groups id) q) refl refl a b;
  }

pub shown_groups_are_apart : (rows : List StoredRow) (constraints : List Constraint) (groups : Groups) → InOrder rows → KeysOnce groups → Show rows constraints groups → AreApart constraints groups
shown_groups_are_apart rows constraints groups order once show id c at = is_apart rows constraints groups id c order once show at
