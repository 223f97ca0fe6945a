-- Groups by their keys.
use Rattle.std.proofs.Common.{◌≡◌, refl, ℕ, Bool, true, false, ◌&&◌, ◌||◌, if◌then◌else◌, List, [], ◌∷◌, filter, flat_map, find, Option, Some, None, sym, ap, ◌∙◌}
use Rattle.std.specs.List.{list_any}
use Rattle.iv_laws_kept.specs.Types.{Value}
use Rattle.iv_value.specs.Values.{all_same}
use Rattle.iv_laws_kept.specs.Numbers.{has}
use Rattle.iv_laws_kept.specs.Kept.{Group, rows_in, OneEach}
use Rattle.iv_laws_kept.proofs.RisingNumbers.{has_append}
use Rattle.iv_laws_levels.proofs.Keys.{false_true, and_first, all_same_is, same_test}

-- a number in the rows of the groups that pass a test
pub has_chosen : (q : Group → Bool) (groups : List Group) (n : ℕ) → has n (flat_map (λ g. g.rows) (filter q groups)) ≡ list_any (λ g. q g && has n g.rows) groups
has_chosen q [] n = refl
has_chosen q (g ∷ groups) n =
    elim (q g) as (λ b. has n (flat_map (λ g. g.rows) (if b then g ∷ filter q groups else filter q groups)) ≡ ((b && has n g.rows) || list_any (λ g. q g && has n g.rows) groups)) [
      | true ↦ has_append n g.rows (flat_map (λ g. g.rows) (filter q groups)) ∙ ap (λ b. has n g.rows || b) (has_chosen q groups n)
      | false ↦ has_chosen q groups n
    ]

true_or_any : (p q : Group → Bool) (groups : List Group) → ((g : Group) → p g ≡ true → q g ≡ true) → list_any p groups ≡ true → list_any q groups ≡ true
true_or_any p q [] h e = e
true_or_any p q (g ∷ groups) h e =
    elim (p g) as (λ b. p g ≡ b → (b || list_any p groups) ≡ true → (q g || list_any q groups) ≡ true) [
      | true ↦ λ f _. ap (λ b. b || list_any q groups) (h g f)
      | false ↦ λ f i. right (q g) (true_or_any p q groups h i)
    ] refl e
  where
    right : (b : Bool) → list_any q groups ≡ true → (b || list_any q groups) ≡ true
    right true e = refl
    right false e = e

-- A test of the groups of one key, if no two groups have one key: what the group of the key answers.
any_of_key : (v : List ℕ → Bool) (key : List Value) (groups : List Group) → OneEach groups
    → list_any (λ g. all_same g.key key && v g.rows) groups ≡ elim (find (λ g. all_same g.key key) groups) [ Some g ↦ v g.rows | None ↦ false ]
any_of_key v key [] one = refl
any_of_key v key (g ∷ groups) one =
    elim (all_same g.key key) as (λ b. all_same g.key key ≡ b
    → ((b && v g.rows) || list_any (λ g. all_same g.key key && v g.rows) groups) ≡ elim (if b then Some g else find (λ g. all_same g.key key) groups) [ Some g ↦ v g.rows | None ↦ false ]) [
      | true ↦ λ e. ap (λ b. v g.rows || b) (no_other e) ∙ or_false (v g.rows)
      | false ↦ λ e. any_of_key v key groups one.1
    ] refl
  where
    or_false : (b : Bool) → (b || false) ≡ b
    or_false true = refl
    or_false false = refl

    no_other : all_same g.key key ≡ true → list_any (λ g. all_same g.key key && v g.rows) groups ≡ false
    no_other e = same_test (list_any (λ g. all_same g.key key && v g.rows) groups) false (λ h.
        let same : key ≡ g.key = sym (all_same_is g.key key e) in
        sym one.0 ∙ true_or_any (λ o. all_same o.key key && v o.rows) (λ o. all_same o.key g.key) groups
        (λ o i. ap (all_same o.key) (sym same) ∙ and_first (all_same o.key key) (v o.rows) i) h)
        (λ h. absurd (false_true h))

-- a test that answers no of no rows is asked of the rows under the key
pub any_under : (v : List ℕ → Bool) (key : List Value) (groups : List Group) → OneEach groups → v [] ≡ false
    → list_any (λ g. all_same g.key key && v g.rows) groups ≡ v (rows_in groups key)
any_under v key groups one none = any_of_key v key groups one ∙ chosen (find (λ g. all_same g.key key) groups)
  where
    chosen : (o : Option Group) → elim o [ Some g ↦ v g.rows | None ↦ false ] ≡ v (elim o [ Some g ↦ g.rows | None ↦ [] ])
    chosen None = sym none
    chosen (Some g) = refl
