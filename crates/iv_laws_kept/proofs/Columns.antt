-- Keys in the order of other columns.
use Rattle.std.proofs.Common.{◌≡◌, refl, ℕ, Bool, true, false, ◌&&◌, ◌||◌, not, if◌then◌else◌, List, [], ◌∷◌, map, sym, ap, ◌∙◌}
use Rattle.std.proofs.Math.Bool.{or-true}
use Rattle.std.specs.Bool.{◌==◌}
use Rattle.std.specs.List.{list_any}
use Rattle.std.proofs.lemmas.Bool.{eqb-true, eq-eqb}
use Rattle.iv_laws_kept.specs.Types.{Value}
use Rattle.iv_value.specs.Values.{is_null}
use Rattle.iv_store.specs.Stores.{all_among}
use Rattle.iv_key.specs.Keys.{none_null}
use Rattle.iv_laws_kept.specs.Kept.{value_in, in_order_of}
use Rattle.iv_laws_levels.proofs.Keys.{false_true, and_first, and_second}

-- a column among these
abbrev pub among : ℕ → List ℕ → Bool
among column columns = list_any (λ d. column == d) columns

-- a column's value in a key that has a value for each column
pub value_in_map : (f : ℕ → Value) (columns : List ℕ) (c : ℕ) → among c columns ≡ true → value_in columns (map f columns) c ≡ f c
value_in_map f [] c e = absurd (false_true e)
value_in_map f (d ∷ columns) c e =
    elim (d == c) as (λ b. (d == c) ≡ b → (if b then f d else value_in columns (map f columns) c) ≡ f c) [
      | true ↦ λ g. ap f (eqb-true d c g)
      | false ↦ λ g. value_in_map f columns c (later g (c == d) refl e)
    ] refl
  where
    later : (d == c) ≡ false → (b : Bool) → (c == d) ≡ b → (b || among c columns) ≡ true → among c columns ≡ true
    later g true h i = absurd (false_true (sym g ∙ eq-eqb d c (sym (eqb-true c d h))))
    later g false h i = i

-- values of columns that are among others, from a key of the others
pub in_order_map : (f : ℕ → Value) (columns others : List ℕ) → all_among others columns ≡ true → in_order_of others columns (map f columns) ≡ map f others
in_order_map f columns [] e = refl
in_order_map f columns (c ∷ others) e =
    let one = value_in_map f columns c (and_first (among c columns) (all_among others columns) e) in
    let rest = in_order_map f columns others (and_second (among c columns) (all_among others columns) e) in
    λ i. one i ∷ rest i

-- no null among columns, so none among some of them
pub none_null_among : (f : ℕ → Value) (columns others : List ℕ) → all_among others columns ≡ true → none_null (map f columns) ≡ true → none_null (map f others) ≡ true
none_null_among f columns [] e h = refl
none_null_among f columns (c ∷ others) e h =
    ap (λ b. b && none_null (map f others)) (one columns (and_first (among c columns) (all_among others columns) e) h)
    ∙ none_null_among f columns others (and_second (among c columns) (all_among others columns) e) h
  where
    one : (columns : List ℕ) → among c columns ≡ true → none_null (map f columns) ≡ true → not (is_null (f c)) ≡ true
    one [] e h = absurd (false_true e)
    one (d ∷ columns) e h =
        elim (c == d) as (λ b. (c == d) ≡ b → (b || among c columns) ≡ true → not (is_null (f c)) ≡ true) [
          | true ↦ λ g _. ap (λ x. not (is_null (f x))) (eqb-true c d g) ∙ and_first (not (is_null (f d))) (none_null (map f columns)) h
          | false ↦ λ g i. one columns i (and_second (not (is_null (f d))) (none_null (map f columns)) h)
        ] refl e

-- each column is among the columns
pub all_among_more : (c : ℕ) (some columns : List ℕ) → all_among some columns ≡ true → all_among some (c ∷ columns) ≡ true
all_among_more c [] columns e = refl
all_among_more c (d ∷ some) columns e =
    (λ i. ((d == c) || and_first (among d columns) (all_among some columns) e i) && all_among some (c ∷ columns))
    ∙ (λ i. or-true (d == c) i && all_among some (c ∷ columns))
    ∙ all_among_more c some columns (and_second (among d columns) (all_among some columns) e)

pub all_among_itself : (columns : List ℕ) → all_among columns columns ≡ true
all_among_itself [] = refl
all_among_itself (c ∷ columns) =
    (λ i. (eq-eqb c c refl i || among c columns) && all_among columns (c ∷ columns)) ∙ all_among_more c columns columns (all_among_itself columns)
