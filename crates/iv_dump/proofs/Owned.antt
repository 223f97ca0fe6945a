-- The constraints that a table is made with, of those that are left.
use Rattle.std.proofs.Common.{◌≡◌, ℕ, zero, suc, ◌≤◌, true, List, [], ◌∷◌, ◌++◌, ◌∙◌, Option, Some, None, IfSome, refl, sym, ap, subst, arith, length, take, drop, take-append-drop, slice_get}
use Rattle.iv_dump.specs.Types.{Value, Table, Constraint}
use Rattle.iv_dump.specs.Dumps.{AreOf, has_null_after_key}
use Rattle.iv_dump.specs.Making.{Creates, Filled, Makes, own_count}
use Rattle.iv_dump.proofs.Made.{created_makes, makes_more, makes_then, of_first, of_own}

pub first_of_first : (m n : ℕ) (ks : List Constraint) → m ≤ length (take n ks) → take m (take n ks) ≡ take m ks
first_of_first zero n ks h = refl
first_of_first (suc m) zero ks h = absurd (omega (arith, h))
first_of_first (suc m) (suc n) [] h = refl
first_of_first (suc m) (suc n) (k ∷ ks) h = ap (λ xs. k ∷ xs) (first_of_first m n ks (omega (arith, h)))

-- CREATE TABLE has the first of its own
pub own_makes : (tables : List Table) (a c : Filled) (t : Table) (place : ℕ) (rows : List (List Value)) (ks : List Constraint) (count : ℕ)
    → slice_get tables place ≡ Some t → count ≤ length (take (own_count place ks) ks)
    → Creates tables t a c (take count (take (own_count place ks) ks)) rows → Makes tables a c (t ∷ []) (rows ∷ []) ks (drop count ks)
own_makes tables a c t place rows ks count at few made =
    created_makes tables a c t rows (take count (take (own_count place ks) ks)) ks (drop count ks) made
    (of_first tables t count (take (own_count place ks) ks) (of_own tables t place ks at))
    (sym (take-append-drop count ks) ∙ ap (λ xs. xs ++ drop count ks) (sym (first_of_first count (own_count place ks) ks few)))

-- all of its own are made with it
pub late_own : (tables : List Table) (a d : Filled) (t : Table) (place : ℕ) (rows : List (List Value)) (ks : List Constraint)
    → slice_get tables place ≡ Some t → has_null_after_key (take (own_count place ks) ks) ≡ true
    → ((left : List Constraint) → AreOf tables t (take (own_count place ks) ks) → has_null_after_key (take (own_count place ks) ks) ≡ true
    → Makes tables a d (t ∷ []) (rows ∷ []) (take (own_count place ks) ks ++ left) left)
    → Makes tables a d (t ∷ []) (rows ∷ []) ks (drop (own_count place ks) ks)
late_own tables a d t place rows ks at null f =
    subst (λ xs. Makes tables a d (t ∷ []) (rows ∷ []) xs (drop (own_count place ks) ks)) (take-append-drop (own_count place ks) ks)
    (f (drop (own_count place ks) ks) (of_own tables t place ks at) null)

-- constraints that are added first, and then a table
pub table_makes : (tables : List Table) (a b c : Filled) (place n : ℕ) (rows : List (List Value)) (ks ls : List Constraint)
    → Makes tables a b [] [] (take n ks) []
    → IfSome (slice_get tables place) (λ t. Makes tables b c (t ∷ []) (rows ∷ []) (drop n ks) ls)
    → IfSome (slice_get tables place) (λ t. Makes tables a c (t ∷ []) (rows ∷ []) ks ls)
table_makes tables a b c place n rows ks ls f g = by (slice_get tables place) g where
  by : (o : Option Table) → IfSome o (λ t. Makes tables b c (t ∷ []) (rows ∷ []) (drop n ks) ls) → IfSome o (λ t. Makes tables a c (t ∷ []) (rows ∷ []) ks ls)
  by (Some t) g =
      makes_then tables a b c [] (t ∷ []) [] (rows ∷ []) ks (drop n ks) ls
      (makes_more tables a b [] [] (take n ks) ks (drop n ks) f (sym (take-append-drop n ks))) g
  by None g = tt {0}
