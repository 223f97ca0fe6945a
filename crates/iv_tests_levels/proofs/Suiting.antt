-- Statements suit a table of pairs.
use Rattle.std.proofs.Common.{◌≡◌, ℤ, true, List, [], ◌∷◌, map, Option, Some, None, refl}
use Rattle.std.specs.List.{list_all}
use Rattle.iv_value.specs.declared.value.Kind.TheVariants.{Integer}
use Rattle.iv_value.specs.declared.value.Value.TheVariants.{Int}
use Rattle.iv_expr.specs.declared.tree.Expr.TheVariants.{Literal}
use Rattle.iv_expr.specs.declared.tree.Cond.TheVariants.{Always}
use Rattle.iv_expr.specs.Suiting.{Shape}
use Rattle.iv_catalogue.specs.declared.plan.DataStatement.TheVariants.{Delete}
use Rattle.iv_laws_fitting.specs.PlanShapes.{plain_shape, values_suit}
use Rattle.iv_tests_levels.specs.Statements.{SuitsPairs, insertion, one_more, set_to, tuple_of}

tuple_suits : (shape : Shape) (row : ℤ × Option ℤ) → values_suit shape (Some Integer ∷ Some Integer ∷ []) (tuple_of row) ≡ true
tuple_suits shape (a, Some b) = refl
tuple_suits shape (a, None) = refl

tuples_suit : (shape : Shape) (rows : List (ℤ × Option ℤ)) → list_all (values_suit shape (Some Integer ∷ Some Integer ∷ [])) (map tuple_of rows) ≡ true
tuples_suit shape [] = refl
tuples_suit shape (row ∷ rows) = rw (tuple_suits shape row, tuples_suit shape rows) refl

-- INSERT of rows
pub insertion_suits : (rows : List (ℤ × Option ℤ)) → SuitsPairs (insertion rows)
insertion_suits rows = record { suits = λ tables p. rw (p.there, p.kinds) (tuples_suit (plain_shape tables) rows) }

-- UPDATE of the first column to an integer
pub first_suits : (a : ℤ) → SuitsPairs (set_to 0 (Literal (Int a)))
first_suits a = record { suits = λ tables p. rw (p.there, p.kinds) refl }

-- of the second
pub second_suits : (a : ℤ) → SuitsPairs (set_to 1 (Literal (Int a)))
second_suits a = record { suits = λ tables p. rw (p.there, p.kinds) refl }

-- to the column and 1
pub shift_suits : SuitsPairs (set_to 0 one_more)
shift_suits = record { suits = λ tables p. rw (p.there, p.kinds) refl }

-- DELETE
pub deletion_suits : SuitsPairs (Delete 0 Always)
deletion_suits = record { suits = λ tables p. rw (p.there) refl }
