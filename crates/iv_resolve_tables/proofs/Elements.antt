-- The constraints of the elements from a place on.
use Rattle.std.proofs.Common.{◌≡◌, ℕ, ◌+◌, ◌<◌, Bool, ◌||◌, List, ◌++◌, ◌∙◌, ap, length, drop, get_or, length-append}
use Rattle.std.specs.List.{list_any}
use Rattle.std.proofs.lemmas.List.Concat.{flat_map-cons}
use Rattle.std.proofs.lemmas.List.Folds.{list_any-append}
use Rattle.iv_syntax.specs.declared.table.TableElement.{TableElement}
use Rattle.iv_resolution.specs.Constraints.{WrittenConstraint, element_constraints, written_constraints}
use Rattle.iv_resolve_scope.proofs.Places.{next_of}

-- the constraints of an element, then those of the elements after it
pub constraints_next : (elements : List TableElement) (i : ℕ) (e : TableElement) → i < length elements → e ≡ get_or elements i e
    → written_constraints (drop i elements) ≡ element_constraints e ++ written_constraints (drop (i + 1) elements)
constraints_next elements i e h g = ap written_constraints (next_of elements i e h g) ∙ flat_map-cons element_constraints e (drop (i + 1) elements)

pub any_next : (f : WrittenConstraint → Bool) (elements : List TableElement) (i : ℕ) (e : TableElement) → i < length elements → e ≡ get_or elements i e
    → list_any f (written_constraints (drop i elements)) ≡ (list_any f (element_constraints e) || list_any f (written_constraints (drop (i + 1) elements)))
any_next f elements i e h g = ap (list_any f) (constraints_next elements i e h g) ∙ list_any-append f (element_constraints e) (written_constraints (drop (i + 1) elements))

pub count_next : (elements : List TableElement) (i : ℕ) (e : TableElement) → i < length elements → e ≡ get_or elements i e
    → length (written_constraints (drop i elements)) ≡ length (element_constraints e) + length (written_constraints (drop (i + 1) elements))
count_next elements i e h g = ap length (constraints_next elements i e h g) ∙ length-append (element_constraints e) (written_constraints (drop (i + 1) elements))
