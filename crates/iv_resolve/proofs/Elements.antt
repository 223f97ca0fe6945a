-- Constraints of a CREATE TABLE, element by element.
use Rattle.std.proofs.Common.{◌≡◌, ◌&&◌, List, ◌∷◌, Bool}
use Rattle.std.specs.List.{list_all}
use Rattle.std.proofs.lemmas.List.Folds.{list_all-append}
use Rattle.iv_syntax.specs.declared.table.TableElement.{TableElement}
use Rattle.iv_resolution.specs.Constraints.{WrittenConstraint, element_constraints, written_constraints}

pub all_of_first : (test : WrittenConstraint → Bool) (e : TableElement) (es : List TableElement)
    → list_all test (written_constraints (e ∷ es)) ≡ (list_all test (element_constraints e) && list_all test (written_constraints es))
all_of_first test e es = list_all-append test (element_constraints e) (written_constraints es)
