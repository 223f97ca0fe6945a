-- The constraints of a CREATE TABLE by their places, from 1.
use Rattle.std.specs.Prelude.{ℕ, Bool, List, map, Option}
use Rattle.std.specs.List.{enumerate_from}
use Rattle.std.specs.Option.{option_or}
use Rattle.iv_catalogue.specs.Catalogues.{Schema}
use Rattle.iv_resolution.specs.Constraints.{WrittenConstraint, constraint_name}
use Rattle.iv_resolution.specs.Items.{Fault, twice_fault, told_if}
use Rattle.iv_resolution.specs.NameFaults.{constraint_in_use, duplicate_in_rule, item_of_constraint}

-- the names of constraints, the first of which has this place
abbrev pub constraint_names : List ℕ → ℕ → List WrittenConstraint → List (List ℕ)
constraint_names table place constraints = map (λ k. constraint_name table k.0 k.1) (enumerate_from place constraints)

-- what is wrong with a constraint, if this says whether one before it has its name
abbrev pub duplicate_where : Bool → Schema → List ℕ → ℕ → WrittenConstraint → Option Fault
duplicate_where again schema table place k =
    option_or (constraint_in_use schema table place k)
    (option_or (told_if again (twice_fault (item_of_constraint table place k))) (duplicate_in_rule k.rule))
