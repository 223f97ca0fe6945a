-- The places of a table's constraints are as many as its constraints.
use Rattle.std.proofs.Common.{◌≡◌, ℕ, ◌+◌, ◌==◌, Bool, true, false, List, [], ◌∷◌, refl, ap, suc, length, filter}
use Rattle.iv_catalogue.specs.Catalogues.{Schema, constraint_places, places_from}
use Rattle.iv_catalogue.specs.declared.constraint.Constraint.{Constraint}
use Rattle.iv_resolution.specs.Constraints.{constraints_of}

counted : (table place : ℕ) (k : Constraint) (ks : List Constraint) (b : Bool) → (k.table == table) ≡ b
    → length (places_from table (place + 1) ks) ≡ length (filter (λ c. c.table == table) ks)
    → length (places_from table place (k ∷ ks)) ≡ length (filter (λ c. c.table == table) (k ∷ ks))
counted table place k ks true e h = rw e (ap suc h)
counted table place k ks false e h = rw e h

count_from : (table place : ℕ) (ks : List Constraint) → length (places_from table place ks) ≡ length (filter (λ c. c.table == table) ks)
count_from table place [] = refl
count_from table place (k ∷ ks) = counted table place k ks (k.table == table) refl (count_from table (place + 1) ks)

pub count_places : (c : Schema) (table : ℕ) → length (constraint_places c table) ≡ length (constraints_of c table)
count_places c table = count_from table 0 c.constraints
