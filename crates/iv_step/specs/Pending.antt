-- Violations of deferred constraints: which there are, what is told of them, and which came and went.
use Rattle.std.specs.Prelude.{◌≡◌, ◌<◌, ◌⊎◌, ℕ, Bool, not, ◌&&◌, ◌||◌, ◌==◌, List, [], ◌∷◌, filter}
use Rattle.std.specs.List.{list_any}
use Rattle.iv_catalogue.specs.declared.cause.Fault.{Fault}
use Rattle.iv_machine.specs.declared.database.Which.TheVariants.{Deferred}
use Rattle.iv_machine.specs.Databases.{is_chosen, scan}
use Rattle.iv_machine.specs.Machine.{State}
use Rattle.iv_account.specs.declared.entry.Entry.{Entry}
use Rattle.iv_account.specs.Accounts.{faults_told}

-- the violations of deferred constraints, in creation order of the constraints, then by row
abbrev pub pending : State → List Fault
pending s = scan s.database.rows s.schema.constraints (is_chosen s.modes Deferred)

-- violations as an account tells them, each with its rows
abbrev pub violations_told : State → List Fault → List Entry
violations_told s faults = faults_told s.schema s.database.rows faults

-- ---- differences of two lists

-- one constraint and one row
abbrev pub is_same : Fault → Fault → Bool
is_same f g = (g.constraint == f.constraint) && (g.row == f.row)

abbrev pub has_fault : List Fault → Fault → Bool
has_fault faults f = list_any (is_same f) faults

-- the faults that the others don't have
abbrev pub without : List Fault → List Fault → List Fault
without faults others = filter (λ f. not (has_fault others f)) faults

-- The violations before, without those that went and with those that came, are those after.
abbrev pub DifferencesLead : Type 0
DifferencesLead = (old new : List Fault) (f : Fault) →
    has_fault new f ≡ ((has_fault old f && not (has_fault (without old new) f)) || has_fault (without new old) f)

-- ---- order

-- the first comes before the second: in creation order of the constraints, then by row
abbrev pub Precedes : Fault → Fault → Type 0
Precedes f g = (f.constraint < g.constraint) ⊎ ((f.constraint ≡ g.constraint) × (f.row < g.row))

-- each comes after this one, and after those before it
abbrev pub RiseAfter : Fault → List Fault → Type 0
RiseAfter f [] = Unit {0}
RiseAfter f (g ∷ faults) = Precedes f g × RiseAfter g faults

-- The faults are in creation order of the constraints, then by row, each once.
abbrev pub FaultsRise : List Fault → Type 0
FaultsRise [] = Unit {0}
FaultsRise (f ∷ faults) = RiseAfter f faults
