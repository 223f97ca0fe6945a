-- The violations that a scan finds are in creation order of the constraints, then by row.
use Rattle.std.proofs.Common.{◌≡◌, ℕ, ◌+◌, ◌<◌, ◌≤◌, inl, inr, Bool, true, false, if◌then◌else◌, List, [], ◌∷◌, ◌++◌, filter, map, refl, arith}
use Rattle.std.specs.List.{enumerate_from, flat_map}
use Rattle.iv_expr.specs.declared.row.StoredRow.{StoredRow}
use Rattle.iv_catalogue.specs.declared.cause.Fault.{Fault}
use Rattle.iv_catalogue.specs.declared.constraint.Constraint.{Constraint}
use Rattle.iv_machine.specs.Databases.{chosen_violations, fault_at, scan, violates, violations}
use Rattle.iv_machine.specs.Invariants.{Rising}
use Rattle.iv_machine.proofs.OneChange.{rising_part}
use Rattle.iv_step.specs.Pending.{FaultsRise, Precedes, RiseAfter}

-- each is of this constraint or a later one, and they rise
abbrev RiseFrom : ℕ → List Fault → Type 0
RiseFrom n [] = Unit {0}
RiseFrom n (f ∷ faults) = (n ≤ f.constraint) × RiseAfter f faults

after_all : (n low : ℕ) (later : List Fault) → RiseFrom (n + 1) later → RiseAfter (record { constraint = n; row = low }) later
after_all n low [] h = tt
after_all n low (f ∷ faults) h = (inl (omega (arith, h.0)), h.1)

-- the violations of one constraint by rising rows, and then later ones
one_then : (n low next : ℕ) (rows : List StoredRow) (later : List Fault) → Rising low rows next → RiseFrom (n + 1) later
    → RiseAfter (record { constraint = n; row = low }) (map (fault_at n) rows ++ later)
one_then n low next [] later r h = after_all n low later h
one_then n low next (row ∷ rows) later r h = (inr (refl, r.0), one_then n row.number next rows later r.1 h)

lower : (n : ℕ) (faults : List Fault) → RiseFrom (n + 1) faults → RiseFrom n faults
lower n [] h = tt
lower n (f ∷ faults) h = (omega (arith, h.0), h.1)

from_after : (n low : ℕ) (faults : List Fault) → RiseAfter (record { constraint = n; row = low }) faults → RiseFrom n faults
from_after n low [] h = tt
from_after n low (f ∷ faults) (inl a, h) = (omega (arith, a), h)
from_after n low (f ∷ faults) (inr a, h) = (omega (arith, a.0), h)

constraint_then : (rows : List StoredRow) (next n : ℕ) (chosen : ℕ → Bool) (k : Constraint) (later : List Fault) → Rising 0 rows next → RiseFrom (n + 1) later
    → RiseFrom n (chosen_violations rows chosen n k ++ later)
constraint_then rows next n chosen k later r h = by (chosen n) where
  by : (b : Bool) → RiseFrom n ((if b then violations rows n k else []) ++ later)
  by true = from_after n 0 (violations rows n k ++ later) (one_then n 0 next (filter (violates rows k) rows) later (rising_part 0 (violates rows k) rows next r) h)
  by false = lower n later h

scan_from : (rows : List StoredRow) (next : ℕ) (chosen : ℕ → Bool) (n : ℕ) (constraints : List Constraint) → Rising 0 rows next
    → RiseFrom n (flat_map (λ k. chosen_violations rows chosen k.0 k.1) (enumerate_from n constraints))
scan_from rows next chosen n [] r = tt
scan_from rows next chosen n (k ∷ constraints) r = constraint_then rows next n chosen k _ r (scan_from rows next chosen (n + 1) constraints r)

rise : (n : ℕ) (faults : List Fault) → RiseFrom n faults → FaultsRise faults
rise n [] h = tt
rise n (f ∷ faults) h = h.1

pub scan_rises : (rows : List StoredRow) (next : ℕ) (constraints : List Constraint) (chosen : ℕ → Bool) → Rising 0 rows next → FaultsRise (scan rows constraints chosen)
scan_rises rows next constraints chosen r = rise 0 (scan rows constraints chosen) (scan_from rows next chosen 0 constraints r)
