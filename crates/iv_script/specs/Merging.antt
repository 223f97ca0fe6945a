-- The steps by which two rising lists are compared.
use Rattle.std.specs.Prelude.{Bool, false, ◌&&◌, ◌||◌, ◌==◌, nat_lt, if◌then◌else◌, List, [], ◌∷◌}
use Rattle.iv_catalogue.specs.declared.cause.Fault.{Fault}
use Rattle.iv_step.specs.Pending.{is_same}

abbrev pub is_before : Fault → Fault → Bool
is_before f g = nat_lt f.constraint g.constraint || ((f.constraint == g.constraint) && nat_lt f.row g.row)

-- the faults from the first one on that isn't before this one
abbrev pub faults_from : Fault → List Fault → List Fault
faults_from f [] = []
faults_from f (g ∷ faults) = if is_before g f then faults_from f faults else g ∷ faults

abbrev pub begins_with : List Fault → Fault → Bool
begins_with [] f = false
begins_with (g ∷ faults) f = is_same f g
