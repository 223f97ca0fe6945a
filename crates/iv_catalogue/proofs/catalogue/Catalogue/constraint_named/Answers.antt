use Rattle.std.proofs.Common.{arith}
use Rattle.iv_catalogue.proofs.Keeping.{few_constraints, parts}
use Rattle.iv_catalogue.proofs.catalogue.Catalogue.constraint_named.Goals as goal

pub overflow_cast-place : goal.overflow_cast-place
overflow_cast-place c = omega (arith, c.in_ok-place.ensures.within, few_constraints (parts c.self.inside.tables c.self.inside.constraints c.self.inside.triggers c.self.inside.created) c.self.inside.constraint_places.items c.self.invariant.0 c.self.invariant.1)
