use Rattle.iv_catalogue.proofs.Keeping.{few_constraints, parts}
use Rattle.iv_catalogue.proofs.catalogue.Catalogue.constraints.Goals as goal

pub returns-clause-few : goal.returns-clause-few
returns-clause-few c = rw (c.as_slice.ensures) (few_constraints (parts c.self.inside.tables c.self.inside.constraints c.self.inside.triggers c.self.inside.created) c.self.inside.constraint_places.items c.self.invariant.0 c.self.invariant.1)
