use Rattle.std.proofs.Common.{◌∙◌, ap, get_or, []}
use Rattle.iv_catalogue.proofs.Placing.{at_any}
use Rattle.iv_catalogue.proofs.catalogue.Catalogue.constraints_of.Goals as goal

pub returns : goal.returns
returns c =
    rw (← c.self.view_is, c.places_at.ensures, c.as_slice.ensures.value, c.place.ensures)
    (ap (λ l. get_or l c.args.table []) c.self.invariant.1.places ∙ at_any c.args.table c.self.inside.tables c.self.inside.constraints c.self.invariant.0.constraints)
