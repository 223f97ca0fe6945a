use Rattle.std.proofs.Common.{sym, nat_eq}
use Rattle.iv_catalogue.proofs.TriggerNumbers.{found, found_none}
use Rattle.iv_catalogue.proofs.catalogue.Catalogue.trigger.Goals as goal

pub returns-in-Some : goal.returns-in-Some
returns-in-Some c =
    rw (← c.self.view_is, c.at.ensures) (rw (← c.as_slice-triggers.ensures) (found (λ t. nat_eq t.id c.args.id) c.as_slice-triggers.result.now c.in-Some.place (sym c.in-Some.ensures.place)))

pub returns-in-None : goal.returns-in-None
returns-in-None c =
    rw (← c.self.view_is) (rw (← c.as_slice-triggers.ensures) (sym (found_none (λ t. nat_eq t.id c.args.id) c.as_slice-triggers.result.now (sym c.in-None.ensures.place))))
