use Rattle.std.proofs.Common.{◌<◌, length, subst, sym}
use Rattle.iv_catalogue.specs.declared.limits.TheConstants.{MOST_TRIGGERS}
use Rattle.iv_catalogue.proofs.Keeping.{parts, trigger_within}
use Rattle.iv_catalogue.proofs.catalogue.Catalogue.add_trigger.Goals as goal

pub invariant_of-self-2 : goal.invariant_of-self-2
invariant_of-self-2 c =
    let i = c.self.inside in
    rw (c.in_ok-push.ensures.ok, c.new-numbered.ensures) (
      trigger_within (parts i.tables i.constraints i.triggers i.created) c.args.trigger c.self.invariant.0
          (subst (λ s. length s.triggers < MOST_TRIGGERS) (sym c.self.view_is) c.requires.triggers) c.requires.body,
      c.self.invariant.1,
    )
