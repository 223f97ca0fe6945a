use Rattle.std.proofs.Common.{sym, ap, subst, ◌∙◌, take}
use Rattle.iv_laws_kept.specs.Numbers.{has}
use Rattle.iv_store_violating.specs.Flagging.{flag, NoRepeats}
use Rattle.iv_store_violating.proofs.FlaggedPlaces.{members, each_once}
use Rattle.iv_store_violating.proofs.group_flags.GroupFlags.flagged.Goals as goal

pub returns-clause-members : goal.returns-clause-members
returns-clause-members c = λ place.
    ap (λ xs. has place (take c.self.inside.flagged xs)) c.deref.ensures.value
    ∙ members c.self.inside.order.items c.self.inside.position.items c.self.inside.flagged c.self.invariant place
    ∙ ap (λ violating. flag violating place) c.self.view_is

pub returns-clause-once : goal.returns-clause-once
returns-clause-once c =
    subst (λ xs. NoRepeats (take c.self.inside.flagged xs)) (sym c.deref.ensures.value)
    (each_once c.self.inside.order.items c.self.inside.position.items c.self.inside.flagged c.self.invariant)
