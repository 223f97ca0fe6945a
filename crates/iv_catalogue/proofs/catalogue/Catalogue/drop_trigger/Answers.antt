use Rattle.std.proofs.Common.{◌≡◌, ◌∙◌, Some, None, ap, nat_eq, position, sym}
use Rattle.iv_catalogue.proofs.Keeping.{dropped_within, parts}
use Rattle.iv_catalogue.proofs.TriggerNumbers.{dropped_at, dropped_none}
use Rattle.iv_catalogue.proofs.catalogue.Catalogue.drop_trigger.Goals as goal

pub invariant_of-self : goal.invariant_of-self
invariant_of-self c =
    let i = c.self.inside in
    let place : position (λ t. nat_eq t.id c.args.id) i.triggers ≡ Some c.in-Some.place =
    ap (position (λ t. nat_eq t.id c.args.id)) (sym c.as_slice.ensures) ∙ sym c.in-Some.ensures.place in
    rw (c.remove.ensures, dropped_at 0 c.args.id i.triggers i.created c.in-Some.place c.self.invariant.0.numbers place)
    (dropped_within (parts i.tables i.constraints i.triggers i.created) c.args.id c.self.invariant.0, c.self.invariant.1)

pub returns-in-Some : goal.returns-in-Some
returns-in-Some c =
    let i = c.self.inside in
    let place : position (λ t. nat_eq t.id c.args.id) i.triggers ≡ Some c.in-Some.place =
    ap (position (λ t. nat_eq t.id c.args.id)) (sym c.as_slice.ensures) ∙ sym c.in-Some.ensures.place in
    rw (← c.self.view_is)
    (ap (λ triggers. parts i.tables i.constraints triggers i.created)
    (c.remove.ensures ∙ dropped_at 0 c.args.id i.triggers i.created c.in-Some.place c.self.invariant.0.numbers place))

pub returns-in_default : goal.returns-in_default
returns-in_default c =
    let i = c.self.inside in
    let place : position (λ t. nat_eq t.id c.args.id) i.triggers ≡ None =
    ap (position (λ t. nat_eq t.id c.args.id)) (sym c.as_slice.ensures) ∙ sym c.in_default.ensures.place in
    rw (← c.self.view_is)
    (ap (λ triggers. parts i.tables i.constraints triggers i.created) (dropped_none 0 c.args.id i.triggers i.created c.self.invariant.0.numbers place))
