use Rattle.std.proofs.Common.{◌≡◌, ◌-◌, ◌<◌, ◌≤◌, length, get_or, false, sym, ap, subst, ◌∙◌}
use Rattle.std.proofs.lemmas.Bool.{le-ltb}
use Rattle.iv_store_violating.specs.Flagging.{with_flag}
use Rattle.iv_store_violating.proofs.Exchanges.{Exchanged, flagged_less, none_differs, within_flags, read_zero}
use Rattle.iv_store_violating.proofs.group_flags.GroupFlags.lower.Goals as goal

pub returns-then-from-self : goal.returns-then-from-self
returns-then-from-self c =
    let within : c.args.place < length c.self.inside.position.items = within_flags c.self.inside.position.items c.self.inside.flagged c.args.place c.args.self.now c.self.view_is c.requires in
    let from : c.index-from.result.now ≡ get_or c.self.inside.position.items c.args.place 0 = read_zero c.self.inside.position.items c.args.place c.index-from.result.now within c.index-from.ensures in
    let len : length c.exchange.new.position.items ≡ length c.self.inside.position.items = sym c.exchange.new.position.ok.0 ∙ c.exchange.ensures.position_len ∙ c.self.inside.position.ok.0 in
    flagged_less c.self.inside.order.items c.self.inside.position.items c.exchange.new.position.items c.self.inside.flagged c.args.place c.self.invariant len within
    (subst (λ x. x < c.self.inside.flagged) from c.if-from-self.true)
    (subst (λ x. Exchanged c.self.inside.order.items c.self.inside.position.items c.exchange.new.position.items x (c.self.inside.flagged - 1)) from c.exchange.ensures.positions)
    ∙ ap (λ violating. with_flag violating c.args.place false) c.self.view_is

pub returns-else-from-self : goal.returns-else-from-self
returns-else-from-self c =
    let within : c.args.place < length c.self.inside.position.items = within_flags c.self.inside.position.items c.self.inside.flagged c.args.place c.args.self.now c.self.view_is c.requires in
    let from : c.index-from.result.now ≡ get_or c.self.inside.position.items c.args.place 0 = read_zero c.self.inside.position.items c.args.place c.index-from.result.now within c.index-from.ensures in
    sym c.self.view_is ∙ none_differs c.self.inside.position.items c.self.inside.flagged c.args.place false within
    (le-ltb (get_or c.self.inside.position.items c.args.place 0) c.self.inside.flagged (subst (λ x. c.self.inside.flagged ≤ x) from c.if-from-self.false))
    ∙ ap (λ violating. with_flag violating c.args.place false) c.self.view_is
