use Rattle.std.proofs.Common.{◌≡◌, ◌+◌, ◌<◌, ◌≤◌, arith, length, get_or, true, sym, ap, subst, ◌∙◌}
use Rattle.std.proofs.lemmas.Bool.{lt-ltb}
use Rattle.iv_store_violating.specs.Flagging.{with_flag}
use Rattle.iv_store_violating.proofs.Exchanges.{Exchanged, flagged_more, none_differs, position_known, with_flagged, within_flags, read_zero}
use Rattle.iv_store_violating.proofs.group_flags.GroupFlags.raise.Goals as goal

pub returns-then-from-self : goal.returns-then-from-self
returns-then-from-self c =
    let within : c.args.place < length c.self.inside.position.items = within_flags c.self.inside.position.items c.self.inside.flagged c.args.place c.args.self.now c.self.view_is c.requires in
    let from : c.index-from.result.now ≡ get_or c.self.inside.position.items c.args.place 0 = read_zero c.self.inside.position.items c.args.place c.index-from.result.now within c.index-from.ensures in
    let len : length c.exchange.new.position.items ≡ length c.self.inside.position.items = sym c.exchange.new.position.ok.0 ∙ c.exchange.ensures.position_len ∙ c.self.inside.position.ok.0 in
    flagged_more c.self.inside.order.items c.self.inside.position.items c.exchange.new.position.items c.self.inside.flagged c.args.place c.self.invariant len within
    (subst (λ x. c.self.inside.flagged ≤ x) from c.if-from-self.true)
    (subst (λ x. Exchanged c.self.inside.order.items c.self.inside.position.items c.exchange.new.position.items x c.self.inside.flagged) from c.exchange.ensures.positions)
    ∙ ap (λ violating. with_flag violating c.args.place true) c.self.view_is

pub returns-else-from-self : goal.returns-else-from-self
returns-else-from-self c =
    let within : c.args.place < length c.self.inside.position.items = within_flags c.self.inside.position.items c.self.inside.flagged c.args.place c.args.self.now c.self.view_is c.requires in
    let from : c.index-from.result.now ≡ get_or c.self.inside.position.items c.args.place 0 = read_zero c.self.inside.position.items c.args.place c.index-from.result.now within c.index-from.ensures in
    sym c.self.view_is ∙ none_differs c.self.inside.position.items c.self.inside.flagged c.args.place true within
    (lt-ltb (get_or c.self.inside.position.items c.args.place 0) c.self.inside.flagged (subst (λ x. x < c.self.inside.flagged) from c.if-from-self.false))
    ∙ ap (λ violating. with_flag violating c.args.place true) c.self.view_is

pub exchange-requires-clause-first : goal.exchange-requires-clause-first
exchange-requires-clause-first c =
    let within : c.args.place < length c.self.inside.position.items = within_flags c.self.inside.position.items c.self.inside.flagged c.args.place c.args.self.now c.self.view_is c.requires in
    let from : c.index-from.result.now ≡ get_or c.self.inside.position.items c.args.place 0 = read_zero c.self.inside.position.items c.args.place c.index-from.result.now within c.index-from.ensures in
    let known : c.index-from.result.now < length c.self.inside.order.items = position_known c.self.inside.order.items c.self.inside.position.items c.self.inside.flagged c.args.place c.index-from.result.now c.self.invariant within from in
    subst (λ n. c.index-from.result.now < n) (sym c.self.inside.order.ok.0) known

pub exchange-requires-clause-second : goal.exchange-requires-clause-second
exchange-requires-clause-second c =
    let within : c.args.place < length c.self.inside.position.items = within_flags c.self.inside.position.items c.self.inside.flagged c.args.place c.args.self.now c.self.view_is c.requires in
    let from : c.index-from.result.now ≡ get_or c.self.inside.position.items c.args.place 0 = read_zero c.self.inside.position.items c.args.place c.index-from.result.now within c.index-from.ensures in
    let known : c.index-from.result.now < length c.self.inside.order.items = position_known c.self.inside.order.items c.self.inside.position.items c.self.inside.flagged c.args.place c.index-from.result.now c.self.invariant within from in
    let low : c.self.inside.flagged ≤ c.index-from.result.now = c.if-from-self.true in
    subst (λ n. c.self.inside.flagged < n) (sym c.self.inside.order.ok.0) (omega (arith, known, low))

pub invariant_of-self : goal.invariant_of-self
invariant_of-self c =
    let within : c.args.place < length c.self.inside.position.items = within_flags c.self.inside.position.items c.self.inside.flagged c.args.place c.args.self.now c.self.view_is c.requires in
    let from : c.index-from.result.now ≡ get_or c.self.inside.position.items c.args.place 0 = read_zero c.self.inside.position.items c.args.place c.index-from.result.now within c.index-from.ensures in
    let known : c.index-from.result.now < length c.self.inside.order.items = position_known c.self.inside.order.items c.self.inside.position.items c.self.inside.flagged c.args.place c.index-from.result.now c.self.invariant within from in
    let low : c.self.inside.flagged ≤ c.index-from.result.now = c.if-from-self.true in
    let len : length c.exchange.new.order.items ≡ length c.self.inside.order.items = sym c.exchange.new.order.ok.0 ∙ c.exchange.ensures.order_len ∙ c.self.inside.order.ok.0 in
    with_flagged c.exchange.new.order.items c.exchange.new.position.items c.self.inside.flagged (c.self.inside.flagged + 1) c.exchange.ensures.paired (omega (arith, known, low, len))
