use Rattle.std.proofs.Common.{◌≡◌, ℕ, ◌-◌, ◌<◌, List, length, get_or, ap, sym, ◌∙◌, subst, arith}
use Rattle.iv_store_violating.proofs.Cut.{flags_exchanged}
use Rattle.iv_store_violating.proofs.Exchanges.{Exchanged}
use Rattle.iv_store_violating.proofs.group_flags.cut_at.Goals as goal

pub returns-clause-flags : goal.returns-clause-flags
returns-clause-flags c = λ p.
    let order : List ℕ = c.args.order.now.items in
    let old : List ℕ = c.args.position.now.items in
    let last : c.len-last.result - 1 ≡ length order - 1 = ap (λ n. n - 1) (c.len-last.ensures ∙ c.args.order.now.ok.0) in
    let from_in : c.args.from < length order = subst (λ n. n < length order) c.requires.from (c.requires.paired.position_in (length order - 1) (omega (arith, c.requires.some))) in
    let len : length c.exchange.new.position.items ≡ length old = sym c.exchange.new.position.ok.0 ∙ c.exchange.ensures.position_len ∙ c.args.position.now.ok.0 in
    c.cut.ensures.flags p
    ∙ flags_exchanged order old c.exchange.new.position.items c.args.flagged c.args.from (length order - 1) c.requires.paired len from_in (omega (arith, c.requires.some)) c.requires.unflagged
    (omega (arith, c.requires.unflagged, from_in))
    (subst (λ n. Exchanged order old c.exchange.new.position.items c.args.from n) last c.exchange.ensures.positions) p
