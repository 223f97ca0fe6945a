use Rattle.std.proofs.Common.{◌≡◌, ◌∙◌, ◌+◌, length, ap, arith, subst, sym}
use Rattle.std.proofs.lemmas.List.{length-append}
use Rattle.iv_expr.proofs.Asked.{AreNulls, ask_nothing, one_null_more}
use Rattle.iv_account.proofs.equal.nothing_asked.Goals as goal

pub loop-asked-init : goal.loop-asked-init
loop-asked-init c = subst AreNulls (sym c.in_ok-asked.ensures.items) tt

pub loop-asked-smaller : goal.loop-asked-smaller
loop-asked-smaller c =
    let longer : length c.push.new.self.items ≡ length c.loop-asked.asked.items + 1 = ap length c.in_ok-push.ensures.items ∙ length-append _ _ in
    omega (arith, longer, c.len.ensures, c.loop-asked-test.true)

pub loop-asked-preserved : goal.loop-asked-preserved
loop-asked-preserved c = subst AreNulls (sym c.in_ok-push.ensures.items) (one_null_more _ c.loop-asked.invariant)

pub returns : goal.returns
returns c = λ row. ask_nothing c.loop-asked.asked.items row c.loop-asked.invariant
