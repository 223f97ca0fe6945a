use Rattle.std.proofs.Common.{◌∙◌}
use Rattle.iv_account.proofs.account.changes_of.Goals as goal

pub returns : goal.returns
returns c = c.from_vec.ensures ∙ c.in_ok-copies.ensures.items_if_clones_equal (λ x y same. same)
