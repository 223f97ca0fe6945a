use Rattle.std.proofs.Common.{ap, ◌∙◌}
use Rattle.iv_store_violating.specs.Flagging.{is_any}
use Rattle.iv_store_violating.proofs.FlaggedPlaces.{any_by_count}
use Rattle.iv_store_violating.proofs.group_flags.GroupFlags.is_any.Goals as goal

pub returns : goal.returns
returns c = any_by_count c.self.inside.order.items c.self.inside.position.items c.self.inside.flagged c.self.invariant ∙ ap is_any c.self.view_is
