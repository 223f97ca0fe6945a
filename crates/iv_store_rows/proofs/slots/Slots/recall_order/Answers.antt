use Rattle.std.proofs.Common.{subst}
use Rattle.iv_expr.specs.Scopes.{Rises}
use Rattle.iv_store_rows.specs.InSlots.{live_rows}
use Rattle.iv_store_rows.specs.Filing.{Filed}
use Rattle.iv_store_rows.proofs.SlotLaws.{live_rises}
use Rattle.iv_store_rows.proofs.slots.Slots.recall_order.Goals as goal

pub returns-clause-rises : goal.returns-clause-rises
returns-clause-rises c = subst (λ (v : Filed). Rises 0 (live_rows v.slots)) c.self.view_is (live_rises 0 c.self.inside.slots.items c.self.invariant.rises)
