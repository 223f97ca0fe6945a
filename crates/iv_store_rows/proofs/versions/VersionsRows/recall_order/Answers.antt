use Rattle.std.proofs.Common.{subst}
use Rattle.iv_expr.specs.Scopes.{Rises}
use Rattle.iv_store_rows.specs.Histories.{History, history_of}
use Rattle.iv_store_rows.proofs.Histories.{rows_rise}
use Rattle.iv_store_rows.proofs.versions.VersionsRows.recall_order.Goals as goal

pub returns : goal.returns
returns c =
    let s = c.self.inside in
    subst (λ (h : History). Rises 0 h.rows) c.self.view_is (rows_rise (history_of s.slots.slots s.next s.journal s.marks.items) c.self.invariant.sound)
