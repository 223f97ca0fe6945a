use Rattle.std.proofs.Common.{◌≡◌, ◌∙◌, ℕ, [], List, IfSome, ap, subst, sym}
use Rattle.iv_expr.specs.Types.{Kind, Value, StoredRow}
use Rattle.iv_expr.specs.Asking.{IsNeverRefused}
use Rattle.iv_expr.specs.Searches.{AreHolders}
use Rattle.iv_expr.specs.Scopes.{table_rows, within}
use Rattle.iv_expr.specs.Found.{LeadsTo, LeadsToSome}
use Rattle.iv_expr.proofs.Scan.{table_rises}
use Rattle.iv_expr.proofs.Leading.{leads_nowhere, leads_some, seen}
use Rattle.iv_expr.proofs.search.holders_for.Goals as goal

pub returns-then-may_be : goal.returns-then-may_be
returns-then-may_be g c =
    let rows : List StoredRow = table_rows (g.R.Rows.rows c.args.rows.now) c.args.table in
    let same : c.over-inside.result ≡ within c.args.scope.now [] =
    c.over-inside.ensures ∙ ap (λ (l : List (List Value)). record { ranges = l; frame = c.args.scope.now.frame; rows = c.args.scope.now.rows }) c.ranges_with-ranges.ensures in
    subst (λ (l : List StoredRow). LeadsToSome (seen c.args.scope.now c.args.cond.now) (table_rows l c.args.table) c.holders.result) c.requires
    (leads_some c.args.scope.now c.over-inside.result rows c.in_ok-known.known.kinds.now c.args.cond.now c.in-Ok.asked.items c.ask.new.asked.items c.holders.result same
    (table_rises 0 c.args.table _ c.recall_order.ensures) c.in_ok-known.ensures (subst (λ (l : List (List Kind)). IsNeverRefused c.over-inside.result l c.args.cond.now) c.new.ensures (c.is_never_refused.ensures c.if-not-is_never_refused.false)) c.in-Ok.ensures (c.in-Ok-ask.ensures.asks c.if-may_be.true)
    (subst (λ (l : List Value). IfSome c.holders.result (λ h. AreHolders l rows h)) c.as_slice.ensures.value c.holders.ensures))

pub returns : goal.returns
returns g c =
    let rows : List StoredRow = table_rows (g.R.Rows.rows c.args.rows.now) c.args.table in
    let same : c.over-inside.result ≡ within c.args.scope.now [] =
    c.over-inside.ensures ∙ ap (λ (l : List (List Value)). record { ranges = l; frame = c.args.scope.now.frame; rows = c.args.scope.now.rows }) c.ranges_with-ranges.ensures in
    subst (λ (n : List ℕ). LeadsTo (seen c.args.scope.now c.args.cond.now) (table_rows c.args.scope.now.rows c.args.table) n) (sym c.new-else-may_be.ensures)
    (subst (λ (l : List StoredRow). LeadsTo (seen c.args.scope.now c.args.cond.now) (table_rows l c.args.table) []) c.requires
    (leads_nowhere c.args.scope.now c.over-inside.result rows c.in_ok-known.known.kinds.now c.args.cond.now same
    c.in_ok-known.ensures (subst (λ (l : List (List Kind)). IsNeverRefused c.over-inside.result l c.args.cond.now) c.new.ensures (c.is_never_refused.ensures c.if-not-is_never_refused.false)) (c.in-Ok-ask.ensures.never c.if-may_be.false)))
