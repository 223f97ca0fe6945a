use Rattle.std.proofs.Common.{◌∙◌, List, Some, None, option_map, ap}
use Rattle.iv_expr.specs.declared.row.StoredRow.{StoredRow}
use Rattle.iv_expr.specs.Scopes.{numbered, row_above, table_rows}
use Rattle.iv_expr.proofs.Scan.{table_rises}
use Rattle.iv_expr.proofs.Sought.{next_found, there_rise}
use Rattle.iv_expr.proofs.search.Search.next.Goals as goal

pub next_above-requires : goal.next_above-requires
next_above-requires g c =
    there_rise c.self.inside.found c.in-Some.numbers _
    c.in-Some.is c.self.invariant (table_rises 0 c.self.inside.table _ c.recall_order.ensures)

pub returns-in-Some-next_above : goal.returns-in-Some-next_above
returns-in-Some-next_above g c =
    let rows : List StoredRow = table_rows (g.R.Rows.rows c.self.inside.rows.now) c.self.inside.table in
    c.scan.ensures
    ∙ ap (λ n. option_map numbered (row_above n rows)) c.saturating_sub.ensures
    ∙ ap (option_map numbered) (next_found c.self.inside.found c.in-Some.numbers rows c.args.after (Some c.in-Some-next_above.number)
    c.in-Some.is c.self.invariant (table_rises 0 c.self.inside.table _ c.recall_order.ensures) c.in-Some-next_above.ensures)
    ∙ ap (λ (l : List StoredRow). option_map numbered (row_above c.args.after l)) c.self.view_is

pub returns-in-None-next_above : goal.returns-in-None-next_above
returns-in-None-next_above g c =
    let rows : List StoredRow = table_rows (g.R.Rows.rows c.self.inside.rows.now) c.self.inside.table in
    ap (option_map numbered) (next_found c.self.inside.found c.in-Some.numbers rows c.args.after None
    c.in-Some.is c.self.invariant (table_rises 0 c.self.inside.table _ c.recall_order.ensures) c.in-None-next_above.ensures)
    ∙ ap (λ (l : List StoredRow). option_map numbered (row_above c.args.after l)) c.self.view_is
