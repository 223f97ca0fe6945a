use Rattle.std.proofs.Common.{arith, ap, sym, ◌∙◌, ◌≡◌, ℕ, pos, Result, Ok, Err, ◌+◌, ◌<◌, ◌^◌, w64, List}
use Rattle.std.proofs.lemmas.Int.{to_z_pos}
use Rattle.iv_value.specs.declared.value.Value.{Value}
use Rattle.iv_value.specs.declared.value.Value.TheVariants.{Int}
use Rattle.iv_expr.specs.declared.row.StoredRow.{StoredRow}
use Rattle.iv_expr.specs.Evaluation.{and_then}
use Rattle.iv_expr.specs.Scopes.{table_rows}
use Rattle.iv_expr.proofs.Scan.{rows_above, above_all, scan_above, scan_small}
use Rattle.iv_catalogue.specs.declared.cause.Cause.{Cause}
use Rattle.iv_exec_proposals.specs.Steps.{row_counted, rows_counted}
use Rattle.iv_exec_proposals.proofs.Along.{along, scanned, scanned_on, scanned_all}
use Rattle.iv_exec_proposals.proofs.LeftOut.{left_out}
use Rattle.iv_exec_proposals.proofs.Steps.{refused_as}
use Rattle.iv_exec_proposals.proofs.finding.count_where.Goals as goal

pub loop-number-init : goal.loop-number-init
loop-number-init g c = record {
  within = omega arith;
  small = omega arith;
  rest =
      ap (λ (x : List StoredRow). along (λ n row. row_counted c.args.scope.now c.args.filter.now row) x 0) (above_all 0 0 _ c.recall_order.ensures (omega arith))
      ∙ sym (left_out c.args.scope.now c.args.filter.now (λ r f. f + 1) (table_rows c.args.scope.now.rows c.args.table) c.search-search.result c.search-search.ensures 0);
}

pub loop-number-smaller : goal.loop-number-smaller
loop-number-smaller g c =
    let p : ℕ × List Value = (c.in-Some.number, c.in-Some.row.now) in
    omega (arith, scan_above c.loop-number.after _ p c.in-Some.ensures, scan_small c.loop-number.after _ p c.recall_order.ensures c.in-Some.ensures)

pub loop-number-preserved : goal.loop-number-preserved
loop-number-preserved g c =
    let p : ℕ × List Value = (c.in-Some.number, c.in-Some.row.now) in
    let up = scan_above c.loop-number.after _ p c.in-Some.ensures in
    record {
      within = omega (arith, up, c.in_ok-found.ensures.grows, c.loop-number.invariant.within);
      small = scan_small c.loop-number.after _ p c.recall_order.ensures c.in-Some.ensures;
      rest = scanned_on (λ n row. row_counted c.args.scope.now c.args.filter.now row) _ c.loop-number.after p _ _ _
          c.recall_order.ensures c.in-Some.ensures (sym c.in_ok-found.ensures.answer) c.loop-number.invariant.rest;
    }

pub returns-in_err-found : goal.returns-in_err-found
returns-in_err-found g c =
    let p : ℕ × List Value = (c.in-Some.number, c.in-Some.row.now) in
    let step = λ (n : ℕ) (row : List Value). row_counted c.args.scope.now c.args.filter.now row in
    let all : Result ℕ Cause = rows_counted c.args.scope.now c.args.filter.now (table_rows c.args.scope.now.rows c.args.table) in
    let whole : all ≡ Err c.in_err-found.field-0.0 =
    sym c.loop-number.invariant.rest ∙ scanned step _ c.loop-number.after p _ c.recall_order.ensures c.in-Some.ensures
    ∙ ap (λ (r : Result ℕ Cause). and_then r (along step (rows_above c.in-Some.number c.search-search.result))) (sym c.in_err-found.ensures.answer) in
    refused_as c.from_residual.result c.in_err-found.field-0.0 c.from_residual.ensures.1
    ∙ sym (ap (λ (r : Result ℕ Cause). and_then r (λ n. Ok (Int (pos n)))) whole)

pub returns : goal.returns
returns g c =
    let step = λ (n : ℕ) (row : List Value). row_counted c.args.scope.now c.args.filter.now row in
    let whole = scanned_all step _ c.loop-number.after _ _ c.in_default.ensures c.loop-number.invariant.rest in
    let small : c.loop-number.found < 2 ^ 63 = omega (arith, c.loop-number.invariant.within, c.loop-number.invariant.small) in
    ap (λ z. Ok (Int z)) (to_z_pos w64 c.loop-number.found small) ∙ sym (ap (λ (r : Result ℕ Cause). and_then r (λ n. Ok (Int (pos n)))) whole)
