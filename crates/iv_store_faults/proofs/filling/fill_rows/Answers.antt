use Rattle.std.proofs.Common.{ℕ, List, arith, sym, subst, ◌<◌, ◌∙◌}
use Rattle.iv_value.specs.declared.value.Value.{Value}
use Rattle.iv_expr.proofs.Scan.{scan_above, scan_small, table_rises}
use Rattle.iv_store_faults.proofs.Filled.{filling_begins, filling_goes_on, filling_ends}
use Rattle.iv_store_faults.proofs.filling.fill_rows.Goals as goal

pub loop-number-init : goal.loop-number-init
loop-number-init g c = filling_begins _ c.args.constraint.now c.args.id c.args.groups.now c.recall_order.ensures c.requires.free

pub fill_row-requires : goal.fill_row-requires
fill_row-requires g c = subst (λ n. c.args.id < n) (sym c.loop-number.invariant.count) c.requires.known

pub loop-number-smaller : goal.loop-number-smaller
loop-number-smaller g c =
    let p : ℕ × List Value = (c.in-Some.number, c.in-Some.row.now) in
    omega (arith, scan_above c.loop-number.after _ p c.in-Some.ensures, scan_small c.loop-number.after _ p (table_rises 0 c.args.constraint.now.table _ c.recall_order.ensures) c.in-Some.ensures)

pub loop-number-preserved : goal.loop-number-preserved
loop-number-preserved g c =
    filling_goes_on _ c.args.constraint.now c.args.id c.loop-number.after (c.in-Some.number, c.in-Some.row.now) c.args.groups.now c.loop-number.groups c.fill_row.new.groups
    c.recall_order.ensures c.in-Some.ensures c.loop-number.invariant c.in_ok-fill_row.ensures.rows c.fill_row.ensures.others c.fill_row.ensures.count c.fill_row.ensures.grows

pub returns-in_err-fill_row-clause-others : goal.returns-in_err-fill_row-clause-others
returns-in_err-fill_row-clause-others g c = λ k n. c.fill_row.ensures.others k n ∙ c.loop-number.invariant.others k n

pub returns-in_err-fill_row-clause-count : goal.returns-in_err-fill_row-clause-count
returns-in_err-fill_row-clause-count g c = c.fill_row.ensures.count ∙ c.loop-number.invariant.count

pub returns-in_err-fill_row-clause-grows : goal.returns-in_err-fill_row-clause-grows
returns-in_err-fill_row-clause-grows g c = omega (arith, c.fill_row.ensures.grows, c.loop-number.invariant.grows)

pub returns-clause-rows : goal.returns-clause-rows
returns-clause-rows g c =
    filling_ends _ c.args.constraint.now c.args.id c.loop-number.after c.args.groups.now c.loop-number.groups c.recall_order.ensures c.in_default.ensures c.loop-number.invariant

pub returns-clause-others : goal.returns-clause-others
returns-clause-others g c = c.loop-number.invariant.others

pub returns-clause-count : goal.returns-clause-count
returns-clause-count g c = c.loop-number.invariant.count

pub returns-clause-grows : goal.returns-clause-grows
returns-clause-grows g c = c.loop-number.invariant.grows
