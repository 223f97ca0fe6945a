use Rattle.std.proofs.Common.{ℕ, List, arith, sym, subst, length, ◌<◌, ◌∙◌}
use Rattle.iv_value.specs.declared.value.Value.{Value}
use Rattle.iv_expr.proofs.Scan.{scan_above, scan_small, table_rises}
use Rattle.iv_store_following.specs.References.{reference_at}
use Rattle.iv_store_faults.proofs.Filled.{searching_begins, searching_goes_on, searching_found, searching_ends}
use Rattle.iv_store_faults.proofs.filling.first_violating.Goals as goal

pub loop-number-init : goal.loop-number-init
loop-number-init g c = searching_begins _ c.args.constraint.now c.args.id (reference_at c.args.references.now 0) c.args.groups.now c.recall_order.ensures

pub is_violating-requires : goal.is_violating-requires
is_violating-requires g c = λ r e. subst (λ gs. r.named < length gs) (sym c.loop-number.invariant.kept) (c.requires r e)

pub loop-number-smaller : goal.loop-number-smaller
loop-number-smaller g c =
    let p : ℕ × List Value = (c.in-Some.number, c.in-Some.row.now) in
    omega (arith, scan_above c.loop-number.after _ p c.in-Some.ensures, scan_small c.loop-number.after _ p (table_rises 0 c.args.constraint.now.table _ c.recall_order.ensures) c.in-Some.ensures)

pub loop-number-preserved : goal.loop-number-preserved
loop-number-preserved g c =
    searching_goes_on _ c.args.constraint.now c.args.id c.loop-number.after (reference_at c.args.references.now 0) (c.in-Some.number, c.in-Some.row.now) c.args.groups.now c.loop-number.groups c.is_violating.new.groups
    c.is_violating.result c.recall_order.ensures c.in-Some.ensures c.loop-number.invariant c.is_violating.ensures.violating c.is_violating.ensures.kept c.is_violating.ensures.grows c.if-is_violating.false

pub returns-then-is_violating-clause-first : goal.returns-then-is_violating-clause-first
returns-then-is_violating-clause-first g c = λ constraints all at is shows.
    searching_found _ c.args.constraint.now c.args.id c.loop-number.after (reference_at c.args.references.now 0) (c.in-Some.number, c.in-Some.row.now) c.args.groups.now c.loop-number.groups
    c.is_violating.result c.recall_order.ensures c.in-Some.ensures c.loop-number.invariant c.is_violating.ensures.violating c.if-is_violating.true constraints
    (record { named = all; at = at; is = is; shows = shows })

pub returns-then-is_violating-clause-kept : goal.returns-then-is_violating-clause-kept
returns-then-is_violating-clause-kept g c = c.is_violating.ensures.kept ∙ c.loop-number.invariant.kept

pub returns-then-is_violating-clause-grows : goal.returns-then-is_violating-clause-grows
returns-then-is_violating-clause-grows g c = omega (arith, c.is_violating.ensures.grows, c.loop-number.invariant.grows)

pub returns-clause-first : goal.returns-clause-first
returns-clause-first g c = λ constraints all at is shows.
    searching_ends _ c.args.constraint.now c.args.id c.loop-number.after (reference_at c.args.references.now 0) c.args.groups.now c.loop-number.groups
    c.in_default.ensures c.loop-number.invariant constraints (record { named = all; at = at; is = is; shows = shows })

pub returns-clause-kept : goal.returns-clause-kept
returns-clause-kept g c = c.loop-number.invariant.kept

pub returns-clause-grows : goal.returns-clause-grows
returns-clause-grows g c = c.loop-number.invariant.grows
