use Rattle.std.proofs.Common.{◌≡◌, ◌+◌, ℕ, List, length, ap, sym, subst, arith}
use Rattle.iv_store_index.specs.Types.{Constraint}
use Rattle.iv_store_index.specs.Kept.{IsKept}
use Rattle.iv_laws_kept.specs.Kept.{AllNamed}
use Rattle.iv_store_index.proofs.Keeping.{kept_cleared, kept_others, kept_unmarked, kept_with_table}
use Rattle.iv_store_index.proofs.adding.add_table.Goals as goal

pub returns-in_err-cover-clause-kept : goal.returns-in_err-cover-clause-kept
returns-in_err-cover-clause-kept c = λ h none t k. kept_others h c.args.faults.now c.args.groups.now c.cover.new.self none c.cover.ensures.stays (λ p less. c.cover.ensures.groups p) k

pub returns-in_err-watch-clause-kept : goal.returns-in_err-watch-clause-kept
returns-in_err-watch-clause-kept c = λ h none t k.
    let w = c.args.faults.now in
    let now : IsKept h w c.clear.new.groups =
    kept_cleared h w c.args.groups.now c.cover.new.self c.clear.new.groups (length c.constraints-first.result.now) none (ap (λ (cs : List Constraint). length cs) c.constraints-first.ensures) c.cover.ensures.stays
    c.cover.ensures.groups c.clear.ensures.others c.clear.ensures.count k in
    kept_unmarked h c.watch.new.self c.clear.new.groups none (c.in_err-watch.ensures.still h.rows now.shown) (c.in_err-watch.ensures.still_watched now.watched)
    (subst (λ cs. AllNamed cs) (sym c.in_err-watch.ensures.err) now.named)

pub returns-clause-kept : goal.returns-clause-kept
returns-clause-kept c = λ h none t k.
    let w = c.args.faults.now in
    let first : ℕ = length c.constraints-first.result.now in
    let is : first ≡ length w.constraints = ap (λ (cs : List Constraint). length cs) c.constraints-first.ensures in
    let now : IsKept h w c.clear.new.groups =
    kept_cleared h w c.args.groups.now c.cover.new.self c.clear.new.groups first none is c.cover.ensures.stays c.cover.ensures.groups c.clear.ensures.others c.clear.ensures.count k in
    kept_with_table h w c.watch.new.self c.clear.new.groups c.args.constraints.now (length c.args.tables.now.items) first (first + length c.args.constraints.now) none t c.requires.own c.requires.named is
    (omega arith) c.clear.ensures.cleared c.in_ok-watch.ensures.ok c.in_ok-watch.ensures.shown c.in_ok-watch.ensures.watched now
