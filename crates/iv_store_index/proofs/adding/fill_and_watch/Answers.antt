use Rattle.std.proofs.Common.{◌++◌, List, length, ap, sym, subst, ◌∙◌, arith}
use Rattle.iv_store_index.specs.Types.{Constraint}
use Rattle.iv_store_index.specs.Kept.{IsKept}
use Rattle.iv_laws_kept.specs.Kept.{AllNamed, Show}
use Rattle.iv_store_violating.specs.Shown.{shown}
use Rattle.iv_store_index.proofs.Keeping.{kept_others, kept_unmarked, none_violates_it, same_but}
use Rattle.iv_store_index.proofs.adding.fill_and_watch.Goals as goal

pub returns-in_err-row-clause-kept : goal.returns-in_err-row-clause-kept
returns-in_err-row-clause-kept c =
    kept_others c.args.versions.now c.args.faults.now c.args.groups.now c.fill.new.groups c.requires.unmarked (omega (arith, c.fill.ensures.count))
    (same_but (length c.args.faults.now.constraints) (length c.args.faults.now.constraints) c.args.groups.now.groups c.fill.new.groups.groups (omega arith) c.fill.ensures.others) c.requires.kept

pub returns-in-Some-clause-kept : goal.returns-in-Some-clause-kept
returns-in-Some-clause-kept c =
    kept_others c.args.versions.now c.args.faults.now c.args.groups.now c.fill.new.groups c.requires.unmarked (omega (arith, c.fill.ensures.count))
    (same_but (length c.args.faults.now.constraints) (length c.args.faults.now.constraints) c.args.groups.now.groups c.fill.new.groups.groups (omega arith) c.fill.ensures.others) c.requires.kept

pub returns-in_err-watch-in-None-clause-kept : goal.returns-in_err-watch-in-None-clause-kept
returns-in_err-watch-in-None-clause-kept c =
    let k : IsKept c.args.versions.now c.args.faults.now c.fill.new.groups =
    kept_others c.args.versions.now c.args.faults.now c.args.groups.now c.fill.new.groups c.requires.unmarked (omega (arith, c.fill.ensures.count))
    (same_but (length c.args.faults.now.constraints) (length c.args.faults.now.constraints) c.args.groups.now.groups c.fill.new.groups.groups (omega arith) c.fill.ensures.others) c.requires.kept in
    kept_unmarked c.args.versions.now c.watch.new.self c.fill.new.groups c.requires.unmarked
    (c.in_err-watch-in-None.ensures.still c.args.versions.now.rows k.shown) (c.in_err-watch-in-None.ensures.still_watched k.watched)
    (subst (λ cs. AllNamed cs) (sym c.in_err-watch-in-None.ensures.err) k.named)

pub returns-in_ok-watch-in-None-clause-kept : goal.returns-in_ok-watch-in-None-clause-kept
returns-in_ok-watch-in-None-clause-kept c =
    let rows = c.args.versions.now.rows in
    let olds : List Constraint = c.args.faults.now.constraints in
    let k : IsKept c.args.versions.now c.args.faults.now c.fill.new.groups =
    kept_others c.args.versions.now c.args.faults.now c.args.groups.now c.fill.new.groups c.requires.unmarked (omega (arith, c.fill.ensures.count))
    (same_but (length olds) (length olds) c.args.groups.now.groups c.fill.new.groups.groups (omega arith) c.fill.ensures.others) c.requires.kept in
    kept_unmarked c.args.versions.now c.watch.new.self c.fill.new.groups c.requires.unmarked
    (c.in_ok-watch-in-None.ensures.shown rows k.shown
    (subst (λ more. Show rows (olds ++ more) (shown c.fill.new.groups.groups)) (sym c.from_ref.ensures.value) c.in_ok-row.ensures.shown)
    (none_violates_it rows c.args.constraint.now c.from_ref.result.now c.from_ref.ensures.value (sym c.in-None.is ∙ c.in_ok-row.ensures.first)))
    (c.in_ok-watch-in-None.ensures.watched k.watched)
    (subst (λ cs. AllNamed cs) (sym (c.in_ok-watch-in-None.ensures.ok ∙ ap (λ more. olds ++ more) c.from_ref.ensures.value)) c.requires.named)
