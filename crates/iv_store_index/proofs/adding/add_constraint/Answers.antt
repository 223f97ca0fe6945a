use Rattle.std.proofs.Common.{◌≡◌, ◌+◌, ◌≤◌, ℕ, List, length, ap, sym, ◌∙◌, arith}
use Rattle.iv_store_index.specs.Types.{Constraint}
use Rattle.iv_store_groups.specs.Groups.{GroupOf}
use Rattle.iv_store_index.proofs.Keeping.{kept_others, length_set, same_cleared, same_twice}
use Rattle.iv_store_index.proofs.adding.add_constraint.Goals as goal

pub returns-in_err-cover-clause-kept : goal.returns-in_err-cover-clause-kept
returns-in_err-cover-clause-kept c =
    kept_others c.args.versions.now c.args.faults.now c.args.groups.now c.cover.new.self c.requires.unmarked c.cover.ensures.stays (λ k less. c.cover.ensures.groups k) c.requires.kept

pub fill_and_watch-requires-clause-kept : goal.fill_and_watch-requires-clause-kept
fill_and_watch-requires-clause-kept c =
    let id : ℕ = length c.constraints-id.result.now in
    let count : length c.args.faults.now.constraints ≡ id = ap (λ (cs : List Constraint). length cs) (sym c.constraints-id.ensures) in
    let within : id + 1 ≤ length c.cover.new.self.groups = c.in_ok-cover.ensures.ok in
    let same : length c.clear.new.self.groups ≡ length c.cover.new.self.groups = ap (λ (gs : List (List GroupOf)). length gs) c.clear.ensures.groups ∙ length_set c.cover.new.self.groups id in
    kept_others c.args.versions.now c.args.faults.now c.args.groups.now c.clear.new.self c.requires.unmarked (omega (arith, c.cover.ensures.stays, same))
    (same_twice (length c.args.faults.now.constraints) c.args.groups.now.groups c.cover.new.self.groups c.clear.new.self.groups (λ k less. c.cover.ensures.groups k)
    (same_cleared (length c.args.faults.now.constraints) id c.cover.new.self.groups c.clear.new.self.groups (omega (arith, count)) (omega (arith, within)) c.clear.ensures.groups)) c.requires.kept

pub returns-in-Err-clause-kept : goal.returns-in-Err-clause-kept
returns-in-Err-clause-kept c =
    let id : ℕ = length c.constraints-id.result.now in
    let count : length c.fill_and_watch.new.faults.constraints ≡ id = ap (λ (cs : List Constraint). length cs) (c.in-Err.ensures.err ∙ sym c.constraints-id.ensures) in
    let within : id + 1 ≤ length c.cover.new.self.groups = c.in_ok-cover.ensures.ok in
    let cleared : length c.clear.new.self.groups ≡ length c.cover.new.self.groups = ap (λ (gs : List (List GroupOf)). length gs) c.clear.ensures.groups ∙ length_set c.cover.new.self.groups id in
    let same : length c.clear-in-Err.new.self.groups ≡ length c.fill_and_watch.new.groups.groups = ap (λ (gs : List (List GroupOf)). length gs) c.clear-in-Err.ensures.groups ∙ length_set c.fill_and_watch.new.groups.groups id in
    kept_others c.args.versions.now c.fill_and_watch.new.faults c.fill_and_watch.new.groups c.clear-in-Err.new.self c.requires.unmarked (omega (arith, same))
    (same_cleared (length c.fill_and_watch.new.faults.constraints) id c.fill_and_watch.new.groups.groups c.clear-in-Err.new.self.groups (omega (arith, count))
    (omega (arith, within, cleared, c.fill_and_watch.ensures.count)) c.clear-in-Err.ensures.groups) c.fill_and_watch.ensures.kept
