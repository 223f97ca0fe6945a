use Rattle.std.proofs.Common.{ℕ, List, ◌++◌, map, ap, ◌∙◌}
use Rattle.iv_laws_kept.specs.Kept.{fault_of}
use Rattle.iv_store_violating.specs.Shown.{shown}
use Rattle.iv_store_violating.proofs.KeptRows.{rows_are_kept}
use Rattle.iv_store_violating.proofs.list.push_faults.Goals as goal

pub returns : goal.returns
returns c = λ constraints few are.
    c.in_ok-push_rows.ensures
    ∙ ap (λ (rows : List ℕ). c.args.faults.now.items ++ map (fault_of c.args.id) rows)
    (c.as_slice.ensures.value ∙ c.in_ok-rows.ensures
    ∙ rows_are_kept constraints (shown c.args.groups.now.groups) c.args.violating.now few are c.args.id c.flagged.result.now c.flagged.ensures.members)
