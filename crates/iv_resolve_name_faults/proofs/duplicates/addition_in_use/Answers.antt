use Rattle.std.proofs.Common.{ℕ, List, ◌∙◌, ◌+◌, ap}
use Rattle.iv_resolution.specs.Constraints.{table_constraint}
use Rattle.iv_resolution.specs.NameFaults.{constraint_in_use}
use Rattle.iv_resolve_name_faults.proofs.duplicates.addition_in_use.Goals as goal

pub returns : goal.returns
returns c =
    c.constraint_in_use.ensures
    ∙ ap (λ (name : List ℕ). constraint_in_use c.args.catalogue.now name (c.count_stored.result + 1) (table_constraint c.args.constraint.now)) c.as_str.ensures
    ∙ ap (λ (count : ℕ). constraint_in_use c.args.catalogue.now c.args.table.now.name (count + 1) (table_constraint c.args.constraint.now)) c.count_stored.ensures
