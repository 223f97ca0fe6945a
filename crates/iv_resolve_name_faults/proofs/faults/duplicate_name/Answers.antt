use Rattle.std.proofs.Common.{ℕ, List, ◌∙◌, ap, sym}
use Rattle.iv_resolution.specs.NameFaults.{duplicate_in_alteration, duplicate_name}
use Rattle.iv_resolve_name_faults.proofs.faults.duplicate_name.Goals as goal

pub returns-in-AlterTable : goal.returns-in-AlterTable
returns-in-AlterTable c =
    c.duplicate_in_alteration.ensures
    ∙ ap (λ (table : List ℕ). duplicate_in_alteration c.args.catalogue.now table c.in-AlterTable.constraint) c.as_str-in-AlterTable.ensures
    ∙ ap (duplicate_name c.args.catalogue.now) (sym c.in-AlterTable.is)
