use Rattle.std.proofs.Common.{◌≡◌, drop}
use Rattle.std.proofs.Common.{not}
use Rattle.iv_catalogue.specs.Catalogues.{has_constraint}
use Rattle.iv_resolution.specs.Items.{constraint_item, first_of, told_if}
use Rattle.iv_resolve_name_faults.proofs.unknown.first_no_constraint.Given as goal

abbrev pub invariant-loop-name : goal.invariant-loop-name
invariant-loop-name l = first_of (λ n. told_if (not (has_constraint l.fn.catalogue n)) (constraint_item n)) l.names ≡ first_of (λ n. told_if (not (has_constraint l.fn.catalogue n)) (constraint_item n)) (drop l.name-index l.names)
