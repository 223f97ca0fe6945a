use Rattle.std.proofs.Common.{option_map, Some, ap, ◌∙◌}
use Rattle.iv_machine.specs.Databases.{first}
use Rattle.iv_laws_kept.specs.Kept.{fault_of}
use Rattle.iv_store_violating.specs.Shown.{shown}
use Rattle.iv_store_violating.proofs.KeptRows.{rows_are_kept}
use Rattle.iv_store_violating.proofs.first.first_of.Goals as goal

pub returns-in-Some : goal.returns-in-Some
returns-in-Some c = λ constraints few are.
    (λ i. Some (record { constraint = c.new.ensures i; row = c.in-Some.row }))
    ∙ ap (option_map (fault_of c.args.id)) (c.in-Some.ensures ∙ ap first (rows_are_kept constraints (shown c.args.groups.now.groups) c.args.violating.now few are c.args.id c.flagged.result.now c.flagged.ensures.members))

pub returns-in-None : goal.returns-in-None
returns-in-None c = λ constraints few are.
    ap (option_map (fault_of c.args.id)) (c.in-None.ensures ∙ ap first (rows_are_kept constraints (shown c.args.groups.now.groups) c.args.violating.now few are c.args.id c.flagged.result.now c.flagged.ensures.members))
