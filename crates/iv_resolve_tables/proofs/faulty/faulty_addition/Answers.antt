use Rattle.std.proofs.Common.{◌∙◌, ap, sym}
use Rattle.iv_resolution.specs.Constraints.{table_constraint}
use Rattle.iv_resolution.specs.Tables.{altered_at, faulty_addition}
use Rattle.iv_resolve_tables.proofs.Altering.{asked_there, asked_nowhere}
use Rattle.iv_resolve_tables.proofs.faulty.faulty_addition.Goals as goal

pub returns-in-Some : goal.returns-in-Some
returns-in-Some c =
    c.faulty_added.ensures
    ∙ ap (faulty_addition c.args.catalogue.now (altered_at c.args.catalogue.now c.in-Some.table.place c.in-Some.table.table.now)) c.table_constraint-written.ensures
    ∙ sym (asked_there c.args.catalogue.now c.args.name.now (λ own. faulty_addition c.args.catalogue.now own (table_constraint c.args.constraint.now)) c.in-Some.table.place c.in-Some.table.table.now c.in-Some.ensures.place c.in-Some.ensures.table)

pub returns-in-None : goal.returns-in-None
returns-in-None c = sym (asked_nowhere c.args.catalogue.now c.args.name.now (λ own. faulty_addition c.args.catalogue.now own (table_constraint c.args.constraint.now)) c.in-None.ensures.place)
