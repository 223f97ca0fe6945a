use Rattle.std.proofs.Common.{length, ap, sym, ◌∙◌}
use Rattle.iv_laws_kept.specs.Kept.{rows_in}
use Rattle.iv_store_violating.specs.Shown.{shown_of}
use Rattle.iv_store_faults.specs.Violating.{violates_by}
use Rattle.iv_store_violating.specs.Shown.{shown}
use Rattle.iv_store_following.specs.References.{reference_at}
use Rattle.iv_store_faults.proofs.Filled.{told_violating}
use Rattle.iv_store_faults.proofs.filling.is_violating.Goals as goal

pub returns-in-Some-clause-violating : goal.returns-in-Some-clause-violating
returns-in-Some-clause-violating c = λ constraints all at is.
    told_violating constraints c.args.groups.now.groups c.args.id c.args.constraint.now (reference_at c.args.references.now 0) c.args.row.now c.in-Some.key
    c.count_under-count.result c.refers-referenced.result c.violate.result all at is (sym c.kept_key.ensures ∙ c.in-Some.is)
    (c.count_under-count.ensures ∙ ap (λ gs. length (rows_in (shown_of gs c.args.id) c.in-Some.key)) c.refers-referenced.ensures.kept)
    c.refers-referenced.ensures.told c.violate.ensures
    ∙ ap (violates_by constraints (shown c.args.groups.now.groups) c.args.id c.args.constraint.now) (sym (sym c.kept_key.ensures ∙ c.in-Some.is))
