use Rattle.std.proofs.Common.{not, length, sym, ap, ◌∙◌}
use Rattle.std.specs.Bool.{nat_lt}
use Rattle.std.specs.Prelude.{option_map}
use Rattle.iv_store_groups.specs.declared.indexes.FoundGroup.{FoundGroup}
use Rattle.iv_laws_kept.specs.Kept.{is_empty}
use Rattle.iv_store_violating.specs.Shown.{shown_of}
use Rattle.iv_store_following.proofs.Placed.{rows_at_key}
use Rattle.iv_store_following.proofs.Steps.{some_rows, no_rows}
use Rattle.iv_store_following.proofs.reference.has_rows.Goals as goal

pub returns-in-Some-clause-has : goal.returns-in-Some-clause-has
returns-in-Some-clause-has c =
    ap (nat_lt 0)
    (c.in-Some.ensures.count ∙ ap length (rows_at_key (shown_of c.args.groups.now.groups c.args.id) c.args.key.now c.in-Some.found.place (sym c.in-Some.ensures.place)))
    ∙ some_rows _

pub returns-in-None-clause-has : goal.returns-in-None-clause-has
returns-in-None-clause-has c = sym (ap (λ rows. not (is_empty rows)) (no_rows (shown_of c.args.groups.now.groups c.args.id) c.args.key.now (sym c.find.ensures.place ∙ ap (option_map (λ (g : FoundGroup). g.place)) c.in-None.is)))
