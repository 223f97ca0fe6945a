use Rattle.std.proofs.Common.{◌≡◌, List, [], ◌∷◌, ◌++◌, ◌<◌, length, Option, sym, ap, subst, ◌∙◌}
use Rattle.iv_store_faults.specs.Types.{Constraint}
use Rattle.iv_laws_kept.specs.Kept.{Show}
use Rattle.iv_store_violating.specs.Shown.{shown}
use Rattle.iv_store_following.specs.declared.reference.KeyReference.{KeyReference}
use Rattle.iv_store_following.specs.References.{AreReferences, reference_at}
use Rattle.iv_store_faults.specs.Violating.{IsReferring}
use Rattle.iv_store_faults.proofs.Filled.{added_at, all_shown, named_known, referring}
use Rattle.iv_store_faults.proofs.filling.fill.Goals as goal

-- the references of the constraints before and of the new one
abbrev references_are : (olds : List Constraint) (c : Constraint) (more : List Constraint) (old news : List (Option KeyReference)) → more ≡ c ∷ [] → AreReferences (olds ++ more) (old ++ news)
    → AreReferences (olds ++ c ∷ []) (old ++ news)
references_are olds c more old news e are = subst (λ m. AreReferences (olds ++ m) (old ++ news)) e are

pub first_violating-requires : goal.first_violating-requires
first_violating-requires g c = λ r e.
    named_known c.args.olds.now c.args.constraint.now c.args.olds_references.now c.in_ok-references.references.items (length c.fill_rows.new.groups.groups) c.requires.beside c.requires.named
    (references_are c.args.olds.now c.args.constraint.now c.from_ref.result.now c.args.olds_references.now c.in_ok-references.references.items c.from_ref.ensures.value
    (c.in_ok-references.ensures.references c.args.olds_references.now c.requires.beside c.requires.references))
    (subst (λ n. length c.args.olds.now < n) (sym c.fill_rows.ensures.count) c.requires.known) r (ap (λ news. reference_at news 0) (sym c.as_slice.ensures.value) ∙ e)

pub returns-clause-shown : goal.returns-clause-shown
returns-clause-shown g c =
    subst (λ gs. Show (g.R.Rows.rows c.args.rows.now) (c.args.olds.now ++ c.args.constraint.now ∷ []) (shown gs)) (sym c.first_violating.ensures.kept)
    (all_shown c.args.olds.now c.args.constraint.now (g.R.Rows.rows c.args.rows.now) c.args.groups.now.groups c.fill_rows.new.groups.groups c.requires.shown c.fill_rows.ensures.others
    c.in_ok-fill_rows.ensures.rows)

pub returns-clause-first : goal.returns-clause-first
returns-clause-first g c =
    c.first_violating.ensures.first (c.args.olds.now ++ c.args.constraint.now ∷ []) c.requires.named (added_at c.args.olds.now c.args.constraint.now)
    (subst (λ news. IsReferring (c.args.olds.now ++ c.args.constraint.now ∷ []) c.args.constraint.now (reference_at news 0)) (sym c.as_slice.ensures.value)
    (referring c.args.olds.now c.args.constraint.now c.args.olds_references.now c.in_ok-references.references.items c.requires.beside
    (references_are c.args.olds.now c.args.constraint.now c.from_ref.result.now c.args.olds_references.now c.in_ok-references.references.items c.from_ref.ensures.value
    (c.in_ok-references.ensures.references c.args.olds_references.now c.requires.beside c.requires.references))))
    (all_shown c.args.olds.now c.args.constraint.now (g.R.Rows.rows c.args.rows.now) c.args.groups.now.groups c.fill_rows.new.groups.groups c.requires.shown c.fill_rows.ensures.others
    c.in_ok-fill_rows.ensures.rows)
