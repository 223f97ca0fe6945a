use Rattle.std.proofs.Common.{◌+◌, ◌∷◌, ◌∙◌, [], ap, drop, subst, sym}
use Rattle.std.proofs.lemmas.List.{drop_more}
use Rattle.iv_dump.specs.Making.{Makes}
use Rattle.iv_dump.proofs.Made.{makes_nothing, makes_then}
use Rattle.iv_dump.proofs.parts.push_additions.Goals as goal

pub loop-constraint-init : goal.loop-constraint-init
loop-constraint-init c = makes_nothing c.args.tables.now c.args.scripts.now c.args.constraints.now

pub loop-constraint-preserved : goal.loop-constraint-preserved
loop-constraint-preserved c =
    let ks = c.args.constraints.now in
    let i = c.loop-constraint.constraint-index in
    let k = c.constraint-item.result in
    makes_then c.args.tables.now c.args.scripts.now c.loop-constraint.scripts c.push_addition.new.scripts [] [] [] [] ks (drop i ks) (drop (i + 1) ks) c.loop-constraint.invariant
    (subst (λ xs. Makes c.args.tables.now c.loop-constraint.scripts c.push_addition.new.scripts [] [] xs (drop (i + 1) ks))
    (sym (drop_more ks i k c.loop-constraint-test.true ∙ ap (λ y. y ∷ drop (i + 1) ks) (sym c.constraint-item.is)))
    (c.in_ok-push_addition.ensures (drop (i + 1) ks)))
