use Rattle.std.proofs.Common.{◌+◌, ◌++◌, List, Option, length, map, option_map, refl, subst, sym, take}
use Rattle.std.proofs.lemmas.Option.{slice_get_read}
use Rattle.iv_store_faults.specs.Watch.{AreReferencesOf, as_reference}
use Rattle.iv_store_faults.specs.declared.naming.ReferenceParts.{ReferenceParts}
use Rattle.iv_store_faults.proofs.WatchAppended.{new_key, references_next}
use Rattle.iv_store_faults.proofs.naming.all_parts.Goals as goal

pub parts_of-requires-clause-named : goal.parts_of-requires-clause-named
parts_of-requires-clause-named c =
    new_key c.args.olds.now c.args.more.now c.loop-constraint.constraint-index c.constraint-item.result c.requires.named
    (slice_get_read c.args.more.now (length c.args.more.now) c.loop-constraint.constraint-index c.constraint-item.result refl c.loop-constraint-test.true c.constraint-item.is)

pub loop-constraint-preserved : goal.loop-constraint-preserved
loop-constraint-preserved c =
    subst (λ (xs : List (Option ReferenceParts)). AreReferencesOf (c.args.olds.now ++ c.args.more.now) (take (c.loop-constraint.constraint-index + 1) c.args.more.now) (map (option_map as_reference) xs))
    (sym c.in_ok-push.ensures.items)
    (references_next (c.args.olds.now ++ c.args.more.now) c.args.more.now c.loop-constraint.constraint-index c.constraint-item.result c.loop-constraint.parts.items c.in_ok-parts_of.field-0
    c.loop-constraint-test.true c.constraint-item.is c.loop-constraint.invariant c.in_ok-parts_of.ensures)
