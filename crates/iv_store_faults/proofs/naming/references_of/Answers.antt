use Rattle.std.proofs.Common.{◌++◌, List, Option, subst, sym}
use Rattle.iv_store_following.specs.declared.reference.KeyReference.{KeyReference}
use Rattle.iv_store_faults.specs.Watch.{AreReferencesOf}
use Rattle.iv_store_faults.proofs.WatchAppended.{references_append, references_length}
use Rattle.iv_store_faults.proofs.naming.references_of.Goals as goal

pub returns-clause-references : goal.returns-clause-references
returns-clause-references c = λ old long right.
    references_append c.args.olds.now c.args.more.now old c.in_ok-all_joined.field-0.items long right
    (subst (λ (rs : List (Option KeyReference)). AreReferencesOf (c.args.olds.now ++ c.args.more.now) c.args.more.now rs) (sym c.in_ok-all_joined.ensures) c.in_ok-parts.ensures)

pub returns-clause-len : goal.returns-clause-len
returns-clause-len c =
    references_length (c.args.olds.now ++ c.args.more.now) c.args.more.now c.in_ok-all_joined.field-0.items
    (subst (λ (rs : List (Option KeyReference)). AreReferencesOf (c.args.olds.now ++ c.args.more.now) c.args.more.now rs) (sym c.in_ok-all_joined.ensures) c.in_ok-parts.ensures)
