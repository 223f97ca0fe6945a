use Rattle.std.proofs.Common.{◌≡◌, true, [], ◌∷◌, ap, sym, subst, ◌∙◌}
use Rattle.iv_store_index.specs.Kept.{Store}
use Rattle.iv_store.specs.Stores.{has_keys}
use Rattle.iv_store_index.proofs.Keeping.{named_with, unmarked}
use Rattle.iv_store_index.proofs.store.IndexStoreKeeper.add_constraint.Goals as goal

pub add_constraint-requires-clause-unmarked : goal.add_constraint-requires-clause-unmarked
add_constraint-requires-clause-unmarked c = unmarked c.self.inside.versions (ap (λ (v : Store). v.state.marks) c.self.view_is ∙ c.requires.unmarked)

pub add_constraint-requires-clause-named : goal.add_constraint-requires-clause-named
add_constraint-requires-clause-named c =
    named_with c.self.inside.faults.constraints (c.args.constraint.now ∷ []) c.self.invariant.0.named
    (subst (λ (v : Store). has_keys v.state (c.args.constraint.now ∷ []) ≡ true) (sym c.self.view_is) c.requires.keys)
