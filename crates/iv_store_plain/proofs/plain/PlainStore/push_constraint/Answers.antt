use Rattle.std.proofs.Common.{◌≡◌, ◌*◌, ◌<◌, length, ap, sym, subst, ◌∙◌}
use Rattle.iv_catalogue.specs.declared.constraint.Constraint.{Constraint}
use Rattle.iv_catalogue.specs.declared.limits.TheConstants.{MOST_CONSTRAINTS, MOST_TABLES}
use Rattle.iv_store.specs.Stores.{StoreState, first_violating_row}
use Rattle.iv_store_plain.specs.Suspects.{Watched}
use Rattle.iv_store_plain.proofs.Suspects.{watched_one_more}
use Rattle.iv_store_plain.proofs.plain.PlainStore.push_constraint.Goals as goal

pub invariant_of-self-2 : goal.invariant_of-self-2
invariant_of-self-2 c =
    let s = c.self.inside in
    let copied : c.in_ok-constraint.constraint ≡ c.args.constraint.now = c.in_ok-constraint.ensures in
    let few : length s.constraints.items < MOST_TABLES * MOST_CONSTRAINTS =
    subst (λ (v : StoreState). length v.constraints < MOST_TABLES * MOST_CONSTRAINTS) (sym c.self.view_is) c.requires.few in
    subst (λ k. Watched s.touched.items k s.database s.marks.items) (sym c.in_ok-push.ensures.items)
    (watched_one_more c.in_ok-constraint.constraint s.constraints.items s.touched.items s.database s.marks.items
    (ap (λ (v : StoreState). v.marks) c.self.view_is ∙ c.requires.unmarked)
    (ap (λ (v : StoreState). first_violating_row v c.in_ok-constraint.constraint) c.self.view_is
    ∙ ap (λ (k : Constraint). first_violating_row c.args.self.now k) copied ∙ c.requires.satisfied)
    few c.self.invariant)
