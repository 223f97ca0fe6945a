use Rattle.std.proofs.Common.{[], ◌∷◌, ◌++◌, sym, subst}
use Rattle.iv_machine.specs.declared.database.Database.{Database}
use Rattle.iv_store_plain.specs.Suspects.{Watched}
use Rattle.iv_store_plain.proofs.Suspects.{watched_with_mark}
use Rattle.iv_store_plain.proofs.plain.PlainStoreKeeper.mark.Goals as goal

pub invariant_of-self-2 : goal.invariant_of-self-2
invariant_of-self-2 c =
    let s = c.self.inside in
    subst (λ dbs. Watched s.touched.items s.constraints.items s.database dbs) (sym c.in_ok-push.ensures.items)
    (subst (λ (db : Database). Watched s.touched.items s.constraints.items s.database (s.marks.items ++ db ∷ [])) (sym c.in_ok-copy.ensures)
    (watched_with_mark s.touched.items s.constraints.items s.database s.marks.items c.self.invariant))
