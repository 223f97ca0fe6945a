use Rattle.std.proofs.Common.{subst, sym}
use Rattle.iv_store_plain.specs.Suspects.{Watched}
use Rattle.iv_store_plain.proofs.Suspects.{watched_without_mark}
use Rattle.iv_store_plain.proofs.plain.PlainStoreKeeper.forget.Goals as goal

pub invariant_of-self : goal.invariant_of-self
invariant_of-self c =
    subst (λ dbs. Watched c.self.inside.touched.items c.self.inside.constraints.items c.self.inside.database dbs) (sym c.remove.ensures.items)
    (watched_without_mark c.self.inside.touched.items c.self.inside.constraints.items c.self.inside.database c.self.inside.marks.items c.place.result c.self.invariant)
