use Rattle.std.proofs.Common.{ap}
use Rattle.iv_store_rows.specs.Histories.{History}
use Rattle.iv_store_index.proofs.Keeping.{kept_forgotten, tables_same}
use Rattle.iv_store_index.proofs.Known.{known_same}
use Rattle.iv_store_index.proofs.store.IndexStoreKeeper.forget.Goals as goal

pub invariant_of-self : goal.invariant_of-self
invariant_of-self c =
    let s = c.self.inside in (
      kept_forgotten s.versions c.forget.new.self c.place.result s.faults s.groups c.forget.ensures.dropped c.self.invariant.0,
      tables_same _ s.versions c.forget.new.self (ap (λ (h : History). h.rows) c.forget.ensures.dropped) (ap (λ (h : History). h.journal) c.forget.ensures.dropped) c.self.invariant.1,
      known_same _ s.versions c.forget.new.self (ap (λ (h : History). h.rows) c.forget.ensures.dropped) (ap (λ (h : History). h.journal) c.forget.ensures.dropped) c.self.invariant.2,
      c.self.invariant.3,
    )
