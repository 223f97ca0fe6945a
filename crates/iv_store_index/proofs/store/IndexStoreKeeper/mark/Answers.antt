use Rattle.std.proofs.Common.{ap}
use Rattle.iv_store_rows.specs.Histories.{History}
use Rattle.iv_store_index.proofs.Keeping.{kept_marked, tables_same}
use Rattle.iv_store_index.proofs.Known.{known_same}
use Rattle.iv_store_index.proofs.store.IndexStoreKeeper.mark.Goals as goal

pub invariant_of-self-2 : goal.invariant_of-self-2
invariant_of-self-2 c =
    let s = c.self.inside in (
      kept_marked s.versions c.mark.new.self s.faults s.groups c.in_ok-place.ensures.ok c.self.invariant.0,
      tables_same _ s.versions c.mark.new.self (ap (λ (h : History). h.rows) c.in_ok-place.ensures.ok) (ap (λ (h : History). h.journal) c.in_ok-place.ensures.ok) c.self.invariant.1,
      known_same _ s.versions c.mark.new.self (ap (λ (h : History). h.rows) c.in_ok-place.ensures.ok) (ap (λ (h : History). h.journal) c.in_ok-place.ensures.ok) c.self.invariant.2,
      c.self.invariant.3,
    )
