use Rattle.std.proofs.Common.{◌<◌, length, ap, sym, subst}
use Rattle.iv_store_rows.specs.Histories.{History, marked_databases}
use Rattle.iv_store_rows.proofs.Histories.{marked_length}
use Rattle.iv_store_index.specs.Kept.{Store}
use Rattle.iv_store_index.proofs.Keeping.{kept_forgotten, tables_back, tables_same}
use Rattle.iv_store_index.proofs.Known.{known_back, known_same}
use Rattle.iv_store_index.proofs.store.IndexStoreKeeper.undo.Goals as goal

pub invariant_of-self : goal.invariant_of-self
invariant_of-self c =
    let s = c.self.inside in
    let marked : c.args.mark < length (marked_databases s.versions) = subst (λ (v : Store). c.args.mark < length v.state.marks) (sym c.self.view_is) c.requires in
    let less : c.place.result < length s.versions.marks = subst (λ n. n < length s.versions.marks) (sym c.place.ensures) (subst (λ n. c.args.mark < n) (marked_length s.versions) marked) in (
      kept_forgotten c.go_back.new.versions c.forget.new.self c.place-2.result c.go_back.new.faults c.go_back.new.groups c.forget.ensures.dropped c.go_back.ensures.kept,
      tables_same _ c.go_back.new.versions c.forget.new.self (ap (λ (h : History). h.rows) c.forget.ensures.dropped) (ap (λ (h : History). h.journal) c.forget.ensures.dropped)
          (tables_back _ c.place.result s.versions c.go_back.new.versions less c.go_back.ensures.marked c.go_back.ensures.journal c.self.invariant.1),
      known_same _ c.go_back.new.versions c.forget.new.self (ap (λ (h : History). h.rows) c.forget.ensures.dropped) (ap (λ (h : History). h.journal) c.forget.ensures.dropped)
          (known_back _ c.place.result s.versions c.go_back.new.versions less c.go_back.ensures.marked c.go_back.ensures.journal c.self.invariant.2),
      c.self.invariant.3,
    )
