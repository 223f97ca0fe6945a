use Rattle.std.proofs.Common.{◌<◌, length, sym, subst}
use Rattle.iv_store_rows.specs.Histories.{marked_databases}
use Rattle.iv_store_rows.proofs.Histories.{marked_length}
use Rattle.iv_store_index.specs.Kept.{Store}
use Rattle.iv_store_index.proofs.Keeping.{tables_back}
use Rattle.iv_store_index.proofs.Known.{known_back}
use Rattle.iv_store_index.proofs.store.IndexStoreKeeper.undo_to.Goals as goal

pub invariant_of-self : goal.invariant_of-self
invariant_of-self c =
    let s = c.self.inside in
    let marked : c.args.mark < length (marked_databases s.versions) = subst (λ (v : Store). c.args.mark < length v.state.marks) (sym c.self.view_is) c.requires in
    let less : c.place.result < length s.versions.marks = subst (λ n. n < length s.versions.marks) (sym c.place.ensures) (subst (λ n. c.args.mark < n) (marked_length s.versions) marked) in (
      c.go_back.ensures.kept,
      tables_back _ c.place.result s.versions c.go_back.new.versions less c.go_back.ensures.marked c.go_back.ensures.journal c.self.invariant.1,
      known_back _ c.place.result s.versions c.go_back.new.versions less c.go_back.ensures.marked c.go_back.ensures.journal c.self.invariant.2,
      c.self.invariant.3,
    )
