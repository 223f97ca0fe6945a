use Rattle.std.proofs.Common.{◌≡◌, true, length, ap, sym, subst, ◌∙◌}
use Rattle.iv_store_index.specs.Kept.{Store}
use Rattle.iv_store.specs.Stores.{has_keys}
use Rattle.iv_store_index.proofs.Keeping.{named_with, unmarked}
use Rattle.iv_store_index.proofs.Known.{as_many, known_added}
use Rattle.iv_store_index.proofs.Tables.{tables_added}
use Rattle.iv_store_index.proofs.store.IndexStoreKeeper.add_table.Goals as goal

pub add_table-requires-clause-named : goal.add_table-requires-clause-named
add_table-requires-clause-named c =
    named_with c.self.inside.faults.constraints c.args.constraints.now c.self.invariant.0.named
    (subst (λ (v : Store). has_keys v.state c.args.constraints.now ≡ true) (sym c.self.view_is) c.requires.keys)

pub invariant_of-self : goal.invariant_of-self
invariant_of-self c =
    let s = c.self.inside in (
      c.add_table.ensures.kept s.versions (unmarked s.versions (ap (λ (v : Store). v.state.marks) c.self.view_is ∙ c.requires.unmarked)) c.self.invariant.1 c.self.invariant.0,
      tables_added c.add_table.result s.tables.items c.add_table.new.tables.items c.args.table.now s.versions c.add_table.ensures.ok c.add_table.ensures.err c.self.invariant.1,
      known_added s.known.items c.add_table.new.known.items (length s.tables.items) s.versions c.self.invariant.3 c.add_table.ensures.known c.self.invariant.1 c.self.invariant.2,
      as_many c.add_table.result s.known.items c.add_table.new.known.items s.tables.items c.add_table.new.tables.items c.args.table.now c.add_table.ensures.longer c.add_table.ensures.as_long
          c.add_table.ensures.ok c.add_table.ensures.err c.self.invariant.3,
    )
