use Rattle.std.proofs.Common.{◌≡◌, ◌∙◌, ◌<◌, length, IfSome, sym, subst}
use Rattle.iv_machine.specs.Databases.{row_at}
use Rattle.iv_machine.specs.Waves.{values_at}
use Rattle.iv_store_index.specs.Kept.{Store}
use Rattle.iv_store_index.proofs.Known.{known_made}
use Rattle.iv_store_index.proofs.Tables.{tables_made}
use Rattle.iv_store_index.proofs.store.IndexStoreChangeableRows.change.Goals as goal

pub invariant_of-self : goal.invariant_of-self
invariant_of-self c =
    let s = c.self.inside in (
      c.make.ensures.kept,
      tables_made c.make.result (length s.tables.items) s.versions c.make.new.versions c.args.change.now c.make.ensures.ok c.make.ensures.err
          (subst (λ (v : Store). c.args.change.now.table < length v.state.tables) (sym c.self.view_is) c.requires.added) c.self.invariant.1,
      known_made c.make.result s.known.items c.note.new.known.items s.versions c.make.new.versions c.args.change.now c.note.ensures.stays c.note.ensures.new c.make.ensures.ok c.make.ensures.err
          (subst (λ (v : Store). values_at v.state.base.rows c.args.change.now.row ≡ c.args.change.now.old) (sym c.self.view_is) c.requires.current)
          (subst (λ (v : Store). IfSome (row_at v.state.base.rows c.args.change.now.row) (λ row. row.table ≡ c.args.change.now.table)) (sym c.self.view_is) c.requires.own)
          c.self.invariant.2,
      c.note.ensures.length ∙ c.self.invariant.3,
    )
