use Rattle.std.proofs.Common.{◌≡◌, Result, Ok, Err, OnOk, OnErr, IfSome, sym, subst, [], ◌∷◌}
use Rattle.iv_expr.specs.Changes.{wave_of}
use Rattle.iv_expr.specs.declared.row.Change.{Change}
use Rattle.iv_expr.specs.declared.row.StoredRow.{StoredRow}
use Rattle.iv_machine.specs.declared.database.Database.{Database}
use Rattle.iv_machine.specs.Databases.{database_after, row_at}
use Rattle.iv_store.specs.Stores.{StoreState}
use Rattle.iv_store_plain.specs.Suspects.{Watched, with_table}
use Rattle.iv_store_plain.proofs.Suspects.{watched_after, watched_touched}
use Rattle.iv_store_plain.proofs.plain.PlainStoreChangeableRows.change.Goals as goal

-- what holds after either answer
either : {A E : Type 0} (W : Database → Type 0) (r : Result A E) (new done old : Database) → OnOk r (new ≡ done) → OnErr r (new ≡ old) → W done → W old → W new
either W (Ok a) new done old ok err x y = subst W (sym ok) x
either W (Err e) new done old ok err x y = subst W (sym err) y

pub invariant_of-self-2 : goal.invariant_of-self-2
invariant_of-self-2 c =
    let s = c.self.inside in
    let change = c.args.change.now in
    let touched = with_table change.table s.touched.items in
    let own : IfSome (row_at s.database.rows change.row) (λ (r : StoredRow). r.table ≡ change.table) =
    subst (λ (v : StoreState). IfSome (row_at v.base.rows change.row) (λ (r : StoredRow). r.table ≡ change.table)) (sym c.self.view_is) c.requires.own in
    subst (λ t. Watched t s.constraints.items c.change.new.self s.marks.items) (sym c.in_ok-touch.ensures.ok)
    (either (λ (db : Database). Watched touched s.constraints.items db s.marks.items) c.change.result c.change.new.self
    (database_after s.database (wave_of (change ∷ []))) s.database
    (subst (λ (x : Change). OnOk c.change.result (c.change.new.self ≡ database_after s.database (wave_of (x ∷ [])))) c.in_ok-copy.ensures.cases c.change.ensures.ok) c.change.ensures.err
    (watched_after s.touched.items s.constraints.items s.database s.marks.items change c.self.invariant c.change.ensures.bounds own)
    (watched_touched change.table s.touched.items s.constraints.items s.database s.marks.items c.self.invariant))
