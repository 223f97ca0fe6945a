use Rattle.std.proofs.Common.{◌≡◌, ◌+◌, ◌<◌, take, length, slice_index_or, List, ap, sym, subst, ◌∙◌}
use Rattle.iv_machine.specs.declared.database.Database.{Database}
use Rattle.iv_store.specs.Stores.{StoreState, store_at_mark, marked_database}
use Rattle.iv_store_plain.specs.Suspects.{Watched}
use Rattle.iv_store_plain.proofs.Suspects.{watched_at_mark, marked_is}
use Rattle.iv_store_plain.proofs.plain.PlainStoreKeeper.undo_to.Goals as goal

pub invariant_of-self : goal.invariant_of-self
invariant_of-self c =
    let s = c.self.inside in
    let there : c.args.mark < length s.marks.items = subst (λ (w : StoreState). c.args.mark < length w.marks) (sym c.self.view_is) c.requires in
    let lent : c.go_back.new.self ≡ slice_index_or s.marks.items c.args.mark c.index.result.now =
    c.go_back.ensures ∙ c.in_ok-database.ensures ∙ c.index.ensures ∙ ap (λ n. slice_index_or s.marks.items n c.index.result.now) c.place.ensures in
    let left : c.truncate.new.self.items ≡ take (c.args.mark + 1) s.marks.items = c.truncate.ensures.items ∙ ap (λ n. take (n + 1) s.marks.items) c.place-2.ensures in
    subst (λ (db : Database). Watched s.touched.items s.constraints.items db c.truncate.new.self.items) (sym lent)
    (subst (λ (dbs : List Database). Watched s.touched.items s.constraints.items (slice_index_or s.marks.items c.args.mark c.index.result.now) dbs) (sym left)
    (watched_at_mark s.touched.items s.constraints.items s.database c.index.result.now s.marks.items c.args.mark there c.self.invariant))

pub returns-clause-ok : goal.returns-clause-ok
returns-clause-ok c =
    let s = c.self.inside in
    let v : StoreState = record { tables = s.tables.items; constraints = s.constraints.items; base = s.database; marks = s.marks.items } in
    let there : c.args.mark < length s.marks.items = subst (λ (w : StoreState). c.args.mark < length w.marks) (sym c.self.view_is) c.requires in
    let lent : c.go_back.new.self ≡ marked_database v c.args.mark =
    c.go_back.ensures ∙ c.in_ok-database.ensures ∙ c.index.ensures ∙ ap (λ n. slice_index_or s.marks.items n c.index.result.now) c.place.ensures
    ∙ marked_is s.marks.items c.args.mark c.index.result.now s.database there in
    let left : c.truncate.new.self.items ≡ take (c.args.mark + 1) s.marks.items = c.truncate.ensures.items ∙ ap (λ n. take (n + 1) s.marks.items) c.place-2.ensures in
    ap (λ (db : Database). record { tables = s.tables.items; constraints = s.constraints.items; base = db; marks = c.truncate.new.self.items }) lent
    ∙ ap (λ (dbs : List Database). record { tables = s.tables.items; constraints = s.constraints.items; base = marked_database v c.args.mark; marks = dbs }) left
    ∙ ap (λ (w : StoreState). store_at_mark w c.args.mark) c.self.view_is
