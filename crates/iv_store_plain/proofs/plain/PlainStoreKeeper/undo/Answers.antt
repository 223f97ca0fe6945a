use Rattle.std.proofs.Common.{◌<◌, length, ap, sym, subst, ◌∙◌}
use Rattle.iv_machine.specs.declared.database.Database.{Database}
use Rattle.iv_store.specs.Stores.{StoreState, store_before_mark}
use Rattle.iv_store_plain.specs.Suspects.{Watched}
use Rattle.iv_store_plain.proofs.Suspects.{watched_before_mark, undone_is}
use Rattle.iv_store_plain.proofs.plain.PlainStoreKeeper.undo.Goals as goal

pub invariant_of-self : goal.invariant_of-self
invariant_of-self c =
    let s = c.self.inside in
    subst (λ db. Watched s.touched.items s.constraints.items db c.pop.new.self.items) (sym c.go_back.ensures)
    (watched_before_mark s.touched.items s.constraints.items s.database c.in-Some.database s.marks.items c.pop.new.self.items c.place.result
    (sym c.truncate.ensures.items ∙ c.in-Some.ensures.items) c.self.invariant)

pub returns-in-Some-clause-undone : goal.returns-in-Some-clause-undone
returns-in-Some-clause-undone c =
    let s = c.self.inside in
    let v : StoreState = record { tables = s.tables.items; constraints = s.constraints.items; base = s.database; marks = s.marks.items } in
    let there : c.place.result < length s.marks.items =
    subst (λ n. n < length s.marks.items) (sym c.place.ensures) (subst (λ (w : StoreState). c.args.mark < length w.marks) (sym c.self.view_is) c.requires) in
    ap (λ (db : Database). record { tables = s.tables.items; constraints = s.constraints.items; base = db; marks = c.pop.new.self.items }) c.go_back.ensures
    ∙ undone_is v c.place.result c.in-Some.database c.pop.new.self.items there (sym c.truncate.ensures.items ∙ c.in-Some.ensures.items)
    ∙ ap (λ n. store_before_mark v n) c.place.ensures
    ∙ ap (λ (w : StoreState). store_before_mark w c.args.mark) c.self.view_is
