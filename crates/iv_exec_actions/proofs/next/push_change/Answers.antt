use Rattle.std.proofs.Common.{◌≡◌, ◌++◌, ◌∷◌, [], ◌∙◌, sym, ap, arith}
use Rattle.iv_expr.specs.Changes.{Wave}
use Rattle.iv_exec_actions.proofs.Rows.{row_of_change}
use Rattle.iv_exec_actions.proofs.Numbers.{last_of_added, on_ok}
use Rattle.iv_exec_actions.proofs.next.push_change.Goals as goal

pub push-requires : goal.push-requires
push-requires g c =
    let is = row_of_change c.args.catalogue.now c.args.affected_keys.now c.args.changes.now (g.K.ReferencingRows.view c.args.store.now).base.rows c.args.number c.in-Some.change
    (sym c.in_ok-change_at.ensures.change ∙ c.in-Some.is) in
    omega (arith, is, c.requires.above)

pub returns-in-Some-clause-last : goal.returns-in-Some-clause-last
returns-in-Some-clause-last g c =
    let is = row_of_change c.args.catalogue.now c.args.affected_keys.now c.args.changes.now (g.K.ReferencingRows.view c.args.store.now).base.rows c.args.number c.in-Some.change
    (sym c.in_ok-change_at.ensures.change ∙ c.in-Some.is) in
    on_ok c.push.result _ _ (λ (e : c.push.new.self ≡ record c.args.next.now { changes = c.args.next.now.changes ++ c.in-Some.change ∷ [] }).
    let more : c.push.new.self.changes ≡ c.args.next.now.changes ++ c.in-Some.change ∷ [] = ap (λ (w : Wave). w.changes) e in
    rw more (rw (last_of_added c.args.next.now.changes c.in-Some.change) (omega (arith, is)))) c.push.ensures.ok
