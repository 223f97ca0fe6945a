use Rattle.std.proofs.Common.{◌∙◌, sym, ap, ℕ, List, Some, None, slice_get}
use Rattle.iv_exec_actions.specs.AffectedForeignKey.{change_taking}
use Rattle.iv_exec_actions.proofs.Taking.{change_found}
use Rattle.iv_exec_actions.proofs.affected.AffectedForeignKey.change_taking.Goals as goal

pub returns-in-Some : goal.returns-in-Some
returns-in-Some c =
    let x = c.self.inside in
    c.change_at.ensures
    ∙ ap (λ o. elim o [ Some place ↦ slice_get x.changes.now place | None ↦ None ])
    (sym c.in-Some.is ∙ c.first.ensures ∙ ap (λ (rows : List ℕ). slice_get rows 0) c.holders.ensures.value ∙ c.self.invariant c.args.key.now)
    ∙ change_found x.key.now c.args.key.now x.changes.now
    ∙ ap (λ y. change_taking y c.args.key.now) c.self.view_is

pub returns-in-None : goal.returns-in-None
returns-in-None c =
    let x = c.self.inside in
    ap (λ o. elim o [ Some place ↦ slice_get x.changes.now place | None ↦ None ])
    (sym c.in-None.is ∙ c.first.ensures ∙ ap (λ (rows : List ℕ). slice_get rows 0) c.holders.ensures.value ∙ c.self.invariant c.args.key.now)
    ∙ change_found x.key.now c.args.key.now x.changes.now
    ∙ ap (λ y. change_taking y c.args.key.now) c.self.view_is
