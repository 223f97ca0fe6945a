use Rattle.std.proofs.Common.{[], ◌∷◌, ◌++◌, List, OnOk, subst, ap, ◌∙◌}
use Rattle.iv_store_faults.specs.Types.{Constraint}
use Rattle.iv_store_faults.specs.Watching.{Watching}
use Rattle.iv_laws_kept.specs.Kept.{Show}
use Rattle.iv_store_violating.specs.Shown.{shown}
use Rattle.iv_store_faults.proofs.faults.Faults.fill.Goals as goal

pub returns-clause-shown : goal.returns-clause-shown
returns-clause-shown g c =
    subst (λ (olds : List Constraint). OnOk c.fill.result (Show (g.R.Rows.rows c.args.rows.now) (olds ++ c.args.constraint.now ∷ []) (shown c.fill.new.groups.groups)))
    (c.as_slice.ensures.value ∙ ap (λ (w : Watching). w.constraints) c.self.view_is) c.fill.ensures.shown
