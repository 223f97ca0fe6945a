use Rattle.std.proofs.Common.{◌≡◌, ◌∙◌, ap, sym, subst, false}
use Rattle.iv_catalogue.specs.Catalogues.{with_table}
use Rattle.iv_machine.specs.Machine.{State, is_open}
use Rattle.iv_laws_fitting.specs.ConstraintShapes.{SchemaSuits}
use Rattle.iv_state.specs.Kept.{Parts, parts, state_of}
use Rattle.iv_state.proofs.Defined.{shut_is, created_kept}
use Rattle.iv_state.proofs.session_state.SessionState.create_table.Goals as goal

pub invariant_of-self : goal.invariant_of-self
invariant_of-self g c =
    let h : Parts = parts g.K.ReferencingRows.view c.self.inside in
    let v : state_of h ≡ c.args.self.now.state = ap (λ x. x.state) c.self.view_is in
    let a : h.active ≡ false = shut_is h.active h.store (ap is_open v ∙ c.requires.outside) in
    created_kept h c.args.table c.args.constraints c.add_table.new.catalogue (g.K.ReferencingRows.view c.add_table.new.store) c.in-Ok.modes a
    c.in-Ok.ensures.catalogue c.in-Ok.ensures.store c.in-Ok.ensures.modes
    (subst (λ (y : State). SchemaSuits (with_table y.schema c.args.table c.args.constraints)) (sym v) c.requires.suits) c.self.invariant
