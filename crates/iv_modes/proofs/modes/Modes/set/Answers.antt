use Rattle.std.proofs.Common.{◌≡◌, ◌∙◌, sym, ap, subst, length, None}
use Rattle.iv_machine.specs.Machine.{with_modes}
use Rattle.iv_machine.specs.Databases.{is_deferred}
use Rattle.iv_modes.specs.ModeMaps.{first_not_deferrable}
use Rattle.iv_modes.proofs.Setting.{length_with_modes, only_these}
use Rattle.iv_modes.proofs.modes.Modes.set.Goals as goal

pub invariant_of-self : goal.invariant_of-self
invariant_of-self c =
    c.self.invariant ∙ sym (ap length c.set_all.ensures ∙ length_with_modes c.self.inside.modes.items c.args.constraints.now c.args.mode)

pub returns-clause-map : goal.returns-clause-map
returns-clause-map c =
    let same : length c.args.self.now.deferrable ≡ length c.args.self.now.modes =
    subst (λ m. length m.deferrable ≡ length m.modes) c.self.view_is c.self.invariant in
    let none : first_not_deferrable c.args.self.now c.args.constraints.now ≡ None = cc in
    let set : c.set_all.new.modes.items ≡ with_modes c.args.self.now.modes c.args.constraints.now c.args.mode =
    c.set_all.ensures ∙ ap (λ m. with_modes m.modes c.args.constraints.now c.args.mode) c.self.view_is in
    λ id. ap (λ l. is_deferred l id) set ∙ only_these c.args.self.now c.args.constraints.now c.args.mode same none id
