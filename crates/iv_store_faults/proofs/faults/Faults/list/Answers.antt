use Rattle.std.proofs.Common.{subst, sym, ap, ◌∙◌, arith}
use Rattle.iv_machine.specs.Databases.{scan, is_chosen}
use Rattle.iv_laws_kept.specs.GroupFlags.{AreFlagged}
use Rattle.iv_store_violating.specs.Shown.{shown}
use Rattle.iv_store_faults.specs.Watching.{IsShownBy}
use Rattle.iv_store_faults.proofs.Shows.{have_groups_of, kept_scan}
use Rattle.iv_store_faults.proofs.faults.Faults.list.Goals as goal

pub list-requires-clause-within : goal.list-requires-clause-within
list-requires-clause-within c = have_groups_of c.self.inside.constraints.items c.args.groups.now.groups c.self.inside.violating c.self.invariant.violating_count
    (subst (λ w. AreFlagged w.constraints (shown c.args.groups.now.groups) w.violating) (sym c.self.view_is) c.requires)

pub returns : goal.returns
returns c = λ rows shows.
    let s = subst (λ w. IsShownBy rows w c.args.groups.now) (sym c.self.view_is) shows in
    c.in_ok-faults.ensures c.self.inside.constraints.items (omega (arith, c.self.invariant.violating_count)) s.flagged ∙ kept_scan c.self.inside.constraints.items c.args.groups.now c.self.inside.violating rows (is_chosen c.args.modes.now.modes c.args.which) c.self.invariant.named c.recall_keys.ensures s
    ∙ ap (λ w. scan rows w.constraints (is_chosen c.args.modes.now.modes c.args.which)) c.self.view_is
