use Rattle.std.proofs.Common.{length, subst, sym, ap, ◌∙◌, arith}
use Rattle.std.specs.Prelude.{min, ◌^◌, ◌-◌}
use Rattle.iv_machine.specs.Databases.{scan, is_chosen}
use Rattle.iv_laws_kept.specs.GroupFlags.{AreFlagged}
use Rattle.iv_store_violating.specs.Shown.{shown}
use Rattle.iv_store_faults.specs.Watching.{IsShownBy}
use Rattle.iv_store_faults.proofs.Shows.{have_groups_of, kept_scan, rows_apart}
use Rattle.iv_store_faults.proofs.faults.Faults.count.Goals as goal

pub count-requires : goal.count-requires
count-requires c = record {
  within = have_groups_of c.self.inside.constraints.items c.args.groups.now.groups c.self.inside.violating c.self.invariant.violating_count
      (subst (λ w. AreFlagged w.constraints (shown c.args.groups.now.groups) w.violating) (sym c.self.view_is) c.requires);
}

pub returns : goal.returns
returns c = λ rows shows.
    let s = subst (λ w. IsShownBy rows w c.args.groups.now) (sym c.self.view_is) shows in
    c.count.ensures c.self.inside.constraints.items (omega (arith, c.self.invariant.violating_count)) (rows_apart c.self.inside.constraints.items c.args.groups.now c.self.inside.violating rows c.recall_keys.ensures s) s.flagged ∙ ap (λ faults. min (length faults) (2 ^ 64 - 1)) (kept_scan c.self.inside.constraints.items c.args.groups.now c.self.inside.violating rows (is_chosen c.args.modes.now.modes c.args.which) c.self.invariant.named c.recall_keys.ensures s)
    ∙ ap (λ w. min (length (scan rows w.constraints (is_chosen c.args.modes.now.modes c.args.which))) (2 ^ 64 - 1)) c.self.view_is
