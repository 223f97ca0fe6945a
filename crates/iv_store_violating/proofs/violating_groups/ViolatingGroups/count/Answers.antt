use Rattle.std.proofs.Common.{◌-◌, ◌^◌, min, length, sym, ap, ◌∙◌}
use Rattle.iv_machine.specs.Databases.{is_chosen}
use Rattle.iv_laws_kept.specs.Kept.{kept}
use Rattle.iv_store_violating.specs.Shown.{shown}
use Rattle.iv_store_violating.proofs.KeptFaults.{count_kept_faults}
use Rattle.iv_store_violating.proofs.violating_groups.ViolatingGroups.count.Goals as goal

pub returns : goal.returns
returns c = λ constraints few apart are.
    c.count_among.ensures constraints few apart are
    ∙ ap (λ n. min n (2 ^ 64 - 1)) (sym (count_kept_faults constraints (shown c.args.groups.now.groups) c.args.self.now few are (is_chosen c.as_slice.result.now c.args.which)
    c.violated.result.now c.violated.ensures.members c.violated.ensures.once))
    ∙ ap (λ modes. min (length (kept constraints (shown c.args.groups.now.groups) (is_chosen modes c.args.which))) (2 ^ 64 - 1)) c.as_slice.ensures
