use Rattle.std.proofs.Common.{◌-◌, ◌^◌, min, sym, ap, ◌∙◌}
use Rattle.iv_store_violating.specs.Shown.{shown}
use Rattle.iv_store_violating.proofs.KeptRows.{count_kept}
use Rattle.iv_store_violating.proofs.count.count_of.Goals as goal

pub returns : goal.returns
returns c = λ constraints few apart are.
    c.count_rows.ensures
    ∙ ap (λ n. min n (2 ^ 64 - 1)) (sym (count_kept constraints (shown c.args.groups.now.groups) c.args.violating.now few are apart c.args.id c.flagged.result.now c.flagged.ensures.members c.flagged.ensures.once))
