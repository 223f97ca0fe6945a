use Rattle.std.proofs.Common.{◌≡◌, ◌++◌, [], ◌∙◌, ap, sym, append-nil, arith}
use Rattle.std.proofs.lemmas.Grind.{common_steps}
use Rattle.iv_script.proofs.Merged.{merged, merged_is}
use Rattle.iv_script.proofs.merging.without.Goals as goal

pub returns : goal.returns
returns c =
    let e : c.loop-fault.rest.now ≡ [] = grind (arith, common_steps, c.in_default.ensures.cases) in
    sym (append-nil c.loop-fault.found.items) ∙ ap (λ l. c.loop-fault.found.items ++ merged l c.loop-fault.left.now) (sym e) ∙ c.loop-fault.invariant
    ∙ merged_is c.args.faults.now c.args.others.now c.requires.faults c.requires.others
