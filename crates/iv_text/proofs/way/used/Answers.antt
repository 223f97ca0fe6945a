use Rattle.std.proofs.Common.{◌≡◌, [], ◌∷◌, ◌∙◌, rules, arith, ap, sym}
use Rattle.std.proofs.lemmas.Grind.{common_steps}
use Rattle.iv_text.specs.Ways.{used_from}
use Rattle.iv_text.proofs.WayLemmas.{used_step}
use Rattle.iv_text.proofs.way.used.Goals as goal

pub loop-entry-preserved : goal.loop-entry-preserved
loop-entry-preserved c =
    let e : c.loop-entry.rest.now ≡ c.in-Some.entry.now ∷ c.in-Some.others.now = search rules in
    used_step c.loop-entry.used c.used_after-used.result (used_from 1 c.args.entries.now) c.in-Some.entry.now c.loop-entry.rest.now c.in-Some.others.now
    e c.used_after-used.ensures c.loop-entry.invariant

pub returns : goal.returns
returns c =
    let e : c.loop-entry.rest.now ≡ [] = grind (arith, common_steps, c.in_default.ensures.cases) in
    sym (ap (used_from c.loop-entry.used) e) ∙ c.loop-entry.invariant
