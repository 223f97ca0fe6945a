use Rattle.std.proofs.Common.{◌≡◌, [], ◌∷◌, ◌∙◌, length, rules, arith, ap, subst, sym, ◌+◌, ◌≤◌}
use Rattle.std.proofs.lemmas.Grind.{common_steps}
use Rattle.iv_text.specs.Ways.{depth_from}
use Rattle.iv_text.proofs.WayLemmas.{depth_bounded, depth_step}
use Rattle.iv_text.proofs.way.depth_of.Goals as goal

pub loop-entry-preserved : goal.loop-entry-preserved
loop-entry-preserved c =
    let entry = c.in-Some.entry.now in
    let others = c.in-Some.others.now in
    let e : c.loop-entry.rest.now ≡ entry ∷ others = search rules in
    record {
      same = depth_step c.loop-entry.depth c.depth_after-depth.result (depth_from 0 c.args.entries.now) entry c.loop-entry.rest.now others e
          c.depth_after-depth.ensures c.loop-entry.invariant.same;
      left = subst (λ d. d + length others ≤ length c.args.entries.now) (sym c.depth_after-depth.ensures)
          (depth_bounded c.loop-entry.depth (length c.args.entries.now) entry c.loop-entry.rest.now others c.loop-entry.invariant.left e);
    }

pub returns : goal.returns
returns c =
    let e : c.loop-entry.rest.now ≡ [] = grind (arith, common_steps, c.in_default.ensures.cases) in
    sym (ap (depth_from c.loop-entry.depth) e) ∙ c.loop-entry.invariant.same
