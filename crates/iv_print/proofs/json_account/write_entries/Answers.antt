use Rattle.std.proofs.Common.{◌≡◌, ◌∷◌, [], ◌++◌, length, rules, arith, subst, sym, true, ◌+◌, ◌≤◌, ap}
use Rattle.std.proofs.lemmas.Grind.{common_steps}
use Rattle.iv_print.specs.JsonAccounts.{json_entries, json_entry, separator}
use Rattle.iv_text.proofs.WriteLemmas.{wrote_last, wrote_step}
use Rattle.iv_text.proofs.WayLemmas.{depth_bounded}
use Rattle.iv_print.proofs.JsonLemmas.{entries_step}
use Rattle.iv_print.proofs.json_account.write_entries.Goals as goal

pub loop-entry-preserved : goal.loop-entry-preserved
loop-entry-preserved g c =
    let s = c.args.catalogue.now in
    let outcome = c.args.outcome.now in
    let depth = c.loop-entry.depth in
    let first = c.loop-entry.first in
    let entry = c.in-Some.entry.now in
    let others = c.in-Some.others.now in
    let e : c.loop-entry.rest.now ≡ entry ∷ others = search rules in
    record {
      wrote = wrote_step (json_entries s outcome 0 true c.args.entries.now) (separator first entry ++ json_entry s outcome entry others)
          (json_entries s outcome c.depth_after-depth.result c.begins-first.result others) (json_entries s outcome depth first c.loop-entry.rest.now)
          (g.W.Sink.state c.args.sink.now) (g.W.Sink.state c.loop-entry.sink) (g.W.Sink.state c.write_separated.new.sink)
          c.loop-entry.invariant.wrote
          (entries_step s outcome depth c.depth_after-depth.result first c.begins-first.result entry c.loop-entry.rest.now others e c.depth_after-depth.ensures c.begins-first.ensures)
          c.in_ok-write_separated.ensures;
      left = subst (λ d. d + length others ≤ length c.args.entries.now) (sym c.depth_after-depth.ensures)
          (depth_bounded depth (length c.args.entries.now) entry c.loop-entry.rest.now others c.loop-entry.invariant.left e);
    }

pub returns : goal.returns
returns g c =
    let s = c.args.catalogue.now in
    let outcome = c.args.outcome.now in
    let e : c.loop-entry.rest.now ≡ [] = grind (arith, common_steps, c.in_default.ensures.cases) in
    wrote_last (json_entries s outcome 0 true c.args.entries.now) (json_entries s outcome c.loop-entry.depth c.loop-entry.first c.loop-entry.rest.now) _
    (g.W.Sink.state c.args.sink.now) (g.W.Sink.state c.loop-entry.sink) (g.W.Sink.state c.write_ends.new.sink) c.write_ends.result
    c.loop-entry.invariant.wrote (ap (json_entries s outcome c.loop-entry.depth c.loop-entry.first) e) c.write_ends.ensures
