use Rattle.std.proofs.Common.{◌≡◌, ◌∷◌, length, rules, subst, sym, ◌+◌, ◌≤◌}
use Rattle.iv_print.specs.AccountLines.{entry_text, entries_text}
use Rattle.iv_text.proofs.WriteLemmas.{wrote_step}
use Rattle.iv_text.proofs.WayLemmas.{depth_bounded}
use Rattle.iv_print.proofs.AccountLemmas.{entries_step}
use Rattle.iv_print.proofs.account.write_entries.Goals as goal

pub loop-entry-preserved : goal.loop-entry-preserved
loop-entry-preserved g c =
    let s = c.args.catalogue.now in
    let outcome = c.args.outcome.now in
    let depth = c.loop-entry.depth in
    let entry = c.in-Some.entry.now in
    let others = c.in-Some.others.now in
    let e : c.loop-entry.rest.now ≡ entry ∷ others = search rules in
    record {
      wrote = wrote_step (entries_text s outcome 0 c.args.entries.now) (entry_text s outcome depth entry others)
          (entries_text s outcome c.depth_after-depth.result others) (entries_text s outcome depth c.loop-entry.rest.now)
          (g.W.Sink.state c.args.sink.now) (g.W.Sink.state c.loop-entry.sink) (g.W.Sink.state c.write_entry.new.sink)
          c.loop-entry.invariant.wrote
          (entries_step s outcome depth c.depth_after-depth.result entry c.loop-entry.rest.now others e c.depth_after-depth.ensures)
          c.in_ok-write_entry.ensures;
      left = subst (λ d. d + length others ≤ length c.args.entries.now) (sym c.depth_after-depth.ensures)
          (depth_bounded depth (length c.args.entries.now) entry c.loop-entry.rest.now others c.loop-entry.invariant.left e);
    }
