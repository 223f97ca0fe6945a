use Rattle.std.proofs.Common.{codes, Ok, subst, sym}
use Rattle.iv_machine.specs.declared.answer.Answer.TheVariants.{Done}
use Rattle.iv_text.specs.Json.{member}
use Rattle.iv_print.specs.JsonAccounts.{entry_list}
use Rattle.iv_text.specs.Writing.{Writes}
use Rattle.iv_print.proofs.PendingLemmas.{came_some}
use Rattle.iv_text.proofs.WriteLemmas.{writes_then}
use Rattle.iv_print.proofs.pending.write_came_member.Goals as goal

pub returns-in_ok-write_member-in-len1-up : goal.returns-in_ok-write_member-in-len1-up
returns-in_ok-write_member-in-len1-up g c =
    let before = g.W.Sink.state c.args.sink.now in
    let after = g.W.Sink.state c.write_entries.new.sink in
    subst (Writes before after c.write_entries.result) (sym (came_some c.args.catalogue.now c.args.entries.now c.in-len1-up.len_at_least))
    (writes_then before (g.W.Sink.state c.write_member.new.sink) after c.write_entries.result (member (codes "now_pending"))
    (entry_list c.args.catalogue.now (Ok Done) c.args.entries.now) c.in_ok-write_member-in-len1-up.ensures c.write_entries.ensures)
