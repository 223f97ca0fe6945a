use Rattle.std.proofs.Common.{subst, sym}
use Rattle.iv_text.specs.Writing.{Writes}
use Rattle.iv_print.proofs.PendingLemmas.{went_some}
use Rattle.iv_print.proofs.pending.write_went_member.Goals as goal

pub returns-in-len1-up : goal.returns-in-len1-up
returns-in-len1-up g c =
    subst (Writes (g.W.Sink.state c.args.sink.now) (g.W.Sink.state c.write_went_list.new.sink) c.write_went_list.result)
    (sym (went_some c.args.catalogue.now c.args.faults.now c.in-len1-up.len_at_least)) c.write_went_list.ensures
