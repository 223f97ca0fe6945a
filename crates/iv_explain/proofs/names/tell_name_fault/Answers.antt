use Rattle.std.proofs.Common.{subst, sym}
use Rattle.iv_text.specs.Writing.{Writes}
use Rattle.iv_resolve_name_faults.specs.Seen.{fault_seen}
use Rattle.iv_resolve_name_faults.specs.declared.item.NameFault.{NameFault}
use Rattle.iv_explain.specs.Names.{fault_text}
use Rattle.iv_text.specs.Spelled.{spelled}
use Rattle.iv_explain.proofs.names.tell_name_fault.Goals as goal

pub returns-in-Unknown : goal.returns-in-Unknown
returns-in-Unknown g c =
    subst (λ (f : NameFault). Writes (g.W.Sink.state c.args.writer.now) (g.W.Sink.state c.tell_item_and.new.writer) c.tell_item_and.result (spelled c.args.format (fault_text (fault_seen f))))
    (sym c.in-Unknown.is) c.tell_item_and.ensures

pub returns-in-InUse : goal.returns-in-InUse
returns-in-InUse g c =
    subst (λ (f : NameFault). Writes (g.W.Sink.state c.args.writer.now) (g.W.Sink.state c.tell_item_and-in-InUse.new.writer) c.tell_item_and-in-InUse.result (spelled c.args.format (fault_text (fault_seen f))))
    (sym c.in-InUse.is) c.tell_item_and-in-InUse.ensures
