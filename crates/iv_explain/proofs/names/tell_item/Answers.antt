use Rattle.std.proofs.Common.{subst, sym}
use Rattle.iv_text.specs.Writing.{Writes}
use Rattle.iv_resolve_name_faults.specs.Seen.{item_seen}
use Rattle.iv_resolve_name_faults.specs.declared.item.NamedItem.{NamedItem}
use Rattle.iv_explain.specs.Names.{item_text}
use Rattle.iv_text.specs.Spelled.{spelled}
use Rattle.iv_explain.proofs.names.tell_item.Goals as goal

pub returns-in-Transition : goal.returns-in-Transition
returns-in-Transition g c =
    subst (λ (i : NamedItem). Writes (g.W.Sink.state c.args.writer.now) (g.W.Sink.state c.tell_named-in-Transition.new.writer) c.tell_named-in-Transition.result (spelled c.args.format (item_text (item_seen i))))
    (sym c.in-Transition.is) c.tell_named-in-Transition.ensures

pub returns-in-GeneratedConstraint : goal.returns-in-GeneratedConstraint
returns-in-GeneratedConstraint g c =
    subst (λ (i : NamedItem). Writes (g.W.Sink.state c.args.writer.now) (g.W.Sink.state c.tell_generated.new.writer) c.tell_generated.result (spelled c.args.format (item_text (item_seen i))))
    (sym c.in-GeneratedConstraint.is) c.tell_generated.ensures
