use Rattle.std.proofs.Common.{subst, sym}
use Rattle.iv_text.specs.Writing.{Writes}
use Rattle.iv_resolve_name_faults.specs.Seen.{item_seen}
use Rattle.iv_resolve_name_faults.specs.declared.item.NamedItem.{NamedItem}
use Rattle.iv_explain.specs.JsonNames.{item_members}
use Rattle.iv_explain.proofs.json_name.write_item.Goals as goal

pub returns-in-RowVariable : goal.returns-in-RowVariable
returns-in-RowVariable g c =
    subst (λ (i : NamedItem). Writes (g.W.Sink.state c.args.writer.now) (g.W.Sink.state c.write_named-in-RowVariable.new.writer) c.write_named-in-RowVariable.result (item_members (item_seen i)))
    (sym c.in-RowVariable.is) c.write_named-in-RowVariable.ensures

pub returns-in-Transition : goal.returns-in-Transition
returns-in-Transition g c =
    subst (λ (i : NamedItem). Writes (g.W.Sink.state c.args.writer.now) (g.W.Sink.state c.write_named-in-Transition.new.writer) c.write_named-in-Transition.result (item_members (item_seen i)))
    (sym c.in-Transition.is) c.write_named-in-Transition.ensures
