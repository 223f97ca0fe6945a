use Rattle.std.proofs.Common.{◌∙◌, sym}
use Rattle.iv_account.proofs.KeyAsked.{column_same, copied_is}
use Rattle.iv_account.proofs.equal.key_asked.Goals as goal

pub loop-column-preserved : goal.loop-column-preserved
loop-column-preserved c = λ other same.
    c.ask.ensures other
    (column_same c.args.columns.now c.loop-column.column-index other c.args.row.now c.loop-column-test.true same
    ∙ sym c.value_at.ensures ∙ sym (copied_is _ c.in_ok-value.value c.in_ok-value.ensures))
    (c.loop-column.invariant other same)
