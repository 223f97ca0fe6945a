use Rattle.std.proofs.Common.{◌∙◌, sym}
use Rattle.iv_store_index.proofs.KeysFound.{held_are}
use Rattle.iv_store_index.proofs.searching.held_by.Goals as goal

pub returns-then-none_null : goal.returns-then-none_null
returns-then-none_null c = λ rows show.
    held_are rows c.args.constraint.now c.args.table c.args.id c.args.groups.now.groups c.in_ok-columns.columns.now c.args.asked.now c.new-key.result c.holders.result
    (sym c.place.ensures ∙ c.if-place.false ∙ c.place-2.ensures) (sym c.in_ok-columns.ensures) c.new-key.ensures (sym c.none_null.ensures ∙ c.if-none_null.true) c.holders.ensures.value show
