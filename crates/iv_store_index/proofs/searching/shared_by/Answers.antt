use Rattle.std.proofs.Common.{◌∙◌, sym, ap}
use Rattle.iv_store_index.proofs.KeysFound.{shared_are, some_of}
use Rattle.iv_store_index.proofs.searching.shared_by.Goals as goal

pub returns-then-are_equal : goal.returns-then-are_equal
returns-then-are_equal c = λ rows show.
    shared_are rows c.args.constraint.now c.args.table c.args.id c.args.groups.now.groups c.args.columns.now c.args.row.now c.new.result c.holders.result
    (sym c.place-2.ensures ∙ sym c.if-place.false ∙ c.place.ensures) (sym c.in_ok-own.ensures ∙ some_of (c.are_equal.ensures c.if-are_equal.true)) c.new.ensures c.holders.ensures.value show
