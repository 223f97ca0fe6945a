use Rattle.std.proofs.Common.{◌∙◌, [], get_or, arith}
use Rattle.iv_exec_actions.proofs.Grouping.{one_more}
use Rattle.iv_exec_actions.proofs.by_table.places_of.Goals as goal

pub loop-place-preserved : goal.loop-place-preserved
loop-place-preserved c t =
    one_more c.args.affected_keys.now (get_or c.loop-place.lists.items t []) (get_or c.note_place.new.lists.items t []) c.loop-place.place c.table.result t
    c.index-affected_keys-place.result (omega arith) c.index-affected_keys-place.is c.table.ensures (c.in_ok-note_place.ensures t)
    ∙ c.loop-place.invariant t
