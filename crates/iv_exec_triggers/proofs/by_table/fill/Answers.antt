use Rattle.std.proofs.Common.{◌≡◌, ◌∙◌, ◌++◌, [], ◌∷◌, length, take, slice_set, ap, sym, subst, arith}
use Rattle.std.proofs.lemmas.List.{take_more}
use Rattle.iv_expr.specs.declared.row.Change.{Change}
use Rattle.iv_machine.specs.BeforeTriggers.{event_of_change}
use Rattle.iv_exec_triggers.specs.ByTable.{ByTableAndEvent, place_of, transitions_on}
use Rattle.iv_exec_triggers.proofs.Merges.{drop_read}
use Rattle.iv_exec_triggers.proofs.FiringsByTable.{table_of_next, place_within, parted_more}
use Rattle.iv_exec_triggers.proofs.by_table.fill.Goals as goal

pub add-requires : goal.add-requires
add-requires c =
    let next = drop_read c.args.changes.now c.loop-change.change-index c.change-item.result c.change-item.is (omega arith) in
    let here = table_of_next c.args.tables c.loop-change.change-index c.args.changes.now c.change-item.result next c.loop-change.invariant.tables in
    omega (arith, here.0, c.loop-change.invariant.same, ap (λ (x : Change). x.table) c.in_ok-copy.ensures)

pub loop-change-preserved : goal.loop-change-preserved
loop-change-preserved c =
    let next = drop_read c.args.changes.now c.loop-change.change-index c.change-item.result c.change-item.is (omega arith) in
    let here = table_of_next c.args.tables c.loop-change.change-index c.args.changes.now c.change-item.result next c.loop-change.invariant.tables in
    let same = c.loop-change.invariant.same in
    let within = place_within c.args.tables (length c.loop-change.parts) c.change-item.result here.0 (omega (arith, same)) in
    let copy : c.in_ok-copy.copy ≡ c.change-item.result = c.in_ok-copy.ensures in
    let added : c.add.new.parts ≡ slice_set c.loop-change.parts (place_of c.change-item.result.table (event_of_change c.change-item.result)) (transitions_on c.loop-change.parts c.change-item.result.table (event_of_change c.change-item.result) ++ c.change-item.result ∷ []) =
    c.in_ok-add.ensures.added ∙ ap (λ (x : Change). slice_set c.loop-change.parts (place_of x.table (event_of_change x)) (transitions_on c.loop-change.parts x.table (event_of_change x) ++ x ∷ [])) copy in
    record {
      same = c.in_ok-add.ensures.length ∙ same;
      parted = subst (ByTableAndEvent c.add.new.parts) (sym (take_more c.args.changes.now c.loop-change.change-index c.change-item.result (omega arith) ∙ ap (λ x. take c.loop-change.change-index c.args.changes.now ++ x ∷ []) (sym c.change-item.is)))
          (parted_more c.loop-change.parts c.add.new.parts (take c.loop-change.change-index c.args.changes.now) c.change-item.result within added c.loop-change.invariant.parted);
      tables = here.1;
    }
