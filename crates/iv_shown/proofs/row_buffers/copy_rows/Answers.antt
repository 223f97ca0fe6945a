use Rattle.std.proofs.Common.{rules, ◌≡◌, ◌≤◌, ◌+◌, ◌-◌, ◌∷◌, ◌∙◌, Some, ap, arith, length, subst, suc, sym}
use Rattle.std.proofs.lemmas.List.{length-map}
use Rattle.iv_shown.specs.Cells.{cell_of, fitting, room_after, row_cells, row_text}
use Rattle.iv_shown.proofs.Placing.{fitting_next, onward, onward_length, room_is}
use Rattle.iv_shown.proofs.row_buffers.copy_rows.Goals as goal

pub copy_texts-requires : goal.copy_texts-requires
copy_texts-requires c =
    let left = room_is c.values-values.result.now c.loop-row.room c.in-Some-room_after.left (sym c.room_after.ensures ∙ c.in-Some-room_after.is) in
    omega (arith, left, c.loop-row.invariant.room_within)

pub loop-row-preserved : goal.loop-row-preserved
loop-row-preserved c =
    let old = c.loop-row.invariant in
    let row = c.in-Some.row.now in
    let values = c.values-values.result.now in
    let others = c.in-Some.others.now in
    let rest = c.loop-row.rest.now in
    let at = c.loop-row.at in
    let room = c.loop-row.room in
    let left = c.in-Some-room_after.left in
    let cells = length c.loop-row.cells in
    let e : rest ≡ row ∷ others = search rules in
    let same : values ≡ row = c.values-values.ensures in
    let enough : room_after room values ≡ Some left = sym c.room_after.ensures ∙ c.in-Some-room_after.is in
    let leaves : left + length (row_text values) ≡ room = room_is values room left enough in
    let few : length values ≤ cells - at = omega (arith, c.if-values-cells.false) in
    let fit : fitting (cells - at) room rest ≡ suc (fitting (cells - at - length row) left others) =
    fitting_next (cells - at) room left row rest others e (subst (λ v. length v ≤ cells - at) same few) (subst (λ v. room_after room v ≡ Some left) same enough) in
    let long : length values ≡ length row = ap length same in
    let less : length c.copy_cells.new.cells - (at + length values) ≡ cells - at - length row = omega (arith, long, c.copy_cells.ensures.length) in
    let next : fitting (length c.copy_cells.new.cells - (at + length values)) left others ≡ fitting (cells - at - length row) left others =
    ap (λ k. fitting k left others) less in
    let behind : at + length values ≡ at + length (row_cells values) = ap (λ n. at + n) (sym (length-map values cell_of)) in
    let place : length c.copy_texts.new.buffer - left ≡ length c.loop-row.texts - room + length (row_text values) =
    omega (arith, leaves, old.room_within, c.copy_texts.ensures.length) in
    let left_few : length rest ≡ suc (length others) = ap length e in
    record {
      rows = omega (arith, old.rows, fit, next);
      cells = onward row_cells c.loop-row.cells c.copy_cells.new.cells _ at (at + length values) row values rest others _ _ _
          c.copy_cells.ensures.cells same e behind fit next old.cells;
      texts = onward row_text c.loop-row.texts c.copy_texts.new.buffer _ (length c.loop-row.texts - room) _ row values rest others _ _ _
          c.copy_texts.ensures.bytes same e place fit next old.texts;
      bytes = onward_length row_text _ (length c.loop-row.texts - room) _ row values rest others _ _ _ same e place fit next old.bytes;
      within = omega (arith, few, old.within, c.copy_cells.ensures.length);
      room_within = omega (arith, leaves, old.room_within, c.copy_texts.ensures.length);
      same_cells = c.copy_cells.ensures.length ∙ old.same_cells;
      same_texts = c.copy_texts.ensures.length ∙ old.same_texts;
      few = omega (arith, left_few, old.few);
    }
