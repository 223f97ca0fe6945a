use Rattle.std.proofs.Common.{ap, sym, ◌∙◌, ◌+◌, ◌++◌, drop, take}
use Rattle.iv_catalogue.specs.Names.{is_among}
use Rattle.iv_resolution.specs.Items.{first_again}
use Rattle.iv_resolution.specs.NameFaults.{before_column_again}
use Rattle.iv_resolve_name_faults.proofs.ColumnText.{column_names, column_passed, column_skipped, names_with, names_without, text_passed, text_skipped}
use Rattle.iv_resolve_name_faults.proofs.columns_again.column_again_in_place.Goals.{in-Column+else-is_column, in_default}
use Rattle.iv_resolve_name_faults.proofs.columns_again.column_again_in_place.Goals as goal

pub loop-place-preserved : goal.loop-place-preserved
loop-place-preserved c =
    let i = c.loop-place.place in
    let all = c.args.elements.now in
    let e = c.index-elements-place.result in
    elim c.match-elements-place.branch [
      | in-Column+else-is_column w ↦
          let new = ap (is_among (column_names (take i all))) (sym w.as_str-name.ensures) ∙ sym w.is_column.ensures ∙ w.if-is_column.false in
          let names = sym (names_with all i e w.in-Column.column c.loop-place-test.true c.index-elements-place.is w.in-Column.is) in
          record {
            name = c.loop-place.invariant.name
                ∙ column_passed (column_names (take i all)) all i e w.in-Column.column c.loop-place-test.true c.index-elements-place.is w.in-Column.is new
                ∙ ap (λ set. first_again (λ n. n) set (column_names (drop (i + 1) all))) names;
            before = c.loop-place.invariant.before
                ∙ text_passed (column_names (take i all)) all i e w.in-Column.column c.loop-place-test.true c.index-elements-place.is w.in-Column.is new
                ∙ ap (λ set. take (i + 1) all ++ before_column_again set (drop (i + 1) all)) names;
          }
      | in_default w ↦
          let names = sym (names_without all i e c.loop-place-test.true c.index-elements-place.is w.in_default.is) in
          record {
            name = c.loop-place.invariant.name
                ∙ column_skipped (column_names (take i all)) all i e c.loop-place-test.true c.index-elements-place.is w.in_default.is
                ∙ ap (λ set. first_again (λ n. n) set (column_names (drop (i + 1) all))) names;
            before = c.loop-place.invariant.before
                ∙ text_skipped (column_names (take i all)) all i e c.loop-place-test.true c.index-elements-place.is w.in_default.is
                ∙ ap (λ set. take (i + 1) all ++ before_column_again set (drop (i + 1) all)) names;
          }
    ]
